-- A compaction is the model's shrink.
use Rattle.std.proofs.Common.{◌≡◌, ℕ, Bool, true, false, cond, eqb, ltb, List, [], length, Some, None, sym, refl, ap, ◌∙◌}
use Rattle.std.proofs.lemmas.Bool.{eqb-true}
use Rattle.base.proofs.Options.{none_some}
use Rattle.item_set.specs.Compacting.{compacts, noted, compacting}
use Rattle.item_set.specs.declared.remap.IndexRemap.{IndexRemap}
use Rattle.item_set.specs.declared.remap.IndexRemap.TheVariants.{Identity, Permuted}
use Rattle.item_set.specs.Slots.{anyone}
use Rattle.item_set.specs.States.{State, standing, packed}
use Rattle.item_set.proofs.Packing.{tally_closed}
use Rattle.model.specs.Answers.{goes, counted, refused}
use Rattle.model.specs.Shrinking.{ScratchStep, with_scratch, packing, shrinking}

module _ {R : Type 0} (s t : State R) (ws vs : List ℕ) where
  abbrev counts : List ℕ → State R → ℕ → ScratchStep R
  counts us u n = with_scratch us (goes u (counted n))

  abbrev refuses : List ℕ → State R → ScratchStep R
  refuses us u = with_scratch us (goes u (refused 7 []))

  answers : (u : State R) (us : List ℕ) (n k : ℕ) → t ≡ u → vs ≡ us → n ≡ k → counts vs t n ≡ counts us u k
  answers u us n k et ev en = ap (λ x. counts vs x n) et ∙ ap (λ (xs : List ℕ). counts xs u n) ev ∙ ap (counts us u) en

  -- the slots left are as many as records stand
  pub shrunk_some : (o : IndexRemap) (n : ℕ) → compacts (Some o) t vs ≡ compacting s ws → n ≡ standing t → counts vs t n ≡ shrinking ws s
  shrunk_some o n e en = go (eqb (standing s) (length s.slots)) (ltb (length ws) (length s.slots)) refl e
    where
      go : (b d : Bool) → eqb (standing s) (length s.slots) ≡ b → compacts (Some o) t vs ≡ cond b (compacts (Some Identity) s ws) (cond d (compacts None s ws) (compacts (Some Permuted) (packed s) (noted s ws))) → counts vs t n ≡ cond b (counts ws s (length s.slots)) (cond d (refuses ws s) (packing ws s))
      go true d eb q = answers s ws n (length s.slots) (ap (λ x. x.after) q) (ap (λ x. x.scratch) q) (en ∙ ap (λ x. standing x.after) q ∙ eqb-true (standing s) (length s.slots) eb)
      go false true eb q = absurd (none_some (sym (ap (λ x. x.remap) q)))
      go false false eb q = answers (packed s) (noted s ws) n (standing s) (ap (λ x. x.after) q) (ap (λ x. x.scratch) q) (en ∙ ap (λ x. standing x.after) q ∙ tally_closed anyone s.slots)
