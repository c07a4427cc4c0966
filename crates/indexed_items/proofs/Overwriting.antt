-- A commit is the model's overwrite.
use Rattle.std.proofs.Common.{◌≡◌, Bool, cond, leb, ◌⊎◌, [], ap, ◌∙◌, inl, inr, arith}
use Rattle.std.proofs.lemmas.Bool.{cases_eq, eq-eqb, ne_eqb, lt-leb}
use Rattle.item_set.specs.Chains.{Linked}
use Rattle.item_set.specs.Slots.{tally}
use Rattle.item_set.specs.States.{State, standing, taken, takes}
use Rattle.model.specs.Answers.{goes, refused, placed}
use Rattle.model.specs.Model.{either, find, without, cleared, ousted, overwriting}
use Rattle.model.proofs.Displacing.{cleared_same, cleared_room, same_capacity}
use Rattle.indexed_items.specs.Overwriting.{committing}

module _ {R : Type 0} (p q : R → Bool) (r : R) (s : State R) where
  pub overwriting_commits : Linked s → committing p q r s ≡ overwriting p q r s
  overwriting_commits k = go (cases_eq (tally (either p q) s.slots) 0)
    where
      go : (tally (either p q) s.slots ≡ 0) ⊎ (tally (either p q) s.slots ≡ 0 → ⊥) → committing p q r s ≡ overwriting p q r s
      go (inl z) =
          let same = cleared_same p q s z in
          rw (eq-eqb (tally (either p q) s.slots) 0 z) (ap (λ x. cond (leb x.capacity (standing x)) (goes x (refused 2 [])) (goes (taken x r) (placed (takes x) (ousted p q s)))) same.0
          ∙ ap (λ o. cond (leb s.capacity (standing s)) (goes s (refused 2 [])) (goes (taken s r) (placed (takes s) o))) same.1)
      go (inr n) =
          let room = cleared_room p q s (omega (arith, k.whole, k.within)) (omega arith) in
          let c : (cleared p q s).capacity ≡ s.capacity = same_capacity (without p s) (find q 0 (without p s).slots) ∙ same_capacity s (find p 0 s.slots) in
          rw (ne_eqb (tally (either p q) s.slots) 0 n, lt-leb (cleared p q s).capacity (standing (cleared p q s)) (omega arith))
