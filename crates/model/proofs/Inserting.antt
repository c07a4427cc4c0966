-- The step of an insert, by what was found.
use Rattle.std.proofs.Common.{◌≡◌, ◌≤◌, Bool, false, eqb, [], ◌∷◌, length, sym, ap, ◌∙◌, arith}
use Rattle.std.proofs.lemmas.Bool.{ne_eqb}
use Rattle.item_set.specs.Slots.{tally, shown}
use Rattle.item_set.specs.States.{State}
use Rattle.model.specs.Answers.{goes, refused}
use Rattle.model.specs.declared.Duplicates.{Duplicates}
use Rattle.model.specs.declared.Duplicates.TheVariants.{One, Two}
use Rattle.model.specs.Model.{either, inserting}
use Rattle.model.specs.Told.{listed}
use Rattle.model.proofs.Finding.{length_shown}

module _ {R : Type 0} (p q : R → Bool) (r : R) (s : State R) where
  -- no record shares a key
  pub none_share : [] ≡ shown (either p q) s.slots → tally (either p q) s.slots ≡ 0
  none_share e = sym (length_shown (either p q) s.slots) ∙ sym (ap length e)

  some_listed : (d : Duplicates R) → 1 ≤ length (listed d)
  some_listed (One a) = omega arith
  some_listed (Two a b) = omega arith

  pub inserting_shared : (d : Duplicates R) → listed d ≡ shown (either p q) s.slots → goes s (refused 1 (r ∷ listed d)) ≡ inserting p q r s
  inserting_shared d e =
      let n : eqb (tally (either p q) s.slots) 0 ≡ false =
      ne_eqb _ _ (λ z. omega (arith, z, length_shown (either p q) s.slots, ap length e, some_listed d)) in
      rw (n, e)
