-- What an answer tells where the set was full, and where it was not.
use Rattle.std.proofs.Common.{◌≡◌, ℕ, Bool, true, false, cond, [], leb, Some, None, Option, refl, ap}
use Rattle.std.proofs.lemmas.Bool.{eq-eqb}
use Rattle.std.specs.Option.{ok_or}
use Rattle.item_set.specs.Slots.{tally}
use Rattle.item_set.specs.States.{State, standing, taken, takes, granted, growing}
use Rattle.model.specs.Answers.{goes, refused, placed}
use Rattle.model.specs.declared.MapRefusal.TheVariants.{Full}
use Rattle.model.specs.declared.Overwritten.{Overwritten}
use Rattle.model.specs.Model.{either, inserting}
use Rattle.model.specs.Told.{inserted, overwritten}
use Rattle.indexed_items.specs.Overwriting.{committed}

module _ {R : Type 0} where
  pub overwritten_committed : (o : Option (Overwritten R)) → overwritten (ok_or o Full) ≡ committed o
  overwritten_committed None = refl
  overwritten_committed (Some x) = refl

  -- an insert, where nothing shares a key
  pub inserting_apart : (p q : R → Bool) (r : R) (s t : State R) (o : Option ℕ) → tally (either p q) s.slots ≡ 0 → ◌≡◌ {A = Option ℕ × State R} (o, t) (growing s r) → goes t (inserted (ok_or o Full)) ≡ inserting p q r s
  inserting_apart p q r s t o z e = rw (eq-eqb (tally (either p q) s.slots) 0 z) (go (leb s.capacity (standing s)) e)
    where
      go : (b : Bool) → ◌≡◌ {A = Option ℕ × State R} (o, t) (cond b (None, s) (granted s r)) → goes t (inserted (ok_or o Full)) ≡ cond b (goes s (refused 2 [])) (goes (taken s r) (placed (takes s) []))
      go true e = ap (λ x. goes x.1 (inserted (ok_or x.0 Full))) e
      go false e = ap (λ x. goes x.1 (inserted (ok_or x.0 Full))) e
