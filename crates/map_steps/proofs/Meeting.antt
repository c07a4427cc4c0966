-- A walk that compares: what the slots ahead come to.
use Rattle.std.proofs.Common.{◌≡◌, ℕ, ◌+◌, ◌<◌, ◌≤◌, Bool, true, ◌&&◌, List, ◌∷◌, length, drop, Some, None, sym, refl, ap, ◌∙◌}
use Rattle.std.proofs.lemmas.List.{drop_more, drop_all}
use Rattle.base.specs.Counting.{sentinel}
use Rattle.base.proofs.Options.{none_some}
use Rattle.item.specs.Kinds.{Kind}
use Rattle.item_set.specs.declared.slot.ItemSlot.{ItemSlot}
use Rattle.item_set.specs.declared.slot.ItemSlot.TheVariants.{Occupied, Vacant}
use Rattle.item_set.specs.Slots.{at, held}
use Rattle.item_set.specs.States.{State}
use Rattle.item_set.proofs.Holding.{occupied}
use Rattle.model.specs.Model.{meets, all_meet}

module _ {R K1 K2 : Type 0} (kind : Kind R K1 K2) (alike : R → R → Bool) (t : State R) where
  ahead : (xs : List (ItemSlot R)) (i : ℕ) → i < length xs → all_meet kind alike t (drop i xs) ≡ all_meet kind alike t (at xs i ∷ drop (i + 1) xs)
  ahead xs i l = ap (all_meet kind alike t) (drop_more xs i (Vacant sentinel) l)

  -- a record is compared
  pub meet_some : (xs : List (ItemSlot R)) (i : ℕ) (r : R) (b : Bool) → i < length xs → held (at xs i) ≡ Some r → b ≡ meets kind alike t r → all_meet kind alike t (drop i xs) ≡ (b && all_meet kind alike t (drop (i + 1) xs))
  meet_some xs i r b l h e = ahead xs i l ∙ ap (λ x. all_meet kind alike t (x ∷ drop (i + 1) xs)) (occupied (at xs i) r h) ∙ ap (λ c. c && all_meet kind alike t (drop (i + 1) xs)) (sym e)

  vacant : (x : ItemSlot R) (xs : List (ItemSlot R)) → held x ≡ None → all_meet kind alike t (x ∷ xs) ≡ all_meet kind alike t xs
  vacant (Occupied r) xs e = absurd (none_some (sym e))
  vacant (Vacant n) xs e = refl

  -- a vacant slot is passed
  pub meet_none : (xs : List (ItemSlot R)) (i : ℕ) → i < length xs → held (at xs i) ≡ None → all_meet kind alike t (drop i xs) ≡ all_meet kind alike t (drop (i + 1) xs)
  meet_none xs i l h = ahead xs i l ∙ vacant (at xs i) (drop (i + 1) xs) h

  pub meet_all : (xs : List (ItemSlot R)) (i : ℕ) → length xs ≤ i → all_meet kind alike t (drop i xs) ≡ true
  meet_all xs i l = ap (all_meet kind alike t) (drop_all i xs l)
