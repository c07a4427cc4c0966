-- What a slot that holds a record tells.
use Rattle.std.proofs.Common.{◌≡◌, ℕ, zero, suc, ◌<◌, List, [], ◌∷◌, length, Some, arith}
use Rattle.base.proofs.Options.{none_some}
use Rattle.item_set.specs.declared.slot.ItemSlot.{ItemSlot}
use Rattle.item_set.specs.declared.slot.ItemSlot.TheVariants.{Occupied, Vacant}
use Rattle.item_set.specs.Slots.{at, held}

module _ {R : Type 0} where
  pub occupied : (x : ItemSlot R) (r : R) → held x ≡ Some r → x ≡ Occupied r
  occupied (Occupied s) r e = cc
  occupied (Vacant n) r e = absurd (none_some e)

  pub occupied_within : (xs : List (ItemSlot R)) (i : ℕ) (r : R) → at xs i ≡ Occupied r → i < length xs
  occupied_within [] i r e = let z : ◌≡◌ {A = ℕ} 0 1 = cc in absurd (omega arith)
  occupied_within (x ∷ xs) zero r e = omega arith
  occupied_within (x ∷ xs) (suc i) r e = let l = occupied_within xs i r e in omega arith
