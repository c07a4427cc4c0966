-- A record kind, as the reference model knows it: the two keys of a record, and when two keys are equal.
use Rattle.std.specs.Prelude.{Bool}
use Rattle.item.specs.declared.BiHashItem as item
use Rattle.item.specs.declared.Key as key

pub record Kind (R K1 K2 : Type 0) : Type 0 where
  pub key1 : R → K1
  pub key2 : R → K2
  pub same1 : K1 → K1 → Bool
  pub same2 : K2 → K2 → Bool

-- the kind that an implementation of the traits gives
abbrev pub kind_of : {R K1 K2 : Type 0} → item.Ghosts R K1 K2 → key.Ghosts K1 → key.Ghosts K2 → Kind R K1 K2
kind_of i k1 k2 = record { key1 = i.first; key2 = i.second; same1 = k1.same; same2 = k2.same }
