-- The chain of vacant slots.
use Rattle.std.specs.Prelude.{◌≡◌, ℕ, ◌+◌, ◌<◌, ◌≤◌, List, [], ◌∷◌, length, ◌≢◌}
use Rattle.std.specs.List.{AllByRecursion}
use Rattle.base.specs.Counting.{sentinel}
use Rattle.item_set.specs.declared.slot.ItemSlot.{ItemSlot}
use Rattle.item_set.specs.declared.slot.ItemSlot.TheVariants.{Vacant}
use Rattle.item_set.specs.Slots.{at, next}
use Rattle.item_set.specs.States.{State, standing}

abbrev pub Avoids : ℕ → List ℕ → Type 0
Avoids i is = AllByRecursion (λ j. j ≢ i) is

-- from h the chain visits these slots, each of them vacant and none twice, and ends at the sentinel
abbrev pub Chain : {R : Type 0} → List (ItemSlot R) → ℕ → List ℕ → Type 0
Chain xs h [] = h ≡ sentinel
Chain xs h (i ∷ is) = (h ≡ i) × (i < length xs) × (at xs i ≡ Vacant (next (at xs i))) × Avoids i is × Chain xs (next (at xs i)) is

-- the chain visits every vacant slot, and there are no more slots than records may stand
pub record Linked {R : Type 0} (s : State R) : Type 0 where
  pub free : List ℕ
  pub chain : Chain s.slots s.head free
  pub whole : length free + standing s ≡ length s.slots
  pub within : length s.slots ≤ s.capacity
  pub small : s.capacity ≤ 4096
