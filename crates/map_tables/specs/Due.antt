-- What a table has to hold for the slots of a map.
use Rattle.std.specs.Prelude.{ℕ, suc, ◌≤◌, Bool, List, [], ◌∷◌}
use Rattle.base.specs.Counting.{Same}
use Rattle.hash_table.specs.declared.HashTable as table
use Rattle.hashing.specs.declared.WordHash as hasher
use Rattle.item.specs.declared.Key as key
use Rattle.item_set.specs.declared.slot.ItemSlot.{ItemSlot}
use Rattle.item_set.specs.declared.slot.ItemSlot.TheVariants.{Occupied, Vacant}
use Rattle.item_set.specs.Slots.{tally}
use Rattle.item_set.specs.States.{State}
use Rattle.model.specs.Model.{has}

-- for each standing record the hash of its key, and its slot, counted from n
abbrev pub due : {R : Type 0} → (R → ℕ) → ℕ → List (ItemSlot R) → List (ℕ × ℕ)
due hash n [] = []
due hash n (Occupied r ∷ xs) = (hash r, n) ∷ due hash (suc n) xs
due hash n (Vacant m ∷ xs) = due hash (suc n) xs

-- the hash of one of a record's keys
abbrev pub key_hash : {R K H : Type 0} → hasher.Ghosts H → H → key.Ghosts K → (R → K) → R → ℕ
key_hash h hasher k part r = h.hashed hasher (k.words (part r))

-- the table holds one pair for each standing record and no other, and has room for all that may stand
pub record Indexed {R A : Type 0} (a : table.Ghosts A) (hash : R → ℕ) (s : State R) (t : A) : Type 0 where
  pub pairs : Same (a.pairs t) (due hash 0 s.slots)
  pub room : s.capacity ≤ a.room t

-- and a key finds at most one slot: what a search needs
pub record Searchable {R K A : Type 0} (part : R → K) (same : K → K → Bool) (a : table.Ghosts A) (hash : R → ℕ) (s : State R) (t : A) : Type 0 where
  pub indexed : Indexed a hash s t
  pub once : (k : K) → tally (has part same k) s.slots ≤ 1
