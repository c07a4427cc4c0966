-- When records in slots and their two tables are in step.
use Rattle.std.specs.Prelude.{◌≡◌, ℕ, min, List, [], ◌∷◌, Some}
use Rattle.hash_table.specs.declared.HashTable as table
use Rattle.hashing.specs.declared.WordHash as hasher
use Rattle.item.specs.declared.BiHashItem as item
use Rattle.item.specs.declared.Key as key
use Rattle.item.specs.Kinds.{kind_of}
use Rattle.item_set.specs.declared.slot.ItemSlot.{ItemSlot}
use Rattle.item_set.specs.Slots.{at, held}
use Rattle.item_set.specs.States.{State}
use Rattle.map_tables.specs.Due.{key_hash, Indexed}
use Rattle.map_tables.specs.declared.parts.Parts.{Parts}
use Rattle.memory.specs.declared.Memory as memory
use Rattle.map_tables.specs.declared.BiHashMapTables.{BiHashMapTables}
use Rattle.model.specs.declared.Found.{Found}
use Rattle.model.specs.Model.{WellFormed}
use Rattle.indexed_items.specs.declared.removal.PreparedDuplicate.{PreparedDuplicate}

-- how many records may stand: the least of 4096, the number wanted, and what the tables and the memory hold
abbrev pub least : ℕ → ℕ → ℕ → ℕ → ℕ
least wanted room first second = min 4096 (min (min wanted (min first second)) room)

-- and for the parts of a map
abbrev pub least_of : {T M A B H : Type 0} → memory.Ghosts M (ItemSlot T) → table.Ghosts A → table.Ghosts B → ℕ → Parts M A B H → ℕ
least_of m a b wanted parts = least wanted (m.room parts.memory) (a.room parts.first) (b.room parts.second)

-- the hashes of a record's two keys
abbrev pub hashes_of : {T K1 K2 H : Type 0} → item.Ghosts T K1 K2 → key.Ghosts K1 → key.Ghosts K2 → hasher.Ghosts H → H → T → List ℕ
hashes_of i k1 k2 h state r = key_hash h state k1 i.first r ∷ key_hash h state k2 i.second r ∷ []

-- what is prepared of a standing record: its slot, and the hashes of its keys
abbrev pub prepared : {T K1 K2 H : Type 0} → item.Ghosts T K1 K2 → key.Ghosts K1 → key.Ghosts K2 → hasher.Ghosts H → H → Found T → PreparedDuplicate
prepared i k1 k2 h state f = record { index = f.slot; hashes = hashes_of i k1 k2 h state f.item }

-- the record that was found stands in its slot
abbrev pub Stands : {T : Type 0} → State T → Found T → Type 0
Stands s f = held (at s.slots f.slot) ≡ Some f.item

-- a key finds at most one slot, and each table holds one pair for each standing record, the hash of that key and the slot, and
-- no other
pub record Sound {T K1 K2 A B H : Type 0} (i : item.Ghosts T K1 K2) (k1 : key.Ghosts K1) (k2 : key.Ghosts K2)
    (a : table.Ghosts A) (b : table.Ghosts B) (h : hasher.Ghosts H)
    (records : State T) (tables : BiHashMapTables A B H) : Type 0 where
  pub well : WellFormed (kind_of i k1 k2) records
  pub first : Indexed a (key_hash h tables.state k1 i.first) records tables.k1_to_item.items
  pub second : Indexed b (key_hash h tables.state k2 i.second) records tables.k2_to_item.items
