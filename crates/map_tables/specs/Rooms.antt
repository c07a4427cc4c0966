-- How many records fit.
use Rattle.std.specs.Prelude.{ℕ, min}
use Rattle.hash_table.specs.declared.HashTable as table
use Rattle.item_set.specs.declared.slot.ItemSlot.{ItemSlot}
use Rattle.memory.specs.declared.Memory as memory
use Rattle.map_tables.specs.declared.parts.Parts.{Parts}

-- what the parts of a map have room for: the least of the memory and the two tables
abbrev pub parts_room : {T M A B H : Type 0} → memory.Ghosts M (ItemSlot T) → table.Ghosts A → table.Ghosts B → Parts M A B H → ℕ
parts_room m a b parts = min (m.room parts.memory) (min (a.room parts.first) (b.room parts.second))
