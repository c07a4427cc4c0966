-- The cells of a table's memory as pairs.
use Rattle.std.specs.Prelude.{◌≡◌, ℕ, ◌<◌, Bool, true, false, cond, ◌&&◌, List, map, length, All, ◌==◌, slice_index_or}
use Rattle.base.specs.Counting.{times}
use Rattle.hash_table.specs.Pairs.{new_slot, homeless}
use Rattle.hash_table.specs.declared.index.HashedIndex.{HashedIndex}
use Rattle.hash_table.specs.declared.index.Mark.{Mark}
use Rattle.hash_table.specs.declared.index.Mark.TheVariants.{Empty, Occupied, Removed}

abbrev pub pair_of : HashedIndex → ℕ × ℕ
pair_of c = (c.hash, c.slot)

abbrev pub pairs_of : List HashedIndex → List (ℕ × ℕ)
pairs_of cs = map pair_of cs

-- place i has a pair, and it is this one
abbrev pub Stands : List HashedIndex → ℕ → ℕ → ℕ → Type 0
Stands cs h s i = (i < length cs) × (slice_index_or (pairs_of cs) i (0, 0) ≡ (h, s))

abbrev pub empty_cell : HashedIndex
empty_cell = record { hash = 0; slot = 0; mark = Empty }

-- the cell at a place: past the last one all are empty
abbrev pub cell_at : List HashedIndex → ℕ → HashedIndex
cell_at cs i = slice_index_or cs i empty_cell

abbrev pub says_occupied : Mark → Bool
says_occupied Empty = false
says_occupied Occupied = true
says_occupied Removed = false

-- the cell holds a pair
abbrev pub held : HashedIndex → Bool
held c = says_occupied c.mark

-- the cell holds a pair that passes the test
abbrev pub holding : (ℕ × ℕ → Bool) → HashedIndex → Bool
holding q c = held c && q (pair_of c)

-- every cell holds a pair
abbrev pub AllHeld : List HashedIndex → Type 0
AllHeld cs = All (λ c. held c ≡ true) cs

abbrev pub cell_moved : List ℕ → HashedIndex → HashedIndex
cell_moved places c = record { hash = c.hash; slot = new_slot places c.slot; mark = c.mark }

-- the slot of every cell moved, or 11 and nothing done where one that holds a pair has no new place
abbrev pub moving : List ℕ → List HashedIndex → ℕ × List HashedIndex
moving places cs = cond (times (holding (homeless places)) cs == 0) (0, map (cell_moved places) cs) (11, cs)
