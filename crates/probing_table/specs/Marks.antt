-- Cells by their marks.
use Rattle.std.specs.Prelude.{ℕ, Bool, true, false, ◌==◌}
use Rattle.hash_table.specs.Cells.{holding}
use Rattle.hash_table.specs.declared.index.HashedIndex.{HashedIndex}
use Rattle.hash_table.specs.declared.index.Mark.{Mark}
use Rattle.hash_table.specs.declared.index.Mark.TheVariants.{Empty, Occupied, Removed}

abbrev pub says_empty : Mark → Bool
says_empty Empty = true
says_empty Occupied = false
says_empty Removed = false

abbrev pub says_removed : Mark → Bool
says_removed Empty = false
says_removed Occupied = false
says_removed Removed = true

abbrev pub vacant : HashedIndex → Bool
vacant c = says_empty c.mark

abbrev pub removed : HashedIndex → Bool
removed c = says_removed c.mark

abbrev pub has_hash : ℕ → ℕ × ℕ → Bool
has_hash h p = p.0 == h

-- the cell holds a pair with the hash
abbrev pub answers : ℕ → HashedIndex → Bool
answers h c = holding (has_hash h) c

abbrev pub removed_cell : HashedIndex
removed_cell = record { hash = 0; slot = 0; mark = Removed }
