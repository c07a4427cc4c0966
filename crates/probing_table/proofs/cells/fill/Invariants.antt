use Rattle.std.proofs.Common.{◌≡◌, replicate}
use Rattle.hash_table.specs.Cells.{empty_cell}
use Rattle.probing_table.proofs.cells.fill.Given as goal

abbrev pub invariant-loop-i : goal.invariant-loop-i
invariant-loop-i g l =
    (g.M.Memory.room l.memory ≡ g.M.Memory.room l.initial.memory)
    × (g.M.Memory.items l.memory ≡ replicate l._i empty_cell)
