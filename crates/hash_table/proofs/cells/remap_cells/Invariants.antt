use Rattle.std.proofs.Common.{◌≡◌}
use Rattle.hash_table.proofs.Moving.{Moved}
use Rattle.hash_table.proofs.cells.remap_cells.Given as goal

abbrev pub invariant-loop-i : goal.invariant-loop-i
invariant-loop-i g l =
    record {
      room : g.M.Memory.room l.memory ≡ g.M.Memory.room l.initial.memory;
      behind : Moved l.places l.i (g.M.Memory.items l.initial.memory) (g.M.Memory.items l.memory);
    }
