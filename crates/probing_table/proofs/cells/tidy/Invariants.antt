use Rattle.std.proofs.Common.{◌≡◌, ◌<◌}
use Rattle.probing_table.proofs.Writing.{Swept}
use Rattle.probing_table.proofs.cells.tidy.Given as goal

abbrev pub invariant-loop-j : goal.invariant-loop-j
invariant-loop-j g l =
    record {
      room : g.M.Memory.room l.memory ≡ g.M.Memory.room l.initial.memory;
      there : l.last < l.n;
      swept : Swept l.n l.last l._j (g.M.Memory.items l.initial.memory) (g.M.Memory.items l.memory);
    }
