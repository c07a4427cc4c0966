use Rattle.std.proofs.Common.{◌-◌, ◌≤◌}
use Rattle.hash_table.proofs.Walking.{Ahead}
use Rattle.hash_table.proofs.linear.candidate_in.Given as goal

abbrev pub invariant-loop-i : goal.invariant-loop-i
invariant-loop-i g l = (l.seen ≤ l.k) × Ahead l.hash l.k (l.k - l.seen) l.i (g.M.Memory.items l.memory)
