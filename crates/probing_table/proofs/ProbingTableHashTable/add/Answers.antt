use Rattle.std.proofs.Common.{ap, arith}
use Rattle.hash_table.specs.Tables.{Table}
use Rattle.probing_table.proofs.Calls.{added}
use Rattle.probing_table.proofs.ProbingTableHashTable.add.Goals as goal

pub invariant_of-self : goal.invariant_of-self
invariant_of-self g c =
    (added _ _ _ _ _ _ _ _ c.put.ensures.room c.put.ensures.items (rw c.in_ok-place.ensures.ok_part at c.free_place.ensures) (omega (arith, ap (λ (t : Table). t.room) c.self.view_is)) c.self.invariant).0

pub returns-clause-pairs : goal.returns-clause-pairs
returns-clause-pairs g c =
    rw (← c.self.view_is) (added _ _ _ _ _ _ _ _ c.put.ensures.room c.put.ensures.items (rw c.in_ok-place.ensures.ok_part at c.free_place.ensures) (omega (arith, ap (λ (t : Table). t.room) c.self.view_is)) c.self.invariant).1
