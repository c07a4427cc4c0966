use Rattle.probing_table.proofs.Writing.{filled}
use Rattle.probing_table.proofs.ProbingTableHashTable.clear.Goals as goal

pub invariant_of-self : goal.invariant_of-self
invariant_of-self g c = (filled (g.M.Memory.room c.self.inside.memory) _ _ c.fill.ensures.room c.fill.ensures.items).0

pub returns-clause-pairs : goal.returns-clause-pairs
returns-clause-pairs g c = (filled (g.M.Memory.room c.self.inside.memory) _ _ c.fill.ensures.room c.fill.ensures.items).1
