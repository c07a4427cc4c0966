use Rattle.hash_table.proofs.Celled.{push_pairs}
use Rattle.hash_table.proofs.linear.LinearTableHashTable.add.Goals as goal

pub returns-clause-pairs : goal.returns-clause-pairs
returns-clause-pairs g c =
    rw (← c.self.view_is) (push_pairs c.push.result _ (g.M.Memory.items c.self.inside.memory) _ _ c.push.ensures.step)
