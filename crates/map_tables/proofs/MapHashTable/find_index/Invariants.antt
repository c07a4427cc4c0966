use Rattle.map_tables.proofs.Searching.{Passed}
use Rattle.model.specs.Model.{has}
use Rattle.map_tables.proofs.MapHashTable.find_index.Given as goal

abbrev pub invariant-loop-k : goal.invariant-loop-k
invariant-loop-k g l =
    Passed (has g.S.Side.part g.S.K.Key.same l.key) l.items.slots (g.A.HashTable.pairs l.self.items) l.hash l.k
