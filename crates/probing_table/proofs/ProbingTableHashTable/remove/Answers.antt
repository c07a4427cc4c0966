use Rattle.hash_table.proofs.Answering.{removing_one}
use Rattle.probing_table.proofs.Calls.{emptied, taken}
use Rattle.probing_table.proofs.ProbingTableHashTable.remove.Goals as goal

pub tidy-requires-clause-laid : goal.tidy-requires-clause-laid
tidy-requires-clause-laid g c = emptied _ _ _ _ _ _ _ _ c.put.ensures.room c.put.ensures.items (rw c.in_ok-place.ensures.ok_part at c.place_of.ensures) c.self.invariant

pub invariant_of-self : goal.invariant_of-self
invariant_of-self g c =
    (taken _ _ _ _ _ _ _ _ _ _ _ c.put.ensures.room c.tidy.ensures.room c.put.ensures.items c.tidy.ensures.tidied (rw c.in_ok-place.ensures.ok_part at c.place_of.ensures) c.saturating_sub-self-inside.ensures c.self.invariant).0

pub returns-clause-code : goal.returns-clause-code
returns-clause-code g c =
    rw (← c.self.view_is)
    (removing_one _ c.args.hash c.args.slot _ (taken _ _ _ _ _ _ _ _ _ _ _ c.put.ensures.room c.tidy.ensures.room c.put.ensures.items c.tidy.ensures.tidied (rw c.in_ok-place.ensures.ok_part at c.place_of.ensures) c.saturating_sub-self-inside.ensures c.self.invariant).1)

pub returns-clause-pairs : goal.returns-clause-pairs
returns-clause-pairs g c =
    rw (← c.self.view_is)
    (taken _ _ _ _ _ _ _ _ _ _ _ c.put.ensures.room c.tidy.ensures.room c.put.ensures.items c.tidy.ensures.tidied (rw c.in_ok-place.ensures.ok_part at c.place_of.ensures) c.saturating_sub-self-inside.ensures c.self.invariant).1
