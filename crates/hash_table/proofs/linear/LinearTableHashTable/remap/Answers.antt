use Rattle.hash_table.proofs.Moving.{remapped}
use Rattle.hash_table.proofs.linear.LinearTableHashTable.remap.Goals as goal

pub invariant_of-self : goal.invariant_of-self
invariant_of-self g c = (remapped c.args.places.now _ _ _ c.self.invariant c.remap_cells.ensures.step).0

pub returns-clause-step : goal.returns-clause-step
returns-clause-step g c = rw (← c.self.view_is) (remapped c.args.places.now _ _ _ c.self.invariant c.remap_cells.ensures.step).1
