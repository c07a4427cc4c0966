use Rattle.std.proofs.Common.{◌∙◌}
use Rattle.base.specs.Counting.{sentinel}
use Rattle.memory.proofs.Storing.{read_or}
use Rattle.item_set.specs.declared.slot.ItemSlot.TheVariants.{Vacant}
use Rattle.item_set.proofs.set.slot_at.Goals as goal

pub returns : goal.returns
returns g c = c.unwrap_or.ensures ∙ read_or (Vacant sentinel) c.read.result (g.M.Memory.items c.args.items.now) c.args.slot c.read.ensures
