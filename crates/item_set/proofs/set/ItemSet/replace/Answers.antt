use Rattle.std.proofs.Common.{refl}
use Rattle.item_set.specs.declared.slot.ItemSlot.TheVariants.{Occupied}
use Rattle.item_set.proofs.Growing.{ready_exchanged, wrote}
use Rattle.item_set.proofs.set.ItemSet.replace.Goals as goal

pub invariant_of-self-2 : goal.invariant_of-self-2
invariant_of-self-2 g c =
    let p = wrote c.write.result _ (g.M.Memory.items c.self.inside.items) (g.M.Memory.items c.write.new.self) c.args.slot (Occupied c.args.replacement) c.in_ok-ok.ensures.value c.write.ensures.step in
    ready_exchanged g.M.Memory c.self.inside _ c.args.slot c.in_ok-record.record c.args.replacement c.self.invariant (rw (← c.self.view_is) at c.in_ok-record.ensures) p.1 refl refl refl c.write.ensures.room
