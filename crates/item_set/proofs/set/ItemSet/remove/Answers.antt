use Rattle.std.proofs.Common.{refl, arith}
use Rattle.item_set.specs.declared.slot.ItemSlot.TheVariants.{Vacant}
use Rattle.item_set.proofs.Growing.{counts_one, ready_freed, wrote}
use Rattle.item_set.proofs.set.ItemSet.remove.Goals as goal

pub overflow_sub-self : goal.overflow_sub-self
overflow_sub-self g c = omega (arith, counts_one g.M.Memory c.self.inside c.args.slot c.in_ok-record.record c.self.invariant (rw (← c.self.view_is) at c.in_ok-record.ensures))

pub invariant_of-self-2 : goal.invariant_of-self-2
invariant_of-self-2 g c =
    let p = wrote c.write.result _ (g.M.Memory.items c.self.inside.items) (g.M.Memory.items c.write.new.self) c.args.slot (Vacant c.self.inside.free_head) c.in_ok-ok.ensures.value c.write.ensures.step in
    ready_freed g.M.Memory c.self.inside _ c.args.slot c.in_ok-record.record c.self.invariant (rw (← c.self.view_is) at c.in_ok-record.ensures) p.1 refl refl refl c.write.ensures.room
