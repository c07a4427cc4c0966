use Rattle.std.proofs.Common.{refl, arith}
use Rattle.item_set.specs.declared.slot.ItemSlot.TheVariants.{Occupied}
use Rattle.item_set.specs.Sets.{meaning}
use Rattle.item_set.proofs.Growing.{granted_end, ready_taken, pushed, unpushed}
use Rattle.item_set.proofs.Links.{end_full}
use Rattle.item_set.proofs.set.ItemSet.append.Goals as goal

pub returns-in_err-ok : goal.returns-in_err-ok
returns-in_err-ok g c =
    let w = c.self.invariant in
    let h = rw (← c.self.view_is) at c.requires.head in
    let f = rw (← c.self.view_is) at c.requires.fits in
    let p = unpushed c.push.result _ (g.M.Memory.items c.self.inside.items) _ _ c.in_err-ok.ensures.value c.push.ensures.step in
    absurd (omega (arith, end_full (meaning g.M.Memory c.self.inside) w.linked h, w.room, f))

pub invariant_of-self-2 : goal.invariant_of-self-2
invariant_of-self-2 g c =
    let h = rw (← c.self.view_is) at c.requires.head in
    let f = rw (← c.self.view_is) at c.requires.fits in
    let p = pushed c.push.result _ _ (g.M.Memory.items c.self.inside.items) (g.M.Memory.items c.push.new.self) (Occupied c.args.value) c.in_ok-ok.ensures.value c.push.ensures.step in
    let e = granted_end (meaning g.M.Memory c.self.inside) _ c.args.value c.len-slot.result h c.len-slot.ensures.count p in
    ready_taken g.M.Memory c.self.inside _ c.args.value _ c.self.invariant (omega (arith, c.self.invariant.counted)) e refl c.push.ensures.room
