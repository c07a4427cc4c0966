use Rattle.std.proofs.Common.{refl, ◌∙◌, arith}
use Rattle.item_set.specs.declared.slot.ItemSlot.TheVariants.{Occupied}
use Rattle.item_set.specs.Sets.{meaning}
use Rattle.item_set.proofs.Growing.{granted_head, ready_taken, wrote, unwritten}
use Rattle.item_set.proofs.Links.{head_vacant}
use Rattle.item_set.proofs.set.ItemSet.fill.Goals as goal

-- the head is a slot
pub returns-in_err-ok : goal.returns-in_err-ok
returns-in_err-ok g c =
    let h = rw (← c.self.view_is) at c.requires.head in
    let p = unwritten c.write.result (g.M.Memory.items c.self.inside.items) _ c.args.slot _ c.in_err-ok.ensures.value c.write.ensures.step in
    let k = head_vacant (meaning g.M.Memory c.self.inside) c.self.invariant.linked (λ q. c.requires.vacant (h ∙ q)) in
    absurd (omega (arith, k.0))

pub invariant_of-self-2 : goal.invariant_of-self-2
invariant_of-self-2 g c =
    let h = rw (← c.self.view_is) at c.requires.head in
    let f = rw (← c.self.view_is) at c.requires.fits in
    let p = wrote c.write.result _ (g.M.Memory.items c.self.inside.items) (g.M.Memory.items c.write.new.self) c.args.slot (Occupied c.args.value) c.in_ok-ok.ensures.value c.write.ensures.step in
    let e = granted_head (meaning g.M.Memory c.self.inside) _ c.args.value c.args.slot c.link-after.result h c.requires.vacant p.1 (rw (← c.self.view_is) at c.link-after.ensures) in
    ready_taken g.M.Memory c.self.inside _ c.args.value _ c.self.invariant (omega (arith, c.self.invariant.counted)) e refl c.write.ensures.room
