use Rattle.std.proofs.Common.{◌<◌, ◌≤◌, length, refl, ◌∙◌, arith}
use Rattle.item_set.proofs.Packing.{packing_moved, packing_left, packing_all, ready_packed}
use Rattle.item_set.proofs.set.ItemSet.compact.Goals as goal
use Rattle.item_set.proofs.set.ItemSet.compact.Goals.{then-advance, else-advance}

pub loop-slot-preserved : goal.loop-slot-preserved
loop-slot-preserved g c =
    let xs = g.M.Memory.items c.self.inside.items in
    let ys = g.M.Memory.items c.loop-slot.self-inside.items in
    let zs = g.M.Memory.items c.advance.new.items in
    let n = c.loop-slot.slot in
    let inv = c.loop-slot.invariant in
    let v = rw (← c.self.view_is) at c.slots-slots.ensures.count in
    let l : n < length xs = omega arith in
    let h : length xs ≤ length c.args.scratch.now = omega arith in
    record {
      most = elim c.if-advance.branch [ then-advance w ↦ omega (arith, w.free-is, inv.most) | else-advance w ↦ omega (arith, w.free-is, inv.most) ];
      len = inv.len;
      capacity = inv.capacity;
      room = c.advance.ensures.room ∙ inv.room;
      packing = elim c.if-advance.branch [
        | then-advance w ↦ rw (w.scratch-is, w.free-is) (packing_moved xs c.args.scratch.now n ys c.loop-slot.scratch c.loop-slot.free inv.packing l h zs (rw w.if-advance.true at c.advance.ensures.step))
        | else-advance w ↦ rw (w.scratch-is, w.free-is) (packing_left xs c.args.scratch.now n ys c.loop-slot.scratch c.loop-slot.free inv.packing l h zs (rw w.if-advance.false at c.advance.ensures.step))
      ];
    }

pub invariant_of-self : goal.invariant_of-self
invariant_of-self g c =
    let v = rw (← c.self.view_is) at c.slots-slots.ensures.count in
    let inv = c.loop-slot.invariant in
    let p = packing_all (g.M.Memory.items c.self.inside.items) c.args.scratch.now c.loop-slot.slot (g.M.Memory.items c.loop-slot.self-inside.items) c.loop-slot.scratch c.loop-slot.free inv.packing (omega arith) in
    ready_packed g.M.Memory c.self.inside _ c.self.invariant (c.truncate.ensures.items ∙ p.0) refl inv.capacity inv.len (c.truncate.ensures.room ∙ inv.room)
