use Rattle.std.proofs.Common.{◌≡◌, true, false, sym, refl, ap, ◌∙◌, subst, arith}
use Rattle.std.proofs.lemmas.Bool.{both_ways}
use Rattle.hash_table.specs.Cells.{cell_at}
use Rattle.probing_table.specs.Marks.{vacant, removed}
use Rattle.probing_table.specs.Probed.{met, LaidBut, Tidied}
use Rattle.probing_table.proofs.Writing.{swept_begins, swept_more, swept_stops, swept_ends}
use Rattle.probing_table.proofs.cells.tidy.Goals as goal

pub loop-j-init : goal.loop-j-init
loop-j-init g c =
    let xs = g.M.Memory.items c.args.memory.now in
    record {
      room = refl;
      there = omega (arith, c.requires.there);
      swept = swept_begins c.capacity-n.result xs c.args.place (subst (λ m. LaidBut c.args.place m xs) (sym c.capacity-n.ensures) c.requires.laid);
    }

pub returns-then-not-is_removed-clause-tidied : goal.returns-then-not-is_removed-clause-tidied
returns-then-not-is_removed-clause-tidied g c =
    let xs = g.M.Memory.items c.args.memory.now in
    let ys = g.M.Memory.items c.loop-j.memory in
    let b = c.loop-j.last in
    let held_on : removed (cell_at ys b) ≡ false = ap removed (sym c.at-cell.ensures) ∙ sym c.if-not-is_removed.ensures in
    subst (λ m. Tidied m xs ys) c.capacity-n.ensures (swept_stops c.capacity-n.result xs b c.loop-j._j ys c.loop-j.invariant.swept (λ gone _. both_ways (removed (cell_at ys b)) held_on gone))

pub returns-then-not-is_vacant-clause-tidied : goal.returns-then-not-is_vacant-clause-tidied
returns-then-not-is_vacant-clause-tidied g c =
    let xs = g.M.Memory.items c.args.memory.now in
    let ys = g.M.Memory.items c.loop-j.memory in
    let n = c.capacity-n.result in
    let b = c.loop-j.last in
    let next : vacant (met n ys b 1) ≡ false =
    ap (λ i. vacant (cell_at ys i)) (sym c.after.ensures.is) ∙ ap vacant (sym c.at-next.ensures) ∙ sym c.if-not-is_vacant.ensures
    in
    subst (λ m. Tidied m xs ys) c.capacity-n.ensures (swept_stops n xs b c.loop-j._j ys c.loop-j.invariant.swept (λ _ empty. both_ways (vacant (met n ys b 1)) next empty))

pub loop-j-preserved : goal.loop-j-preserved
loop-j-preserved g c =
    let ys = g.M.Memory.items c.loop-j.memory in
    let n = c.capacity-n.result in
    let b = c.loop-j.last in
    let gone : removed (cell_at ys b) ≡ true = ap removed (sym c.at-cell.ensures) ∙ sym c.if-not-is_removed.ensures in
    let next : vacant (met n ys b 1) ≡ true =
    ap (λ i. vacant (cell_at ys i)) (sym c.after.ensures.is) ∙ ap vacant (sym c.at-next.ensures) ∙ sym c.if-not-is_vacant.ensures
    in
    record {
      room = c.put.ensures.room ∙ c.loop-j.invariant.room;
      there = c.before-last.ensures.below;
      swept =
          swept_more
          n
          (g.M.Memory.items c.args.memory.now)
          b
          c.loop-j._j
          ys
          c.loop-j.invariant.swept
          c.before-last.result
          (g.M.Memory.items c.put.new.memory)
          c.loop-j.invariant.there
          gone
          next
          c.before-last.ensures.below
          c.before-last.ensures.is
          c.put.ensures.items;
    }

pub returns-clause-tidied : goal.returns-clause-tidied
returns-clause-tidied g c =
    let xs = g.M.Memory.items c.args.memory.now in
    let ys = g.M.Memory.items c.loop-j.memory in
    subst (λ m. Tidied m xs ys) c.capacity-n.ensures (swept_ends c.capacity-n.result xs c.loop-j.last c.loop-j._j ys c.loop-j.invariant.swept (omega arith))
