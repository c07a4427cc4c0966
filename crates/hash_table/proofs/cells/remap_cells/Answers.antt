use Rattle.std.proofs.Common.{◌∙◌, ap, cond, map, arith}
use Rattle.hash_table.specs.Cells.{cell_moved}
use Rattle.hash_table.proofs.Moving.{moved_more, moved_all}
use Rattle.hash_table.proofs.cells.remap_cells.Goals as goal

pub loop-i-preserved : goal.loop-i-preserved
loop-i-preserved g c =
    record {
      room = c.put.ensures.room ∙ c.loop-i.invariant.room;
      behind =
          moved_more
          c.args.places.now
          c.loop-i.i
          (g.M.Memory.items c.args.memory.now)
          (g.M.Memory.items c.loop-i.memory)
          c.loop-i.invariant.behind
          _
          c.at-cell.result
          c.new_place-slot.result
          (omega arith)
          c.at-cell.ensures
          c.new_place-slot.ensures
          c.put.ensures.items;
    }

pub returns-clause-step : goal.returns-clause-step
returns-clause-step g c =
    let xs = g.M.Memory.items c.args.memory.now in
    ap (λ ys. (0, ys)) (moved_all c.args.places.now c.loop-i.i xs (g.M.Memory.items c.loop-i.memory) c.loop-i.invariant.behind (omega arith))
    ∙ ap (λ b. cond b (0, map (cell_moved c.args.places.now) xs) (11, xs)) c.if-not-all_placed.ensures
