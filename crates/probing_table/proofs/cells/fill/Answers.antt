use Rattle.std.proofs.Common.{replicate, ap, ◌∙◌, arith}
use Rattle.hash_table.specs.Cells.{empty_cell}
use Rattle.probing_table.proofs.Stored.{pushed}
use Rattle.probing_table.proofs.cells.fill.Goals as goal

pub loop-i-preserved : goal.loop-i-preserved
loop-i-preserved g c = (
  c.push.ensures.room ∙ c.loop-i.invariant.0,
  pushed c.push.result (g.M.Memory.room c.loop-i.memory) c.loop-i._i (g.M.Memory.items c.loop-i.memory) (g.M.Memory.items c.push.new.self) empty_cell c.push.ensures.step c.loop-i.invariant.1 (omega arith),
)

pub returns : goal.returns
returns g c = record { room = c.loop-i.invariant.0 ∙ c.truncate.ensures.room; items = c.loop-i.invariant.1 ∙ ap (λ n. replicate n empty_cell) (omega arith) }
