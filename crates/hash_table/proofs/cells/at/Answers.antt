use Rattle.std.proofs.Common.{◌∙◌}
use Rattle.memory.proofs.Storing.{read_or}
use Rattle.hash_table.specs.Cells.{empty_cell}
use Rattle.hash_table.proofs.cells.at.Goals as goal

pub returns : goal.returns
returns g c = c.unwrap_or.ensures ∙ read_or empty_cell c.read.result (g.M.Memory.items c.args.memory.now) c.args.place c.read.ensures
