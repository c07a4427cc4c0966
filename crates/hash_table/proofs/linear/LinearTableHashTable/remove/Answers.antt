use Rattle.std.proofs.Common.{◌-◌, ◌∷◌, ◌∙◌, arith}
use Rattle.std.proofs.lemmas.List.{get_or_default}
use Rattle.base.specs.Counting.{Same}
use Rattle.hash_table.specs.Cells.{pairs_of, empty_cell}
use Rattle.hash_table.proofs.Answering.{removing_one}
use Rattle.hash_table.proofs.Celled.{swap_out_pairs}
use Rattle.hash_table.proofs.linear.LinearTableHashTable.remove.Goals as goal

-- what the three calls on the memory leave
out : (g : _) (c : goal.After-truncate g) → Same (pairs_of (g.M.Memory.items c.self.inside.memory)) ((c.args.hash, c.args.slot) ∷ pairs_of (g.M.Memory.items c.truncate.new.self))
out g c =
    let xs = g.M.Memory.items c.self.inside.memory in
    let x = c.at-cell.result in
    let found = rw c.in_ok-place.ensures.ok_part at c.place_of.ensures in
    swap_out_pairs
    xs
    (g.M.Memory.items c.put.new.memory)
    (g.M.Memory.items c.truncate.new.self)
    c.in_ok-place.place
    (c.len-last.result - 1)
    x
    (c.args.hash, c.args.slot)
    found.0
    (omega arith)
    found.1
    (c.at-cell.ensures ∙ get_or_default xs (c.len-last.result - 1) empty_cell x (omega arith))
    c.put.ensures.items
    c.truncate.ensures.items

pub returns-clause-code : goal.returns-clause-code
returns-clause-code g c =
    rw (← c.self.view_is) (removing_one (pairs_of (g.M.Memory.items c.self.inside.memory)) c.args.hash c.args.slot _ (out g c))

pub returns-clause-pairs : goal.returns-clause-pairs
returns-clause-pairs g c = rw (← c.self.view_is) (out g c)
