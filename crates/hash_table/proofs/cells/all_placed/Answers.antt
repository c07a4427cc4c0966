use Rattle.std.proofs.Common.{not, ◌∙◌, refl, rules, tests, arith}
use Rattle.std.proofs.lemmas.Iterator.{YieldsList-from_range}
use Rattle.std.proofs.lemmas.Iterator.Search.{all_from_yields_List}
use Rattle.hash_table.specs.Cells.{cell_at, holding}
use Rattle.hash_table.specs.Pairs.{homeless}
use Rattle.hash_table.proofs.Celled.{none_of_cells}
use Rattle.hash_table.proofs.cells.all_placed.Goals as goal

pub returns : goal.returns
returns g c =
    let xs = g.M.Memory.items c.args.memory.now in
    let lost = holding (homeless c.args.places.now) in
    all_from_yields_List (λ i. not (lost (cell_at xs i))) _ _ _ c.all.ensures.ran (YieldsList-from_range 0 c.len.result c.len.result refl (omega arith)) (λ x b q k. search (rules, tests))
    ∙ none_of_cells lost xs c.len.result c.len.ensures.count
