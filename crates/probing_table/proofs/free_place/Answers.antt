use Rattle.std.proofs.Common.{not, rules, tests, arith}
use Rattle.std.proofs.lemmas.Iterator.{YieldsList-from_range, YieldsList-from_map}
use Rattle.std.proofs.lemmas.Iterator.Search.{find_from_yields_List}
use Rattle.hash_table.specs.Cells.{held, cell_at}
use Rattle.hash_table.proofs.Celled.{nth_told}
use Rattle.probing_table.specs.Probed.{spot}
use Rattle.probing_table.proofs.Probing.{free_met}
use Rattle.probing_table.proofs.free_place.Goals as goal

pub returns : goal.returns
returns g c =
    let n = g.M.Memory.room c.args.memory.now in
    let xs = g.M.Memory.items c.args.memory.now in
    let p = c.home-start.result in
    let m = c.capacity-n.result in
    free_met n xs c.args.hash p m c.requires c.home-start.ensures.below c.home-start.ensures.is c.capacity-n.ensures c.find.result
    (nth_told c.find.result
    (find_from_yields_List (λ i. not (held (cell_at xs i))) _ _ c.find.result c.find.ensures.ran
    (YieldsList-from_map _ (spot m p) (YieldsList-from_range 0 m m (cc) (omega arith)) c.map.ensures.closure (λ x r q k. search (rules, tests)))
    (λ x b q k. search (rules, tests))))
