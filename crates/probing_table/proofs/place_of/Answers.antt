use Rattle.std.proofs.Common.{not, ap, ◌∙◌, rules, tests, arith}
use Rattle.std.specs.Iterator.Adapters.{map_callee}
use Rattle.std.proofs.lemmas.Iterator.{YieldsList-from_range, YieldsList-from_map}
use Rattle.std.proofs.lemmas.Iterator.Search.{YieldsList-from_take_while, find_from_yields_List}
use Rattle.hash_table.specs.Cells.{cell_at, holding}
use Rattle.hash_table.specs.Pairs.{is_pair}
use Rattle.hash_table.proofs.Celled.{nth_told}
use Rattle.probing_table.specs.Marks.{vacant}
use Rattle.probing_table.specs.Probed.{spot}
use Rattle.probing_table.proofs.Probing.{place_met}
use Rattle.probing_table.proofs.place_of.Goals as goal

pub returns : goal.returns
returns g c =
    let n = g.M.Memory.room c.args.memory.now in
    let xs = g.M.Memory.items c.args.memory.now in
    let p = c.home-start.result in
    let m = c.capacity-n.result in
    place_met n xs c.args.hash p m c.requires c.home-start.ensures.below c.home-start.ensures.is c.capacity-n.ensures c.args.slot c.find.result
    (nth_told c.find.result
    (find_from_yields_List (λ i. holding (is_pair c.args.hash c.args.slot) (cell_at xs i)) _ _ c.find.result c.find.ensures.ran
    (YieldsList-from_take_while _ (λ i. not (vacant (cell_at xs i)))
    (YieldsList-from_map _ (spot m p) (YieldsList-from_range 0 m m (cc) (omega arith)) (ap map_callee c.take_while.ensures.source ∙ c.map.ensures.closure) (λ x r q k. search (rules, tests)))
    c.take_while.ensures.closure c.take_while.ensures.done (λ x b q k. search (rules, tests)))
    (λ x b q k. search (rules, tests))))
