use Rattle.std.proofs.Common.{◌≡◌, not, ap, ◌∙◌, rules, tests, arith}
use Rattle.std.specs.Iterator.Adapters.{map_source, map_callee, take_while_source, take_while_callee, take_while_done, filter_source, filter_callee}
use Rattle.std.proofs.lemmas.Iterator.{YieldsList-from_range, YieldsList-from_map}
use Rattle.std.proofs.lemmas.Iterator.Search.{YieldsList-from_take_while}
use Rattle.std.proofs.lemmas.Iterator.Consumers.{YieldsList-from_filter, nth_from_yields_List}
use Rattle.hash_table.proofs.Celled.{nth_told}
use Rattle.probing_table.specs.Marks.{vacant, answers}
use Rattle.probing_table.specs.Probed.{met}
use Rattle.probing_table.proofs.Probing.{candidate_met}
use Rattle.probing_table.proofs.candidate_in.Goals as goal

pub returns : goal.returns
returns g c =
    let n = g.M.Memory.room c.args.memory.now in
    let xs = g.M.Memory.items c.args.memory.now in
    let h = c.args.hash in
    let p = c.home-start.result in
    let m = c.capacity-n.result in
    let until : filter_source (map_source c.map-2.result) ≡ c.take_while.result = cc in
    let cells : take_while_source (filter_source (map_source c.map-2.result)) ≡ c.map.result = cc in
    nth_told c.nth.result
    (nth_from_yields_List c.nth.result c.nth.new.self c.args.k c.nth.ensures.ran
    (YieldsList-from_map _ (λ x. x.slot)
    (YieldsList-from_filter _ (answers h)
    (YieldsList-from_take_while _ (λ x. not (vacant x))
    (YieldsList-from_map _ (met n xs p) (YieldsList-from_range 0 m m (cc) (omega arith)) (ap map_callee cells ∙ c.map.ensures.closure) (λ x r q k. search (rules, tests)))
    (ap take_while_callee until ∙ c.take_while.ensures.closure) (ap take_while_done until ∙ c.take_while.ensures.done) (λ x b q k. search (rules, tests)))
    (ap filter_callee c.map-2.ensures.source ∙ c.filter.ensures.closure) (λ x b q k. search (rules, tests)))
    c.map-2.ensures.closure (λ x r q k. search (rules, tests))))
    ∙ candidate_met n xs h p m c.requires c.home-start.ensures.below c.home-start.ensures.is c.capacity-n.ensures c.args.k
