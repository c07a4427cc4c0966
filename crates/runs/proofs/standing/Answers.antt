use Rattle.std.proofs.Common.{◌≡◌, IfOk, subst, length, vec_items, rules, arith}
use Rattle.std.proofs.lemmas.Iterator.{YieldsList-from_range, items_from_collect}
use Rattle.std.proofs.lemmas.Iterator.Consumers.{YieldsList-from_filter_map}
use Rattle.item_set.specs.Slots.{at, held}
use Rattle.runs.proofs.Showing.{shown_from}
use Rattle.runs.proofs.standing.Goals as goal

pub returns : goal.returns
returns g c =
    let slots = c.args.map.now.slots in
    subst (λ all. IfOk c.collect.result (λ v. vec_items v ≡ all)) (shown_from slots (length slots) 0 (omega arith))
    (items_from_collect c.collect.result c.collect.ensures.ran
    (YieldsList-from_filter_map _ (λ i. held (at slots i)) (YieldsList-from_range 0 c.slots.result (length slots) c.filter_map.ensures.source (omega (arith, c.slots.ensures))) c.filter_map.ensures.closure (λ x r q k. search (rules))))
