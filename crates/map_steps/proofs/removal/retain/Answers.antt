use Rattle.std.proofs.Common.{◌≡◌, length, sym, ap, ◌∙◌, add-one, arith}
use Rattle.item_set.specs.Slots.{at}
use Rattle.model.specs.Answers.{goes, counted}
use Rattle.model.specs.Model.{judged, retained, counting}
use Rattle.map_steps.proofs.removal.retain.Goals as goal

pub loop-slot-preserved : goal.loop-slot-preserved
loop-slot-preserved g c =
    let keeps = g.Q.Predicate.keeps c.args.predicate.now in
    let before = c.args.items.now.records in
    let slot = c.loop-slot.slot in
    c.judge.ensures ∙ ap (λ x. judged keeps x slot (at x.slots slot)) c.loop-slot.invariant ∙ sym (ap (retained keeps before) (add-one slot))

pub returns : goal.returns
returns g c =
    let keeps = g.Q.Predicate.keeps c.args.predicate.now in
    let before = c.args.items.now.records in
    let slot = c.loop-slot.slot in
    let all : slot ≡ length before.slots = omega (arith, c.slots-slot-end.ensures) in
    ap (λ n. goes c.loop-slot.items.records (counted n)) c.len.ensures ∙ ap counting (c.loop-slot.invariant ∙ ap (retained keeps before) all)
