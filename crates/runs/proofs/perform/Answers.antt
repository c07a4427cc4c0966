use Rattle.std.proofs.Common.{ap, ◌∙◌, arith}
use Rattle.std.proofs.lemmas.List.{with_items_is}
use Rattle.item.specs.Kinds.{kind_of}
use Rattle.traces.specs.Calls.{request_of}
use Rattle.traces.specs.Runs.{respond}
use Rattle.runs.proofs.Noting.{noted}
use Rattle.runs.proofs.perform.Goals as goal

pub returns : goal.returns
returns g c =
    let kind = kind_of g.T.BiHashItem g.T.K1.Key g.T.K2.Key in
    let st = respond kind c.args.map.now (request_of g.Q.Predicate.keeps c.args.call.now) in
    let ws = c.make-outcome.new.scratch in
    let s' = c.make-outcome.new.map in
    let made = c.make-outcome.ensures (c.as_mut_slice.ensures.value ∙ c.in_ok-scratch.ensures) in
    record {
      entry = noted c.make-outcome.result ws s' st _ _ (with_items_is c.in_ok-scratch.scratch ws (omega arith)) c.in_ok-standing.ensures made;
      state = ap (λ x. x.step.after) made;
    }
