use Rattle.std.proofs.Common.{map, vec_items, ap, ◌∙◌}
use Rattle.std.proofs.lemmas.List.{take_all}
use Rattle.std.proofs.lemmas.Result.{IfOk-from_err}
use Rattle.traces.specs.Calls.{trace_of}
use Rattle.traces.specs.Laws.{cross}
use Rattle.agreement.proofs.Crossings.{crossed_more}
use Rattle.agreement.proofs.crossing.crossed_trace.Goals as goal

-- the exit for want of memory
pub returns-in_err-crossed : goal.returns-in_err-crossed
returns-in_err-crossed g c = IfOk-from_err c.from_residual.result _ c.from_residual.ensures.0

pub returns-in_err-push : goal.returns-in_err-push
returns-in_err-push g c = IfOk-from_err c.from_residual-in_err-push.result _ c.from_residual-in_err-push.ensures.0

pub loop-call-preserved : goal.loop-call-preserved
loop-call-preserved g c =
    crossed_more g.Q.Predicate.keeps c.args.trace.now c.loop-call.call-index c.call-item.result c.loop-call-test.true c.call-item.is
    (vec_items c.loop-call.calls) _ c.in_ok-crossed.field-0 c.in_ok-push.ensures.items c.in_ok-crossed.ensures c.loop-call.invariant

pub returns : goal.returns
returns g c =
    c.loop-call.invariant ∙ ap (λ cs. map cross (trace_of g.Q.Predicate.keeps cs)) (take_all c.loop-call.call-index c.args.trace.now c.loop-call-test.false)
