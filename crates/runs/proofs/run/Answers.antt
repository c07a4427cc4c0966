use Rattle.std.proofs.Common.{◌++◌, vec_items, sym, refl, ap, ◌∙◌}
use Rattle.std.proofs.lemmas.List.{append-nil, at_drop_all}
use Rattle.std.proofs.lemmas.Result.{IfOk-from_err}
use Rattle.item.specs.Kinds.{kind_of}
use Rattle.traces.specs.Calls.{trace_of}
use Rattle.traces.specs.Logs.{log_of}
use Rattle.traces.specs.Runs.{run, left}
use Rattle.runs.proofs.Noting.{left_more, run_more}
use Rattle.runs.proofs.run.Goals as goal

pub loop-call-init : goal.loop-call-init
loop-call-init g c =
    let kind = kind_of g.T.BiHashItem g.T.K1.Key g.T.K2.Key in
    let all = run kind c.args.map.now (trace_of g.Q.Predicate.keeps c.args.trace.now) in
    (ap (λ es. log_of es ++ all) c.new-events.ensures.items, refl)

-- the exit for want of memory
pub returns-in_err-perform : goal.returns-in_err-perform
returns-in_err-perform g c = record { log = IfOk-from_err c.from_residual.result _ c.from_residual.ensures.0; state = IfOk-from_err c.from_residual.result _ c.from_residual.ensures.0 }

pub returns-in_err-push : goal.returns-in_err-push
returns-in_err-push g c = record { log = IfOk-from_err c.from_residual-in_err-push.result _ c.from_residual-in_err-push.ensures.0; state = IfOk-from_err c.from_residual-in_err-push.result _ c.from_residual-in_err-push.ensures.0 }

pub loop-call-preserved : goal.loop-call-preserved
loop-call-preserved g c =
    let keeps = g.Q.Predicate.keeps in
    let kind = kind_of g.T.BiHashItem g.T.K1.Key g.T.K2.Key in
    let before = c.loop-call.map in
    let after = c.perform.new.map in
    let trace = c.args.trace.now in
    let i = c.loop-call.call-index in
    let call = c.call-item.result in
    let inv = c.loop-call.invariant in
    let goes_on = c.in_ok-perform.ensures in (
      run_more keeps kind trace i call c.loop-call-test.true c.call-item.is before after goes_on.state (vec_items c.loop-call.events) _ c.in_ok-perform.field-0 _ c.in_ok-push.ensures.items goes_on.entry inv.0,
      left_more keeps kind trace i call c.loop-call-test.true c.call-item.is before after goes_on.state _ inv.1,
    )

pub returns : goal.returns
returns g c =
    let keeps = g.Q.Predicate.keeps in
    let kind = kind_of g.T.BiHashItem g.T.K1.Key g.T.K2.Key in
    let after = c.loop-call.map in
    let trace = c.args.trace.now in
    let log = log_of (vec_items c.loop-call.events) in
    record {
      log = sym (append-nil log) ∙ sym (at_drop_all (λ cs. log ++ run kind after (trace_of keeps cs)) trace c.loop-call.call-index c.loop-call-test.false) ∙ c.loop-call.invariant.0;
      state = sym (at_drop_all (λ cs. left kind after (trace_of keeps cs)) trace c.loop-call.call-index c.loop-call-test.false) ∙ c.loop-call.invariant.1;
    }
