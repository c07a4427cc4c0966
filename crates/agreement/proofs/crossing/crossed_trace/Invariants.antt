use Rattle.std.proofs.Common.{◌≡◌, map, take, vec_items}
use Rattle.traces.specs.Calls.{trace_of}
use Rattle.traces.specs.Laws.{cross}
use Rattle.agreement.specs.Inside.{keeps_inside}
use Rattle.agreement.proofs.crossing.crossed_trace.Given as goal

-- the calls so far are crossed
abbrev pub invariant-loop-call : goal.invariant-loop-call
invariant-loop-call g l =
    trace_of (keeps_inside g.Q.Predicate.keeps) (vec_items l.calls) ≡ map cross (trace_of g.Q.Predicate.keeps (take l.call-index l.trace))
