use Rattle.std.proofs.Common.{◌≡◌, ◌++◌, drop, vec_items}
use Rattle.item.specs.Kinds.{kind_of}
use Rattle.traces.specs.Calls.{trace_of}
use Rattle.traces.specs.Logs.{log_of}
use Rattle.traces.specs.Runs.{run, left}
use Rattle.runs.proofs.run.Given as goal

-- what is noted so far, and what is still to come from the state now, is what all calls come to from the state at the start
abbrev pub invariant-loop-call : goal.invariant-loop-call
invariant-loop-call g l =
    (log_of (vec_items l.events) ++ run (kind_of g.T.BiHashItem g.T.K1.Key g.T.K2.Key) l.map (trace_of g.Q.Predicate.keeps (drop l.call-index l.trace))
    ≡ run (kind_of g.T.BiHashItem g.T.K1.Key g.T.K2.Key) l.initial.map (trace_of g.Q.Predicate.keeps l.trace))
    × (left (kind_of g.T.BiHashItem g.T.K1.Key g.T.K2.Key) l.map (trace_of g.Q.Predicate.keeps (drop l.call-index l.trace))
    ≡ left (kind_of g.T.BiHashItem g.T.K1.Key g.T.K2.Key) l.initial.map (trace_of g.Q.Predicate.keeps l.trace))
