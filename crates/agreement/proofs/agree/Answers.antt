use Rattle.std.proofs.Common.{◌≡◌, ap, ◌∙◌}
use Rattle.std.proofs.lemmas.Result.{IfOk-from_err}
use Rattle.item.specs.Kinds.{kind_of}
use Rattle.item_set.specs.States.{fresh}
use Rattle.traces.specs.Calls.{trace_of}
use Rattle.traces.specs.Laws.{crossed}
use Rattle.traces.proofs.Lawful.{Lawful}
use Rattle.traces.specs.Runs.{run}
use Rattle.traces.proofs.Agreeing.{agreed}
use Rattle.agreement.specs.Inside.{keeps_inside}
use Rattle.agreement.specs.Rooms.{common}
use Rattle.map_tables.specs.Rooms.{parts_room}
use Rattle.agreement.proofs.Fitting.{fits, common_of, within_first, within_second, within_third, within_most}
use Rattle.agreement.proofs.agree.Goals as goal

pub returns : goal.returns
returns g c =
    let kind = kind_of g.T.BiHashItem g.T.K1.Key g.T.K2.Key in
    let law : Lawful kind = record {
      refl1 = g.met.T.K1.Key.reflexive;
      refl2 = g.met.T.K2.Key.reflexive;
      sym1 = g.met.T.K1.Key.symmetric;
      sym2 = g.met.T.K2.Key.symmetric;
      trans1 = g.met.T.K1.Key.transitive;
      trans2 = g.met.T.K2.Key.transitive;
    } in
    let wanted = c.args.wanted in
    let one = parts_room g.P.Memory.Memory g.P.First.HashTable g.P.Second.HashTable (g.P.MapParts.parts c.args.one) in
    let two = parts_room g.O.Memory.Memory g.O.First.HashTable g.O.Second.HashTable (g.O.MapParts.parts c.args.two) in
    let three = parts_room g.X.Memory.Memory g.X.First.HashTable g.X.Second.HashTable (g.X.MapParts.parts c.args.three) in
    let capacity = c.common_capacity-capacity.result in
    let calls = trace_of g.Q.Predicate.keeps c.args.trace.now in
    let is : capacity ≡ common wanted one two three = common_of capacity wanted c.common_capacity-capacity.ensures c.room.ensures c.room-2.ensures c.room-3.ensures in
    let most = within_most capacity wanted one two three is in
    record {
      capacity = is;
      agreed =
          agreed kind law capacity most calls _ _ _
          (c.in_ok-first.ensures ∙ ap (λ n. run kind (fresh n) calls) (fits capacity _ _ _ most (within_first capacity wanted one two three is)))
          (c.in_ok-second.ensures ∙ ap (λ n. run kind (fresh n) calls) (fits capacity _ _ _ most (within_second capacity wanted one two three is)))
          (c.in_ok-crossed.ensures
          ∙ ap (λ n. run (crossed kind) (fresh n) (trace_of (keeps_inside g.Q.Predicate.keeps) c.as_slice.result.now)) (fits capacity _ _ _ most (within_third capacity wanted one two three is))
          ∙ ap (run (crossed kind) (fresh capacity)) (ap (trace_of (keeps_inside g.Q.Predicate.keeps)) c.as_slice.ensures.value ∙ c.in_ok-exchanged.ensures));
    }

-- the exits for want of memory
pub returns-in_err-exchanged : goal.returns-in_err-exchanged
returns-in_err-exchanged g c = record { capacity = IfOk-from_err c.from_residual.result _ c.from_residual.ensures.0; agreed = IfOk-from_err c.from_residual.result _ c.from_residual.ensures.0 }

pub returns-in_err-first : goal.returns-in_err-first
returns-in_err-first g c = record { capacity = IfOk-from_err c.from_residual-in_err-first.result _ c.from_residual-in_err-first.ensures.0; agreed = IfOk-from_err c.from_residual-in_err-first.result _ c.from_residual-in_err-first.ensures.0 }

pub returns-in_err-second : goal.returns-in_err-second
returns-in_err-second g c = record { capacity = IfOk-from_err c.from_residual-in_err-second.result _ c.from_residual-in_err-second.ensures.0; agreed = IfOk-from_err c.from_residual-in_err-second.result _ c.from_residual-in_err-second.ensures.0 }

pub returns-in_err-crossed : goal.returns-in_err-crossed
returns-in_err-crossed g c = record { capacity = IfOk-from_err c.from_residual-in_err-crossed.result _ c.from_residual-in_err-crossed.ensures.0; agreed = IfOk-from_err c.from_residual-in_err-crossed.result _ c.from_residual-in_err-crossed.ensures.0 }
