use Rattle.std.proofs.Common.{◌≡◌, ◌+◌, ◌<◌, true, false, ◌&&◌, eqb, length, drop, sym, ap, ◌∙◌, arith}
use Rattle.std.proofs.lemmas.Bool.{eq-eqb, and_right}
use Rattle.item.specs.Kinds.{kind_of}
use Rattle.item_set.specs.States.{standing}
use Rattle.model.specs.Model.{all_meet}
use Rattle.map_steps.proofs.Meeting.{meet_some, meet_none, meet_all}
use Rattle.map_steps.proofs.equality.equal.Goals as goal
use Rattle.map_steps.proofs.equality.equal.Goals.{in-Some+else-not-has_like, in_default}

-- a record meets none like it
pub returns-then-not-has_like : goal.returns-then-not-has_like
returns-then-not-has_like g c =
    let kind = kind_of g.T.BiHashItem g.T.K1.Key g.T.K2.Key in
    let alike = g.T.Comparable.alike in
    let one = c.args.first.now.records in
    let two = c.args.second.now.records in
    let i = c.loop-slot.slot in
    let step = meet_some kind alike two one.slots i c.in-Some.item _ (omega (arith, c.slots-slot-end.ensures)) (sym c.get.ensures ∙ c.in-Some.is) (c.has_like.ensures) in
    let none : all_meet kind alike two one.slots ≡ false =
    sym (c.loop-slot.invariant) ∙ step ∙ ap (λ b. b && all_meet kind alike two (drop (i + 1) one.slots)) c.if-not-has_like.true in
    sym (and_right (eqb (standing one) (standing two)) (all_meet kind alike two one.slots) none)

pub returns : goal.returns
returns g c =
    let kind = kind_of g.T.BiHashItem g.T.K1.Key g.T.K2.Key in
    let alike = g.T.Comparable.alike in
    let one = c.args.first.now.records in
    let two = c.args.second.now.records in
    let i = c.loop-slot.slot in
    let all : all_meet kind alike two one.slots ≡ true =
    sym (c.loop-slot.invariant) ∙ meet_all kind alike two one.slots i (omega (arith, c.slots-slot-end.ensures)) in
    let many : eqb (standing one) (standing two) ≡ true = eq-eqb _ _ (sym (c.len.ensures) ∙ c.if-len.false ∙ c.len-2.ensures) in
    sym (ap (λ b. b && all_meet kind alike two one.slots) many ∙ all)

pub loop-slot-preserved : goal.loop-slot-preserved
loop-slot-preserved g c =
    let kind = kind_of g.T.BiHashItem g.T.K1.Key g.T.K2.Key in
    let alike = g.T.Comparable.alike in
    let one = c.args.first.now.records in
    let two = c.args.second.now.records in
    let i = c.loop-slot.slot in
    let l : i < length one.slots = omega (arith, c.slots-slot-end.ensures) in
    elim c.match-get.branch [
      | in-Some+else-not-has_like w ↦
          sym (meet_some kind alike two one.slots i w.in-Some.item _ l (sym c.get.ensures ∙ w.in-Some.is) (w.has_like.ensures)
          ∙ ap (λ b. b && all_meet kind alike two (drop (i + 1) one.slots)) w.if-not-has_like.false)
          ∙ c.loop-slot.invariant
      | in_default w ↦ sym (meet_none kind alike two one.slots i l (sym c.get.ensures ∙ w.in_default.is)) ∙ c.loop-slot.invariant
    ]
