use Rattle.std.proofs.Common.{◌≡◌, drop}
use Rattle.item.specs.Kinds.{kind_of}
use Rattle.model.specs.Model.{all_meet}
use Rattle.map_steps.proofs.equality.equal.Given as goal

-- all are met exactly if those ahead are
abbrev pub invariant-loop-slot : goal.invariant-loop-slot
invariant-loop-slot g l =
    all_meet (kind_of g.T.BiHashItem g.T.K1.Key g.T.K2.Key) g.T.Comparable.alike l.second.records (drop l.slot l.first.records.slots)
    ≡ all_meet (kind_of g.T.BiHashItem g.T.K1.Key g.T.K2.Key) g.T.Comparable.alike l.second.records l.first.records.slots
