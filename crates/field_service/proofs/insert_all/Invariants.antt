use Rattle.std.proofs.Common.{◌≡◌, drop}
use Rattle.item.specs.Kinds.{kind_of}
use Rattle.field_service.specs.Read.{all_inserted}
use Rattle.field_service.proofs.insert_all.Given as goal

-- what is still to come makes of the state now what all make of the state at the start
abbrev pub invariant-loop-row : goal.invariant-loop-row
invariant-loop-row g l =
    all_inserted (kind_of g.T.BiHashItem g.T.K1.Key g.T.K2.Key) l.map (drop l.row-index l.rows)
    ≡ all_inserted (kind_of g.T.BiHashItem g.T.K1.Key g.T.K2.Key) l.initial.map l.rows
