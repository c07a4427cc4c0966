use Rattle.std.proofs.Common.{◌≡◌, ◌++◌, map, take, drop}
use Rattle.hash_table.specs.Pairs.{moved}
use Rattle.tables_beside.proofs.list.move_all.Given as goal

-- those behind are moved, and those ahead are as they were
abbrev pub invariant-loop-pair : goal.invariant-loop-pair
invariant-loop-pair l =
    l.pairs ≡ map (moved l.places) (take l.pair-index l.fn.pairs) ++ drop l.pair-index l.fn.pairs
