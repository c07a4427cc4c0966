-- Pairs as a kind of record: their two keys, and when two keys are equal.
use Rattle.std.specs.Prelude.{ℕ, Bool, List, ◌++◌, codes, decimal, ◌==◌}
use Rattle.item.specs.Kinds.{Kind}
use Rattle.worked_cases.specs.declared.First.{First}
use Rattle.worked_cases.specs.declared.Second.{Second}
use Rattle.worked_cases.specs.declared.Pair.{Pair}

abbrev pub same_first : First → First → Bool
same_first a b = a.number == b.number

abbrev pub same_second : Second → Second → Bool
same_second a b = a.value == b.value

abbrev pub first_of : Pair → First
first_of p = record { number = p.first }

abbrev pub second_of : Pair → Second
second_of p = record { value = p.second }

-- the kind, by the definitions that the implementation gives
abbrev pub pairs : Kind Pair First Second
pairs = record { key1 = first_of; key2 = second_of; same1 = same_first; same2 = same_second }

abbrev pub pair : ℕ → ℕ → Pair
pair a b = record { first = a; second = b }

-- what a pair is shown as
abbrev pub pair_text : Pair → List ℕ
pair_text p = codes "(" ++ (decimal p.first ++ (codes ", " ++ (decimal p.second ++ codes ")")))
