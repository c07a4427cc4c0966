-- One more case: a record is removed, and then the map is shrunk.
use Rattle.std.specs.Prelude.{◌≡◌, ℕ, List, [], ◌∷◌, ◌++◌, map, length, drop}
use Rattle.base.specs.Counting.{sentinel}
use Rattle.item_set.specs.States.{fresh}
use Rattle.model.specs.Answers.{Answer, refused, placed, counted}
use Rattle.model.specs.Model.{remove1}
use Rattle.traces.specs.Runs.{Request, made, shrink, Entry, run}
use Rattle.worked_cases.specs.Cases.{filling}
use Rattle.worked_cases.specs.Pairs.{pair, pairs}
use Rattle.worked_cases.specs.declared.First.{First}
use Rattle.worked_cases.specs.declared.Pair.{Pair}
use Rattle.worked_cases.specs.declared.Second.{Second}

-- a map of two is filled, the record in its first slot is removed, and the map is shrunk with a scratch of one place and then
-- with one of two
abbrev pub thinning : List (Request Pair First Second)
thinning = map made (filling ++ remove1 (record { number = 1 }) ∷ []) ++ shrink (5 ∷ []) ∷ shrink (5 ∷ 6 ∷ []) ∷ []

-- what is left behind while one record stands
abbrev pub one_left : Answer Pair → List ℕ → Entry Pair
one_left answer scratch = record { answer = answer; scratch = scratch; standing = pair 2 2 ∷ [] }

-- A scratch of one place is too short, and stays as it was. One of two is told that the first slot is gone and that the
-- second became the first, and one slot is left.
abbrev pub ShrinkCase : Type 0
ShrinkCase =
    drop (length filling) (run pairs (fresh 2) thinning)
    ≡ one_left (placed 0 (pair 1 1 ∷ [])) [] ∷ one_left (refused 7 []) (5 ∷ []) ∷ one_left (counted 1) (sentinel ∷ 0 ∷ []) ∷ []
