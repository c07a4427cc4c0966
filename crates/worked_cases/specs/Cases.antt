-- Runs of calls from an empty map of pairs, and the answers that are wanted of them.
use Rattle.std.specs.Prelude.{◌≡◌, ℕ, List, [], ◌∷◌, ◌++◌}
use Rattle.item_set.specs.States.{State, fresh}
use Rattle.model.specs.Answers.{Answer, refused, placed}
use Rattle.model.specs.Model.{Call, insert, overwrite, step}
use Rattle.worked_cases.specs.Pairs.{pair, pairs}
use Rattle.worked_cases.specs.declared.First.{First}
use Rattle.worked_cases.specs.declared.Second.{Second}
use Rattle.worked_cases.specs.declared.Pair.{Pair}

abbrev pub Calls : Type 0
Calls = List (Call Pair First Second)

-- the answers of calls one after the other, by the model's step
abbrev pub answers : State Pair → Calls → List (Answer Pair)
answers s [] = []
answers s (c ∷ cs) = (step pairs s c).answer ∷ answers (step pairs s c).after cs

-- and from an empty map of some capacity
abbrev pub run : ℕ → Calls → List (Answer Pair)
run capacity calls = answers (fresh capacity) calls

-- a map of two is filled and then refuses: a shared key comes before want of room, and the sharing records are shown in
-- the order of their slots, after the refused one
abbrev pub filling : Calls
filling =
    insert (pair 1 1)
    ∷ insert (pair 1 2)
    ∷ insert (pair 2 2)
    ∷ insert (pair 3 3)
    ∷ insert (pair 1 2)
    ∷ overwrite (pair 3 3)
    ∷ []

abbrev pub filled : List (Answer Pair)
filled =
    placed 0 []
    ∷ refused 1 (pair 1 2 ∷ pair 1 1 ∷ [])
    ∷ placed 1 []
    ∷ refused 2 []
    ∷ refused 1 (pair 1 2 ∷ pair 1 1 ∷ pair 2 2 ∷ [])
    ∷ refused 2 []
    ∷ []

-- in order: one record displaces two, first key's match first, and takes the slot that was freed last, so that the next
-- record takes the other; the keys crossed; one record that has both keys, displaced once; and no room at all
abbrev pub ran : List (List (Answer Pair))
ran =
    run 2 (filling ++ overwrite (pair 1 2) ∷ insert (pair 9 9) ∷ [])
    ∷ run 2 (filling ++ overwrite (pair 2 1) ∷ [])
    ∷ run 2 (filling ++ overwrite (pair 1 1) ∷ [])
    ∷ run 0 (insert (pair 1 1) ∷ [])
    ∷ []

abbrev pub wanted : List (List (Answer Pair))
wanted =
    (filled ++ placed 1 (pair 1 1 ∷ pair 2 2 ∷ []) ∷ placed 0 [] ∷ [])
    ∷ (filled ++ placed 0 (pair 2 2 ∷ pair 1 1 ∷ []) ∷ [])
    ∷ (filled ++ placed 0 (pair 1 1 ∷ []) ∷ [])
    ∷ (refused 2 [] ∷ [])
    ∷ []

abbrev pub WorkedCases : Type 0
WorkedCases = ran ≡ wanted
