-- What the calls of a memory do to its list of elements: the number that is answered, with what is handed out
-- or with the list afterwards.
use Rattle.std.specs.Prelude.{ℕ, zero, suc, cond, List, [], ◌∷◌, ◌++◌, length, ◌==◌, nat_lt, slice_set}

-- the element at a place, or 9
abbrev pub reading : {X : Type 0} → List X → ℕ → ℕ × List X
reading [] i = (9, [])
reading (x ∷ xs) zero = (0, x ∷ [])
reading (x ∷ xs) (suc i) = reading xs i

-- that place changed and no other, or 9
abbrev pub writing : {X : Type 0} → List X → ℕ → X → ℕ × List X
writing xs i x = cond (nat_lt i (length xs)) (0, slice_set xs i x) (9, xs)

-- one element more at the end, or 8 where the list is as long as there is room
abbrev pub pushing : {X : Type 0} → ℕ → List X → X → ℕ × List X
pushing room xs x = cond (length xs == room) (8, xs) (0, xs ++ x ∷ [])
