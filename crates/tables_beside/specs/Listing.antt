-- What the calls of the plain list of pairs answer, by the codes of a table's answers, and what they make of the list.
use Rattle.std.specs.Prelude.{ℕ, cond, nat_le, List, [], ◌∷◌, ◌++◌, length, Option, None, Some, position}
use Rattle.std.specs.List.{swap_remove}
use Rattle.hash_table.specs.Pairs.{is_pair}

-- the pair at the end, or 8 and nothing done where as many pairs stand as there is room
abbrev pub listing : ℕ → List (ℕ × ℕ) → ℕ × ℕ → ℕ × List (ℕ × ℕ)
listing room ps p = cond (nat_le room (length ps)) (8, ps) (0, ps ++ p ∷ [])

-- the last pair goes to the place where p stood, if p stood at one, and the list ends one earlier
abbrev pub taking_at : List (ℕ × ℕ) → ℕ × ℕ → Option ℕ → ℕ × List (ℕ × ℕ)
taking_at ps p None = (10, ps)
taking_at ps p (Some i) = (0, swap_remove ps i p)

-- the first such pair is taken out, or 10 and nothing done where none stands
abbrev pub taking : List (ℕ × ℕ) → ℕ → ℕ → ℕ × List (ℕ × ℕ)
taking ps h s = taking_at ps (h, s) (position (is_pair h s) ps)
