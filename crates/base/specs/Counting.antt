-- Counting by tests. That two lists have the same elements, each as often, is said by counting: every test passes
-- as many of the one as of the other.
use Rattle.std.specs.Prelude.{◌≡◌, ℕ, ◌+◌, Bool, true, false, List, [], ◌∷◌}

-- the number that is no slot's
abbrev pub sentinel : ℕ
sentinel = 4294967295

abbrev pub one : Bool → ℕ
one true = 1
one false = 0

-- how many elements pass a test
abbrev pub times : {X : Type 0} → (X → Bool) → List X → ℕ
times q [] = 0
times q (x ∷ xs) = one (q x) + times q xs

-- the same elements, each as often, in any order
abbrev pub Same : {X : Type 0} → List X → List X → Type 0
Same {X} xs ys = (q : X → Bool) → times q xs ≡ times q ys
