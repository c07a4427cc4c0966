-- Shrinking: a step that is lent a scratch of numbers, as no other call is.
use Rattle.std.specs.Prelude.{ℕ, cond, List, [], ◌++◌, length, drop, Ok, Err, Result, ◌==◌, nat_lt}
use Rattle.item_set.specs.States.{State, standing, moves, packed}
use Rattle.model.specs.Answers.{Answer, refused, counted, Step, goes}
use Rattle.model.specs.declared.ScratchShort.{ScratchShort}

-- a step, and what the scratch that it was lent holds then
pub record ScratchStep (R : Type 0) : Type 0 where
  pub step : Step R
  pub scratch : List ℕ

abbrev pub with_scratch : {R : Type 0} → List ℕ → Step R → ScratchStep R
with_scratch ws st = record { step = st; scratch = ws }

-- the records move forward, and place i of the scratch becomes the new slot of slot i, or the sentinel, while later places
-- stay; how many slots are left is answered
abbrev pub packing : {R : Type 0} → List ℕ → State R → ScratchStep R
packing ws s = with_scratch (moves 0 s.slots ++ drop (length s.slots) ws) (goes (packed s) (counted (standing s)))

-- shrink: where no slot is vacant nothing is done; otherwise 7 where the scratch is shorter than the slots; otherwise the
-- records move forward. How many slots are left is answered
abbrev pub shrinking : {R : Type 0} → List ℕ → State R → ScratchStep R
shrinking ws s =
    cond (standing s == length s.slots) (with_scratch ws (goes s (counted (length s.slots))))
    (cond (nat_lt (length ws) (length s.slots)) (with_scratch ws (goes s (refused 7 []))) (packing ws s))

-- what the code's answer tells: the number of slots left, or 7
abbrev pub shrunk : {R : Type 0} → Result ℕ ScratchShort → Answer R
shrunk (Ok slots) = counted slots
shrunk (Err e) = refused 7 []
