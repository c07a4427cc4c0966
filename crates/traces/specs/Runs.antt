-- What a trace comes to on the reference model: an entry for each thing asked, and the state that is left.
use Rattle.std.specs.Prelude.{ℕ, List, [], ◌∷◌}
use Rattle.item.specs.Kinds.{Kind}
use Rattle.item_set.specs.Slots.{anyone, shown}
use Rattle.item_set.specs.States.{State}
use Rattle.model.specs.Answers.{Answer}
use Rattle.model.specs.Model.{Call, step}
use Rattle.model.specs.Shrinking.{ScratchStep, with_scratch, shrinking}

-- what a trace asks of a map: a call of the model, or a shrink that brings a scratch of its own
pub data Request (R K1 K2 : Type 0) : Type 0 where
  made : Call R K1 K2 → Request R K1 K2
  shrink : List ℕ → Request R K1 K2

-- the answer, what the scratch holds then, and the records that stand, by ascending slot
pub record Entry (R : Type 0) : Type 0 where
  pub answer : Answer R
  pub scratch : List ℕ
  pub standing : List R

abbrev pub entered : {R : Type 0} → ScratchStep R → Entry R
entered st = record { answer = st.step.answer; scratch = st.scratch; standing = shown anyone st.step.after.slots }

module _ {R K1 K2 : Type 0} (kind : Kind R K1 K2) where
  -- a call has no scratch, which is as an empty one
  abbrev pub respond : State R → Request R K1 K2 → ScratchStep R
  respond s (made c) = with_scratch [] (step kind s c)
  respond s (shrink ws) = shrinking ws s

  abbrev pub run : State R → List (Request R K1 K2) → List (Entry R)
  run s [] = []
  run s (c ∷ cs) = entered (respond s c) ∷ run (respond s c).step.after cs

  abbrev pub left : State R → List (Request R K1 K2) → State R
  left s [] = s
  left s (c ∷ cs) = left (respond s c).step.after cs
