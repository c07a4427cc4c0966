-- Answers as callers see them, and what a step of the model is.
use Rattle.std.specs.Prelude.{ℕ, List, []}
use Rattle.item_set.specs.States.{State}

-- 0 or the refusal's number; a slot; a count; and records, in their order
pub record Answer (R : Type 0) : Type 0 where
  pub refusal : ℕ
  pub slot : ℕ
  pub count : ℕ
  pub records : List R

abbrev pub refused : {R : Type 0} → ℕ → List R → Answer R
refused e rs = record { refusal = e; slot = 0; count = 0; records = rs }

abbrev pub placed : {R : Type 0} → ℕ → List R → Answer R
placed i rs = record { refusal = 0; slot = i; count = 0; records = rs }

abbrev pub counted : {R : Type 0} → ℕ → Answer R
counted n = record { refusal = 0; slot = 0; count = n; records = [] }

-- the state that a call leaves, and its answer
pub record Step (R : Type 0) : Type 0 where
  pub after : State R
  pub answer : Answer R

abbrev pub goes : {R : Type 0} → State R → Answer R → Step R
goes s a = record { after = s; answer = a }
