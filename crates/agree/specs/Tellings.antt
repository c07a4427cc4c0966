-- What is told of a call, as the entry that a log has of it.
use Rattle.std.specs.Prelude.{ℕ, List, map, Result, Ok, Err, vec_items}
use Rattle.item.specs.declared.crossed.Crossed.{Crossed}
use Rattle.model.specs.Answers.{Answer, refused}
use Rattle.traces.specs.Runs.{Entry}
use Rattle.worked_cases.specs.declared.Pair.{Pair}
use Rattle.agree.specs.declared.telling.Told.{Told}
use Rattle.agree.specs.declared.telling.Answer as telling
use Rattle.agree.specs.declared.telling.Given.{Given}
use Rattle.agree.specs.declared.telling.Refusal.{Refusal}
use Rattle.agree.specs.declared.telling.Refusal.TheVariants.{SharedKey, Full, NotThere, ScratchShort}

-- the number of a refusal
abbrev pub number_of : Refusal → ℕ
number_of SharedKey = 1
number_of Full = 2
number_of NotThere = 3
number_of ScratchShort = 7

-- what a call gave or was refused for, and records, as the model has answers
abbrev pub given_answer : {T : Type 0} → Result Given Refusal → List T → Answer T
given_answer (Ok g) rs = record { refusal = 0; slot = g.slot; count = g.count; records = rs }
given_answer (Err e) rs = refused (number_of e) rs

-- an answer of the program, as the model has answers
abbrev pub model_answer : {T : Type 0} → telling.Answer T → Answer T
model_answer a = given_answer a.given (vec_items a.records)

abbrev pub told_entry : Told → Entry Pair
told_entry t = record { answer = model_answer t.answer; scratch = vec_items t.scratch; standing = vec_items t.standing }

-- the records inside crossed ones, in their order
abbrev pub insides : List (Crossed Pair) → List Pair
insides xs = map (λ x. x.inner) xs

abbrev pub uncrossed_answer : Answer (Crossed Pair) → Answer Pair
uncrossed_answer a = record { refusal = a.refusal; slot = a.slot; count = a.count; records = insides a.records }

-- an entry of a crossed run, with each record read as the one inside
abbrev pub uncrossed : Entry (Crossed Pair) → Entry Pair
uncrossed e = record { answer = uncrossed_answer e.answer; scratch = e.scratch; standing = insides e.standing }
