-- When what two runs told is alike.
use Rattle.std.specs.Prelude.{ℕ, Bool, ◌&&◌, ◌==◌, List, map, length, Result, Ok, Err}
use Rattle.std.specs.List.{list_all}
use Rattle.base.specs.Counting.{times}
use Rattle.item.specs.declared.crossed.Crossed.{Crossed}
use Rattle.model.specs.Answers.{Answer}
use Rattle.traces.specs.Laws.{over}
use Rattle.traces.specs.Runs.{Entry}
use Rattle.worked_cases.specs.declared.Pair.{Pair}
use Rattle.agree.specs.declared.telling.Given.{Given}
use Rattle.agree.specs.declared.telling.Refusal.{Refusal}

abbrev pub same_pair : Pair → Pair → Bool
same_pair a b = a.first == b.first && a.second == b.second

-- a pair is in two lists as often
abbrev pub as_often : List Pair → List Pair → Pair → Bool
as_often xs ys p = times (same_pair p) xs == times (same_pair p) ys

-- two lists are as long, and each pair of the first is in both as often
abbrev pub same_pairs : List Pair → List Pair → Bool
same_pairs xs ys = length xs == length ys && list_all (as_often xs ys) xs

-- the count that a call gave, or why it was refused
abbrev pub count_or_refusal : Result Given Refusal → Result ℕ Refusal
count_or_refusal (Ok g) = Ok g.count
count_or_refusal (Err e) = Err e

abbrev pub overs : List Pair → List (Crossed Pair)
overs xs = map over xs

abbrev pub crossed_answer : Answer Pair → Answer (Crossed Pair)
crossed_answer a = record { refusal = a.refusal; slot = a.slot; count = a.count; records = overs a.records }

-- an entry with each of its records crossed, as the law `Alike` compares it
abbrev pub crossed_entry : Entry Pair → Entry (Crossed Pair)
crossed_entry e = record { answer = crossed_answer e.answer; scratch = e.scratch; standing = overs e.standing }
