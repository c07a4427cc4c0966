-- What calls and totals are shown as.
use Rattle.std.specs.List.{flat_map}
use Rattle.std.specs.Prelude.{ℕ, List, [], ◌∷◌, ◌++◌, cond, ◌==◌, length, codes, decimal, vec_len}
use Rattle.model.specs.Answers.{Answer}
use Rattle.traces.specs.Runs.{Entry}
use Rattle.traces.specs.declared.Call.{Call}
use Rattle.traces.specs.declared.Call.TheVariants.{Insert, Overwrite, Replace, Get1, Get2, GetUnique, Remove1, Remove2, RemoveUnique, Retain, Shrink, Len}
use Rattle.worked_cases.specs.Pairs.{pair, pair_text}
use Rattle.worked_cases.specs.declared.First.{First}
use Rattle.worked_cases.specs.declared.Pair.{Pair}
use Rattle.worked_cases.specs.declared.Second.{Second}
use Rattle.agree.specs.Tellings.{number_of}
use Rattle.agree.specs.Totals.{Totals, capped_sum}
use Rattle.agree.specs.declared.calls.AtLeast.{AtLeast}
use Rattle.agree.specs.declared.telling.Refusal.{Refusal}

-- a name and a number behind it
abbrev pub number_line : List ℕ → ℕ → List ℕ
number_line name n = name ++ (codes " " ++ decimal n)

-- a name and the two numbers of a pair behind it
abbrev pub pair_line : List ℕ → Pair → List ℕ
pair_line name p = name ++ (codes " " ++ (decimal p.first ++ (codes " " ++ decimal p.second)))

-- a call as a trace has it
abbrev pub call_line : Call Pair First Second AtLeast → List ℕ
call_line (Insert p) = pair_line (codes "insert") p
call_line (Overwrite p) = pair_line (codes "overwrite") p
call_line (Replace p) = pair_line (codes "replace") p
call_line (Get1 k) = number_line (codes "get1") k.number
call_line (Get2 l) = number_line (codes "get2") l.value
call_line (GetUnique k l) = pair_line (codes "get") (pair k.number l.value)
call_line (Remove1 k) = number_line (codes "remove1") k.number
call_line (Remove2 l) = number_line (codes "remove2") l.value
call_line (RemoveUnique k l) = pair_line (codes "remove") (pair k.number l.value)
call_line (Retain p) = number_line (codes "retain") p.bound
call_line (Shrink ws) = number_line (codes "shrink") (vec_len ws)
call_line Len = codes "len"

-- whether as many were taken in as were handed back, rejected, and stand
abbrev pub verdict : Totals → List ℕ
verdict t = cond (t.taken == capped_sum (capped_sum t.handed t.rejected) (length t.standing)) (codes "nothing lost") (codes "NOT BALANCED")

abbrev pub totals_line : Totals → List ℕ
totals_line t =
    codes "taken in " ++ (decimal t.taken ++ (codes ", handed back " ++ (decimal t.handed ++ (codes ", rejected " ++ (decimal t.rejected ++ (codes ", standing " ++ (decimal (length t.standing) ++ (codes ": " ++ verdict t))))))))

-- records, each behind a comma
abbrev pub records_text : List Pair → List ℕ
records_text rs = flat_map (λ r. codes ", " ++ pair_text r) rs

-- a refusal, with its number
abbrev pub refusal_text : ℕ → List ℕ
refusal_text e =
    cond (e == 1) (codes "refused 1, these share a key")
    (cond (e == 2) (codes "refused 2, full")
    (cond (e == 3) (codes "refused 3, not there")
    (cond (e == 7) (codes "refused 7, scratch too short") (codes "refused"))))

-- the same of a refusal of the program
abbrev pub refusal_line : Refusal → List ℕ
refusal_line e = refusal_text (number_of e)

-- numbers, the first behind `lead` and each other behind a comma
abbrev pub numbers_behind : List ℕ → List ℕ → List ℕ
numbers_behind lead [] = []
numbers_behind lead (n ∷ ns) = lead ++ (decimal n ++ numbers_behind (codes ", ") ns)

-- numbers in brackets
abbrev pub numbers_text : List ℕ → List ℕ
numbers_text ns = codes "[" ++ (numbers_behind [] ns ++ codes "]")

abbrev pub slot_line : Answer Pair → List ℕ
slot_line a = codes "slot " ++ (decimal a.slot ++ records_text a.records)

-- the answer of a call that was not refused
abbrev pub accepted_line : Call Pair First Second AtLeast → Entry Pair → List ℕ
accepted_line (Insert p) e = slot_line e.answer
accepted_line (Overwrite p) e = slot_line e.answer
accepted_line (Replace p) e = slot_line e.answer
accepted_line (Get1 k) e = slot_line e.answer
accepted_line (Get2 l) e = slot_line e.answer
accepted_line (GetUnique k l) e = slot_line e.answer
accepted_line (Remove1 k) e = slot_line e.answer
accepted_line (Remove2 l) e = slot_line e.answer
accepted_line (RemoveUnique k l) e = slot_line e.answer
accepted_line (Retain p) e = decimal e.answer.count ++ codes " left standing"
accepted_line (Shrink ws) e = decimal e.answer.count ++ (codes " slots left, scratch " ++ numbers_text e.scratch)
accepted_line Len e = decimal e.answer.count ++ codes " standing"

-- the answer of a call: of a refusal its number, and the records that it has
abbrev pub answer_line : Call Pair First Second AtLeast → Entry Pair → List ℕ
answer_line c e = cond (e.answer.refusal == 0) (accepted_line c e) (refusal_text e.answer.refusal ++ records_text e.answer.records)
