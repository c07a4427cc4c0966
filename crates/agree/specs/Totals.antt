-- How many records were taken in, handed back and rejected, and those that stand.
use Rattle.std.specs.Prelude.{ℕ, ◌+◌, Bool, List, [], length, min, nat_le}
use Rattle.model.specs.Answers.{Answer}
use Rattle.traces.specs.Calls.{request_of}
use Rattle.traces.specs.Laws.{by_call, took, gave, refuses}
use Rattle.traces.specs.Runs.{Entry}
use Rattle.traces.specs.declared.Call.{Call}
use Rattle.worked_cases.specs.declared.First.{First}
use Rattle.worked_cases.specs.declared.Pair.{Pair}
use Rattle.worked_cases.specs.declared.Second.{Second}
use Rattle.agree.specs.declared.calls.AtLeast.{AtLeast}

-- the first number of a pair is at least the bound
abbrev pub at_least : AtLeast → Pair → Bool
at_least p r = nat_le p.bound r.first

pub record Totals : Type 0 where
  pub taken : ℕ
  pub handed : ℕ
  pub rejected : ℕ
  pub standing : List Pair

abbrev pub no_totals : Totals
no_totals = record { taken = 0; handed = 0; rejected = 0; standing = [] }

-- a sum that stops at the largest number of 64 bits
abbrev pub capped_sum : ℕ → ℕ → ℕ
capped_sum m n = min (m + n) 18446744073709551615

-- how many records a call took in, handed back or rejected, as the laws of a run tell it
abbrev pub count_taken : Call Pair First Second AtLeast → Answer Pair → ℕ
count_taken c a = length (by_call (λ d. took d a) (request_of at_least c))

abbrev pub count_handed : Call Pair First Second AtLeast → Answer Pair → ℕ
count_handed c a = length (by_call (λ d. gave d a) (request_of at_least c))

abbrev pub count_rejected : Call Pair First Second AtLeast → List Pair → ℕ
count_rejected c before = length (by_call (λ d. refuses d before) (request_of at_least c))

-- the totals after a call, from those before it and the entry that the log has of it
abbrev pub noted : Totals → Call Pair First Second AtLeast → Entry Pair → Totals
noted t c e =
    record {
      taken = capped_sum t.taken (count_taken c e.answer);
      handed = capped_sum t.handed (count_handed c e.answer);
      rejected = capped_sum t.rejected (count_rejected c t.standing);
      standing = e.standing;
    }
