-- What a tally is shown as.
use Rattle.std.specs.Prelude.{ℕ, List, ◌++◌, codes, decimal}
use Rattle.tables_beside.specs.declared.Tally.{Tally}

-- each tally is of 5000 calls
abbrev pub tally_text : Tally → List ℕ
tally_text t = decimal 5000 ++ (codes " calls, " ++ (decimal t.refused ++ (codes " refused, " ++ (decimal t.differences ++ codes " differences"))))
