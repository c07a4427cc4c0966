-- The scratch that a request brings.
use Rattle.std.specs.Prelude.{ℕ, List, []}
use Rattle.traces.specs.Runs.{Request, made, shrink}

abbrev pub scratch_of : {R K1 K2 : Type 0} → Request R K1 K2 → List ℕ
scratch_of (made c) = []
scratch_of (shrink ws) = ws
