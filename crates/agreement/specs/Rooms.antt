-- How many records each of three maps may hold.
use Rattle.std.specs.Prelude.{ℕ, min}

-- what each of three maps may hold: the least of 4096, the number wanted, and the rooms of their parts
abbrev pub common : ℕ → ℕ → ℕ → ℕ → ℕ
common wanted first second third = min 4096 (min wanted (min first (min second third)))
