-- What is known of a table: its pairs, in an order of its own, and how many there is room for.
use Rattle.std.specs.Prelude.{ℕ, List}

pub record Table : Type 0 where
  pub pairs : List (ℕ × ℕ)
  pub room : ℕ
