-- What a memory holds: its elements, and how many cells there are for them.
use Rattle.std.specs.Prelude.{ℕ, List}

pub record Contents (T : Type 0) : Type 0 where
  pub items : List T
  pub room : ℕ
