-- What indexed items are seen as.
use Rattle.item_set.specs.States.{State}

-- the records in their slots, as the reference model has them, and the state of the hash that the tables go by
pub record Contents (T H : Type 0) : Type 0 where
  pub records : State T
  pub hasher : H
