-- The refusals that a user of a memory or a table meets, by number, and what an answer says.
use Rattle.std.specs.Prelude.{ℕ, List, [], ◌∷◌, Ok, Err, Result}
use Rattle.memory.specs.declared.StorageRefusal.{StorageRefusal}
use Rattle.memory.specs.declared.StorageRefusal.TheVariants.{AtCapacity, NoSuchPlace, NoSuchPair, NoNewPlace}

abbrev pub number : StorageRefusal → ℕ
number AtCapacity = 8
number NoSuchPlace = 9
number NoSuchPair = 10
number NoNewPlace = 11

-- 0, or the refusal's number
abbrev pub code : {X : Type 0} → Result X StorageRefusal → ℕ
code (Ok x) = 0
code (Err e) = number e

-- what is handed out: one value, or none
abbrev pub given : {X : Type 0} → Result X StorageRefusal → List X
given (Ok x) = x ∷ []
given (Err e) = []
