-- The state of a set of slots, and how a slot is taken and freed: last freed, first taken.
use Rattle.std.specs.Prelude.{ℕ, suc, Bool, true, false, cond, List, [], ◌∷◌, ◌++◌, length, Some, None, Option, ◌==◌, nat_le, slice_set}
use Rattle.base.specs.Counting.{sentinel}
use Rattle.item_set.specs.declared.slot.ItemSlot.{ItemSlot}
use Rattle.item_set.specs.declared.slot.ItemSlot.TheVariants.{Occupied, Vacant}
use Rattle.item_set.specs.Slots.{at, held, next, tally, anyone}

-- the slots, the first vacant one or the sentinel, and how many records may stand
pub record State (R : Type 0) : Type 0 where
  pub slots : List (ItemSlot R)
  pub head : ℕ
  pub capacity : ℕ

abbrev pub fresh : {R : Type 0} → ℕ → State R
fresh c = record { slots = []; head = sentinel; capacity = c }

-- how many records stand
abbrev pub standing : {R : Type 0} → State R → ℕ
standing s = tally anyone s.slots

abbrev pub appended : {R : Type 0} → State R → R → State R
appended s r = record { slots = s.slots ++ Occupied r ∷ []; head = s.head; capacity = s.capacity }

abbrev pub filled : {R : Type 0} → State R → R → State R
filled s r = record { slots = slice_set s.slots s.head (Occupied r); head = next (at s.slots s.head); capacity = s.capacity }

-- one record more: in the first vacant slot, or in a new one where none is vacant
abbrev pub taken : {R : Type 0} → State R → R → State R
taken s r = cond (s.head == sentinel) (appended s r) (filled s r)

-- the slot that it takes
abbrev pub takes : {R : Type 0} → State R → ℕ
takes s = cond (s.head == sentinel) (length s.slots) s.head

-- a slot made vacant, in front of the other vacant ones
abbrev pub freed : {R : Type 0} → State R → ℕ → State R
freed s i = record { slots = slice_set s.slots i (Vacant s.head); head = i; capacity = s.capacity }

-- another record in a slot
abbrev pub exchanged : {R : Type 0} → State R → ℕ → R → State R
exchanged s i r = record { slots = slice_set s.slots i (Occupied r); head = s.head; capacity = s.capacity }

-- what putting a record in comes to where there is room
abbrev pub granted : {R : Type 0} → State R → R → Option ℕ × State R
granted s r = (Some (takes s), taken s r)

-- and in all: none where as many stand as may
abbrev pub growing : {R : Type 0} → State R → R → Option ℕ × State R
growing s r = cond (nat_le s.capacity (standing s)) (None, s) (granted s r)

-- what taking the record out of a slot comes to
abbrev pub freeing : {R : Type 0} → State R → ℕ → Option R → Option R × State R
freeing s i None = (None, s)
freeing s i (Some r) = (Some r, freed s i)

abbrev pub removing : {R : Type 0} → State R → ℕ → Option R × State R
removing s i = freeing s i (held (at s.slots i))

-- what exchanging the record in a slot comes to
abbrev pub swapping : {R : Type 0} → State R → ℕ → R → Option R → Option R × State R
swapping s i v None = (None, s)
swapping s i v (Some r) = (Some r, exchanged s i v)

abbrev pub replacing : {R : Type 0} → State R → ℕ → R → Option R × State R
replacing s i v = swapping s i v (held (at s.slots i))

-- the slots that hold a record, in their order
abbrev pub closed : {R : Type 0} → List (ItemSlot R) → List (ItemSlot R)
closed [] = []
closed (Occupied r ∷ xs) = Occupied r ∷ closed xs
closed (Vacant n ∷ xs) = closed xs

-- the new slot of each slot, or the sentinel for a vacant one, where n is the next to be given out
abbrev pub moves : {R : Type 0} → ℕ → List (ItemSlot R) → List ℕ
moves n [] = []
moves n (Occupied r ∷ xs) = n ∷ moves (suc n) xs
moves n (Vacant m ∷ xs) = sentinel ∷ moves n xs

-- what moving the record in slot i to slot j comes to: whether there is one
abbrev pub advancing : {R : Type 0} → List (ItemSlot R) → ℕ → Option R → Bool × List (ItemSlot R)
advancing xs j None = (false, xs)
advancing xs j (Some r) = (true, slice_set xs j (Occupied r))

-- the records moved forward in their order, with no slot left vacant
abbrev pub packed : {R : Type 0} → State R → State R
packed s = record { slots = closed s.slots; head = sentinel; capacity = s.capacity }
