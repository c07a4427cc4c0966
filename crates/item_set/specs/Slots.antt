-- Slots: each holds a record, or is vacant and names the next vacant slot.
use Rattle.std.specs.Prelude.{ℕ, ◌+◌, Bool, true, cond, List, [], ◌∷◌, Some, None, Option, slice_index_or}
use Rattle.base.specs.Counting.{sentinel, one}
use Rattle.item_set.specs.declared.slot.ItemSlot.{ItemSlot}
use Rattle.item_set.specs.declared.slot.ItemSlot.TheVariants.{Occupied, Vacant}

-- slot i; past the slots a vacant one
abbrev pub at : {R : Type 0} → List (ItemSlot R) → ℕ → ItemSlot R
at slots i = slice_index_or slots i (Vacant sentinel)

-- the record in a slot
abbrev pub held : {R : Type 0} → ItemSlot R → Option R
held (Occupied r) = Some r
held (Vacant n) = None

-- the vacant slot after a vacant one
abbrev pub next : {R : Type 0} → ItemSlot R → ℕ
next (Occupied r) = sentinel
next (Vacant n) = n

-- how many standing records pass a test
abbrev pub weigh : {R : Type 0} → (R → Bool) → ItemSlot R → ℕ
weigh q (Occupied r) = one (q r)
weigh q (Vacant n) = 0

abbrev pub tally : {R : Type 0} → (R → Bool) → List (ItemSlot R) → ℕ
tally q [] = 0
tally q (x ∷ xs) = weigh q x + tally q xs

abbrev pub anyone : {R : Type 0} → R → Bool
anyone r = true

-- the standing records that pass a test, by ascending slot
abbrev pub shown : {R : Type 0} → (R → Bool) → List (ItemSlot R) → List R
shown q [] = []
shown q (Occupied r ∷ xs) = cond (q r) (r ∷ shown q xs) (shown q xs)
shown q (Vacant n ∷ xs) = shown q xs
