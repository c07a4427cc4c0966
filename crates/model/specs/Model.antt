-- The reference model: one step for each call, from a state to a state and an answer.
use Rattle.std.specs.Prelude.{ℕ, zero, suc, ◌≤◌, Bool, true, false, cond, ◌&&◌, ◌||◌, List, [], ◌∷◌, ◌++◌, length, Some, None, Option, ◌==◌, nat_le}
use Rattle.item.specs.Kinds.{Kind}
use Rattle.item_set.specs.declared.slot.ItemSlot.{ItemSlot}
use Rattle.item_set.specs.declared.slot.ItemSlot.TheVariants.{Occupied, Vacant}
use Rattle.item_set.specs.Chains.{Linked}
use Rattle.item_set.specs.Slots.{at, tally, shown}
use Rattle.item_set.specs.States.{State, standing, taken, takes, freed, exchanged}
use Rattle.model.specs.Answers.{Answer, refused, placed, counted, Step, goes}
use Rattle.model.specs.declared.Found.{Found}

-- two tests joined
abbrev pub either : {R : Type 0} → (R → Bool) → (R → Bool) → R → Bool
either p q x = p x || q x

abbrev pub both : {R : Type 0} → (R → Bool) → (R → Bool) → R → Bool
both p q x = p x && q x

-- the first slot, counted from i, whose record passes a test
abbrev pub find : {R : Type 0} → (R → Bool) → ℕ → List (ItemSlot R) → Option (Found R)
find q i [] = None
find q i (Occupied r ∷ xs) = cond (q r) (Some (record { slot = i; item = r })) (find q (suc i) xs)
find q i (Vacant n ∷ xs) = find q (suc i) xs

-- insert of a record, where p and q test for its two keys: 1 with the record and those that share a key, by ascending
-- slot; otherwise 2 where as many stand as may; otherwise a slot is taken
abbrev pub admitting : {R : Type 0} → State R → R → Step R
admitting s r = cond (nat_le s.capacity (standing s)) (goes s (refused 2 [])) (goes (taken s r) (placed (takes s) []))

abbrev pub inserting : {R : Type 0} → (R → Bool) → (R → Bool) → R → State R → Step R
inserting p q r s = cond (tally (either p q) s.slots == 0) (admitting s r) (goes s (refused 1 (r ∷ shown (either p q) s.slots)))

-- a look-up: 3 where no record passes, or the slot and its record
abbrev pub seen : {R : Type 0} → Option (Found R) → Answer R
seen None = refused 3 []
seen (Some f) = placed f.slot (f.item ∷ [])

abbrev pub looking : {R : Type 0} → (R → Bool) → State R → Step R
looking q s = goes s (seen (find q 0 s.slots))

-- freeing the slot that a search found, if it found one; and the record that stood there
abbrev pub freed_at : {R : Type 0} → State R → Option (Found R) → State R
freed_at s None = s
freed_at s (Some f) = freed s f.slot

abbrev pub item_of : {R : Type 0} → Option (Found R) → List R
item_of None = []
item_of (Some f) = f.item ∷ []

abbrev pub without : {R : Type 0} → (R → Bool) → State R → State R
without q s = freed_at s (find q 0 s.slots)

-- overwrite: key 1's match is freed, then key 2's if another, and a slot is taken; the displaced records are answered in
-- that order. Where nothing shares a key it is an insert
abbrev pub cleared : {R : Type 0} → (R → Bool) → (R → Bool) → State R → State R
cleared p q s = without q (without p s)

abbrev pub ousted : {R : Type 0} → (R → Bool) → (R → Bool) → State R → List R
ousted p q s = item_of (find p 0 s.slots) ++ item_of (find q 0 (without p s).slots)

abbrev pub displacing : {R : Type 0} → (R → Bool) → (R → Bool) → R → State R → Step R
displacing p q r s = goes (taken (cleared p q s) r) (placed (takes (cleared p q s)) (ousted p q s))

abbrev pub overwriting : {R : Type 0} → (R → Bool) → (R → Bool) → R → State R → Step R
overwriting p q r s = cond (tally (either p q) s.slots == 0) (admitting s r) (displacing p q r s)

-- replace: 3 where nothing shares a key; where one slot has both keys its record is exchanged there and answered;
-- otherwise as overwrite
abbrev pub exchanging : {R : Type 0} → R → State R → Option (Found R) → Step R
exchanging r s None = goes s (refused 3 [])
exchanging r s (Some f) = goes (exchanged s f.slot r) (placed f.slot (f.item ∷ []))

abbrev pub substituting : {R : Type 0} → (R → Bool) → (R → Bool) → R → State R → Step R
substituting p q r s =
    cond (tally (either p q) s.slots == 0) (goes s (refused 3 []))
    (cond (tally (both p q) s.slots == 0) (displacing p q r s) (exchanging r s (find (both p q) 0 s.slots)))

-- a removal: 3 where no record passes, or the slot, which is freed, and its record
abbrev pub removing : {R : Type 0} → (R → Bool) → State R → Step R
removing q s = goes (without q s) (seen (find q 0 s.slots))

-- retain: slot after slot, a record that the predicate refuses is freed; how many stand then is answered
abbrev pub judged : {R : Type 0} → (R → Bool) → State R → ℕ → ItemSlot R → State R
judged p s i (Occupied r) = cond (p r) s (freed s i)
judged p s i (Vacant n) = s

abbrev pub retained : {R : Type 0} → (R → Bool) → State R → ℕ → State R
retained p s zero = s
retained p s (suc i) = judged p (retained p s i) i (at (retained p s i).slots i)

abbrev pub counting : {R : Type 0} → State R → Step R
counting s = goes s (counted (standing s))

abbrev pub retaining : {R : Type 0} → (R → Bool) → State R → Step R
retaining p s = counting (retained p s (length s.slots))

-- the calls of a map
pub data Call (R K1 K2 : Type 0) : Type 0 where
  insert : R → Call R K1 K2
  overwrite : R → Call R K1 K2
  replace : R → Call R K1 K2
  look1 : K1 → Call R K1 K2
  look2 : K2 → Call R K1 K2
  look12 : K1 → K2 → Call R K1 K2
  remove1 : K1 → Call R K1 K2
  remove2 : K2 → Call R K1 K2
  remove12 : K1 → K2 → Call R K1 K2
  retain : (R → Bool) → Call R K1 K2
  count : Call R K1 K2

-- whether a record has a key
abbrev pub has : {R K : Type 0} → (R → K) → (K → K → Bool) → K → R → Bool
has key same k x = same k (key x)

module _ {R K1 K2 : Type 0} (kind : Kind R K1 K2) where
  abbrev pub has1 : K1 → R → Bool
  has1 k x = has kind.key1 kind.same1 k x

  abbrev pub has2 : K2 → R → Bool
  has2 k x = has kind.key2 kind.same2 k x

  -- whether a record shares a key with another
  abbrev pub shares : R → R → Bool
  shares r x = either (has1 (kind.key1 r)) (has2 (kind.key2 r)) x

  abbrev pub step : State R → Call R K1 K2 → Step R
  step s (insert r) = inserting (has1 (kind.key1 r)) (has2 (kind.key2 r)) r s
  step s (overwrite r) = overwriting (has1 (kind.key1 r)) (has2 (kind.key2 r)) r s
  step s (replace r) = substituting (has1 (kind.key1 r)) (has2 (kind.key2 r)) r s
  step s (look1 k) = looking (has1 k) s
  step s (look2 k) = looking (has2 k) s
  step s (look12 k l) = looking (both (has1 k) (has2 l)) s
  step s (remove1 k) = removing (has1 k) s
  step s (remove2 k) = removing (has2 k) s
  step s (remove12 k l) = removing (both (has1 k) (has2 l)) s
  step s (retain p) = retaining p s
  step s count = counting s

  -- a state that calls leave: the chain of vacant slots is whole, and a key finds at most one slot
  pub record WellFormed (s : State R) : Type 0 where
    pub linked : Linked s
    pub once1 : (k : K1) → tally (has1 k) s.slots ≤ 1
    pub once2 : (k : K2) → tally (has2 k) s.slots ≤ 1

-- equality of two states of a kind whose whole records can be compared: as many stand, and each record of the first
-- meets, in one slot of the second under both keys, a record like it
module _ {R K1 K2 : Type 0} (kind : Kind R K1 K2) (alike : R → R → Bool) where
  abbrev pub like : R → Option (Found R) → Bool
  like r None = false
  like r (Some f) = alike r f.item

  abbrev pub meets : State R → R → Bool
  meets t r = like r (find (both (has1 kind (kind.key1 r)) (has2 kind (kind.key2 r))) 0 t.slots)

  abbrev pub all_meet : State R → List (ItemSlot R) → Bool
  all_meet t [] = true
  all_meet t (Occupied r ∷ xs) = meets t r && all_meet t xs
  all_meet t (Vacant n ∷ xs) = all_meet t xs

  abbrev pub equal : State R → State R → Bool
  equal s t = standing s == standing t && all_meet t s.slots
