-- What the answers of the code tell: number and values for every case.
use Rattle.std.specs.Prelude.{ℕ, cond, List, [], ◌∷◌, Some, None, Ok, Err, Option, Result, ◌==◌, nat_lt}
use Rattle.model.specs.Answers.{Answer, refused, placed}
use Rattle.model.specs.declared.Duplicates.{Duplicates}
use Rattle.model.specs.declared.Duplicates.TheVariants.{One, Two}
use Rattle.model.specs.declared.Found.{Found}
use Rattle.model.specs.declared.Overwritten.{Overwritten}
use Rattle.model.specs.declared.MapRefusal.{MapRefusal}
use Rattle.model.specs.declared.MapRefusal.TheVariants.{Duplicate, Full, NotThere}

abbrev pub listed : {R : Type 0} → Duplicates R → List R
listed (One a) = a ∷ []
listed (Two a b) = a ∷ b ∷ []

-- the records that share a key, if any
abbrev pub shared : {R : Type 0} → Option (Duplicates R) → List R
shared None = []
shared (Some d) = listed d

-- the record in an answer, if there is one
abbrev pub one_of : {R : Type 0} → Option R → List R
one_of None = []
one_of (Some a) = a ∷ []

-- the records that two searches found, by ascending slot, and one that both found once
abbrev pub in_order : {R : Type 0} → Option (Found R) → Option (Found R) → List R
in_order None None = []
in_order None (Some b) = b.item ∷ []
in_order (Some a) None = a.item ∷ []
in_order (Some a) (Some b) = cond (a.slot == b.slot) (a.item ∷ []) (cond (nat_lt a.slot b.slot) (a.item ∷ b.item ∷ []) (b.item ∷ a.item ∷ []))

-- the second search's answer, unless it is the slot that the first found
abbrev pub another : {R : Type 0} → Option (Found R) → Option (Found R) → Option (Found R)
another None u = u
another (Some a) None = None
another (Some a) (Some b) = cond (a.slot == b.slot) None (Some b)

abbrev pub refusal : {R : Type 0} → MapRefusal R → Answer R
refusal (Duplicate d) = refused 1 (d.new ∷ listed d.duplicates)
refusal Full = refused 2 []
refusal NotThere = refused 3 []

-- an answer with a slot
abbrev pub inserted : {R : Type 0} → Result ℕ (MapRefusal R) → Answer R
inserted (Ok slot) = placed slot []
inserted (Err e) = refusal e

-- an answer with a slot and its record
abbrev pub looked : {R : Type 0} → Result (Found R) (MapRefusal R) → Answer R
looked (Ok f) = placed f.slot (f.item ∷ [])
looked (Err e) = refusal e

-- an answer with a slot and what was displaced
abbrev pub overwritten : {R : Type 0} → Result (Overwritten R) (MapRefusal R) → Answer R
overwritten (Ok o) = placed o.slot (shared o.displaced)
overwritten (Err e) = refusal e
