-- A set after a record was put in or taken out, from what the memory tells.
use Rattle.std.proofs.Common.{◌≡◌, ℕ, ◌+◌, ◌-◌, ◌<◌, ◌≤◌, true, false, eqb, List, [], ◌∷◌, ◌++◌, length, set, Ok, Err, Result, Some, None, Option, refl, sym, ap, ◌∙◌, subst, arith}
use Rattle.std.specs.Result.{result_ok}
use Rattle.std.proofs.lemmas.Bool.{eq-eqb, ne_eqb}
use Rattle.memory.specs.declared.Memory as memory
use Rattle.memory.specs.declared.StorageRefusal.{StorageRefusal}
use Rattle.memory.specs.Refusals.{code}
use Rattle.memory.specs.Stored.{writing, pushing}
use Rattle.memory.proofs.Storing.{write_cases, push_cases}
use Rattle.base.proofs.Options.{none_some}
use Rattle.base.specs.Counting.{sentinel}
use Rattle.item_set.specs.declared.slot.ItemSlot.{ItemSlot}
use Rattle.item_set.specs.declared.slot.ItemSlot.TheVariants.{Occupied, Vacant}
use Rattle.item_set.specs.declared.set.ItemSet.TheInside.{Inside}
use Rattle.item_set.specs.Slots.{at, held, next, weigh, anyone}
use Rattle.item_set.specs.States.{State, standing, taken, granted, freed, exchanged}
use Rattle.item_set.specs.Chains.{Linked}
use Rattle.item_set.specs.Sets.{meaning, Ready}
use Rattle.item_set.proofs.Tally.{tally_set, tally_some}
use Rattle.item_set.proofs.Holding.{occupied, occupied_within}
use Rattle.item_set.proofs.Links.{taking, linked_freed, linked_exchanged}

-- what a memory did where it did not refuse, and why it refused where it did
module _ {X U : Type 0} where
  pub wrote : (r : Result U StorageRefusal) (u : U) (xs ys : List X) (i : ℕ) (x : X) → Some u ≡ result_ok r → ◌≡◌ {A = ℕ × List X} (code r, ys) (writing xs i x) → (i < length xs) × (ys ≡ set xs i x)
  wrote (Ok v) u xs ys i x e q = write_cases {U = U} (Ok v) xs ys i x q
  wrote (Err f) u xs ys i x e q = absurd (none_some (sym e))

  pub unwritten : (r : Result U StorageRefusal) (xs ys : List X) (i : ℕ) (x : X) → None ≡ result_ok r → ◌≡◌ {A = ℕ × List X} (code r, ys) (writing xs i x) → length xs ≤ i
  unwritten (Ok v) xs ys i x e q = absurd (none_some e)
  unwritten (Err f) xs ys i x e q = (write_cases {U = U} (Err f) xs ys i x q).0

  pub pushed : (r : Result U StorageRefusal) (u : U) (room : ℕ) (xs ys : List X) (x : X) → Some u ≡ result_ok r → ◌≡◌ {A = ℕ × List X} (code r, ys) (pushing room xs x) → ys ≡ xs ++ x ∷ []
  pushed (Ok v) u room xs ys x e q = (push_cases {U = U} (Ok v) room xs ys x q).1
  pushed (Err f) u room xs ys x e q = absurd (none_some (sym e))

  pub unpushed : (r : Result U StorageRefusal) (room : ℕ) (xs ys : List X) (x : X) → None ≡ result_ok r → ◌≡◌ {A = ℕ × List X} (code r, ys) (pushing room xs x) → length xs ≡ room
  unpushed (Ok v) room xs ys x e q = absurd (none_some e)
  unpushed (Err f) room xs ys x e q = (push_cases {U = U} (Err f) room xs ys x q).0

module _ {R : Type 0} where
  pub granted_end : (s : State R) (ys : List (ItemSlot R)) (v : R) (n : ℕ) → s.head ≡ sentinel → n ≡ length s.slots → ys ≡ s.slots ++ Occupied v ∷ [] → ◌≡◌ {A = Option ℕ × State R} (Some n, record { slots = ys; head = s.head; capacity = s.capacity }) (granted s v)
  granted_end s ys v n e en ey = let h : eqb s.head sentinel ≡ true = eq-eqb s.head sentinel e in rw (h, en, ey)

  pub granted_head : (s : State R) (ys : List (ItemSlot R)) (v : R) (i n : ℕ) → i ≡ s.head → (i ≡ sentinel → ⊥) → ys ≡ set s.slots i (Occupied v) → n ≡ next (at s.slots i) → ◌≡◌ {A = Option ℕ × State R} (Some i, record { slots = ys; head = n; capacity = s.capacity }) (granted s v)
  granted_head s ys v i n ei ne ey en = let h : eqb s.head sentinel ≡ false = ne_eqb s.head sentinel (λ q. ne (ei ∙ q)) in rw (h, ey, en, ei)

module _ {T M : Type 0} (m : memory.Ghosts M (ItemSlot T)) where
  -- one record more
  pub ready_taken : (s t : Inside T M) (v : T) (o : Option ℕ) → Ready m s → s.len < s.capacity → ◌≡◌ {A = Option ℕ × State T} (o, meaning m t) (granted (meaning m s) v) → t.len ≡ s.len + 1 → m.room t.items ≡ m.room s.items → Ready m t
  ready_taken s t v o w l e en er =
      let k = taking (meaning m s) v w.linked (λ q. omega (arith, w.counted)) in
      let q : meaning m t ≡ taken (meaning m s) v = ap (λ p. p.1) e in
      let c : t.capacity ≡ s.capacity = ap (λ x. x.capacity) q ∙ k.same_capacity in
      record {
        linked = subst Linked (sym q) k.linked;
        counted = let n = ap standing q in omega (arith, w.counted, k.counts anyone);
        room = omega (arith, w.room);
      }

  -- where a record stands, one is counted
  pub counts_one : (s : Inside T M) (i : ℕ) (r : T) → Ready m s → Some r ≡ held (at (m.items s.items) i) → 1 ≤ s.len
  counts_one s i r w e =
      let a = occupied (at (m.items s.items) i) r (sym e) in
      omega (arith, w.counted, tally_some anyone (m.items s.items) i r (occupied_within (m.items s.items) i r a) a refl)

  -- one record less
  pub ready_freed : (s t : Inside T M) (i : ℕ) (r : T) → Ready m s → Some r ≡ held (at (m.items s.items) i) → m.items t.items ≡ set (m.items s.items) i (Vacant s.free_head) → t.free_head ≡ i → t.capacity ≡ s.capacity → t.len ≡ s.len - 1 → m.room t.items ≡ m.room s.items → Ready m t
  ready_freed s t i r w e ei eh ec en er =
      let a = occupied (at (m.items s.items) i) r (sym e) in
      let l = occupied_within (m.items s.items) i r a in
      let q : meaning m t ≡ freed (meaning m s) i = rw (ei, eh, ec) refl in
      let n = ap standing q in
      let h : weigh anyone (at (m.items s.items) i) ≡ 1 = ap (weigh anyone) a in
      record {
        linked = subst Linked (sym q) (linked_freed (meaning m s) i r l a w.linked);
        counted = omega (arith, w.counted, tally_set anyone (m.items s.items) i (Vacant s.free_head) l);
        room = omega (arith, w.room);
      }

  -- another record in a slot
  pub ready_exchanged : (s t : Inside T M) (i : ℕ) (r v : T) → Ready m s → Some r ≡ held (at (m.items s.items) i) → m.items t.items ≡ set (m.items s.items) i (Occupied v) → t.free_head ≡ s.free_head → t.capacity ≡ s.capacity → t.len ≡ s.len → m.room t.items ≡ m.room s.items → Ready m t
  ready_exchanged s t i r v w e ei eh ec en er =
      let a = occupied (at (m.items s.items) i) r (sym e) in
      let l = occupied_within (m.items s.items) i r a in
      let q : meaning m t ≡ exchanged (meaning m s) i v = rw (ei, eh, ec) refl in
      let n = ap standing q in
      let h : weigh anyone (at (m.items s.items) i) ≡ 1 = ap (weigh anyone) a in
      record {
        linked = subst Linked (sym q) (linked_exchanged (meaning m s) i r v l a w.linked);
        counted = omega (arith, w.counted, tally_set anyone (m.items s.items) i (Occupied v) l);
        room = omega (arith, w.room);
      }
