-- The pairs that are due, as slots change.
use Rattle.std.proofs.Common.{◌≡◌, ℕ, zero, suc, ◌+◌, ◌<◌, ◌≤◌, Bool, true, false, eqb, List, [], ◌∷◌, ◌++◌, length, set, sym, refl, ap, ◌∙◌, not-suc-le-zero, add-zero, zero-add, arith}
use Rattle.std.proofs.lemmas.Bool.{eqb-false, eq-eqb, ne_eqb, cond-false, and_from}
use Rattle.base.specs.Counting.{sentinel, one, times, Same}
use Rattle.base.proofs.Counts.{times_all}
use Rattle.hash_table.specs.declared.HashTable as table
use Rattle.hash_table.specs.Pairs.{is_pair, adding, removing}
use Rattle.item_set.specs.declared.slot.ItemSlot.{ItemSlot}
use Rattle.item_set.specs.declared.slot.ItemSlot.TheVariants.{Occupied, Vacant}
use Rattle.item_set.specs.Chains.{Linked}
use Rattle.item_set.specs.Slots.{at, tally, anyone}
use Rattle.item_set.specs.States.{State, standing, taken, takes, freed, exchanged}
use Rattle.item_set.proofs.Links.{head_vacant, same_capacity}
use Rattle.memory.specs.declared.StorageRefusal.{StorageRefusal}
use Rattle.memory.specs.Refusals.{number}
use Rattle.memory.proofs.Storing.{refused}
use Rattle.map_tables.specs.Due.{due, Indexed}

module _ {R : Type 0} (hash : R → ℕ) where
  -- what a slot adds to a count of pairs
  abbrev pub share : (ℕ × ℕ → Bool) → ℕ → ItemSlot R → ℕ
  share t n (Occupied r) = one (t (hash r, n))
  share t n (Vacant m) = 0

  due_cons : (t : ℕ × ℕ → Bool) (n : ℕ) (x : ItemSlot R) (xs : List (ItemSlot R)) → times t (due hash n (x ∷ xs)) ≡ share t n x + times t (due hash (suc n) xs)
  due_cons t n (Occupied r) xs = refl
  due_cons t n (Vacant m) xs = omega arith

  pub due_set : (t : ℕ × ℕ → Bool) (n : ℕ) (xs : List (ItemSlot R)) (i : ℕ) (y : ItemSlot R) → i < length xs → times t (due hash n (set xs i y)) + share t (n + i) (at xs i) ≡ times t (due hash n xs) + share t (n + i) y
  due_set t n [] i y h = absurd (not-suc-le-zero h)
  due_set t n (x ∷ xs) zero y h = rw (add-zero n) (omega (arith, due_cons t n x xs, due_cons t n y xs))
  due_set t n (x ∷ xs) (suc i) y h =
      let e : n + suc i ≡ suc n + i = omega arith in
      rw e (omega (arith, due_cons t n x xs, due_cons t n x (set xs i y), due_set t (suc n) xs i y (omega arith)))

  pub due_push : (t : ℕ × ℕ → Bool) (n : ℕ) (xs : List (ItemSlot R)) (y : ItemSlot R) → times t (due hash n (xs ++ y ∷ [])) ≡ times t (due hash n xs) + share t (n + length xs) y
  due_push t n [] y = rw (add-zero n) (omega (arith, due_cons t n y []))
  due_push t n (x ∷ xs) y =
      let e : n + suc (length xs) ≡ suc n + length xs = omega arith in
      rw e (omega (arith, due_cons t n x xs, due_cons t n x (xs ++ y ∷ []), due_push t (suc n) xs y))

  -- a standing record's pair is among them
  pub due_there : (t : ℕ × ℕ → Bool) (xs : List (ItemSlot R)) (i : ℕ) (r : R) → i < length xs → at xs i ≡ Occupied r → t (hash r, i) ≡ true → 1 ≤ times t (due hash 0 xs)
  due_there t xs i r l a h =
      let w : share t (0 + i) (at xs i) ≡ 1 = rw (zero-add i) (ap (share t i) a ∙ ap one h) in
      omega (arith, due_set t 0 xs i (Vacant 0) l)

  -- there are as many as records stand
  pub due_long : (n : ℕ) (xs : List (ItemSlot R)) → times (λ p. true) (due hash n xs) ≡ tally anyone xs
  due_long n [] = refl
  due_long n (Occupied r ∷ xs) = omega (arith, due_long (suc n) xs)
  due_long n (Vacant m ∷ xs) = omega (arith, due_long (suc n) xs)

  -- one record more: its pair, and those that were
  pub due_taken : (s : State R) (v : R) → Linked s → Same (due hash 0 (taken s v).slots) ((hash v, takes s) ∷ due hash 0 s.slots)
  due_taken s v k t = go (eqb s.head sentinel) refl
    where
      go : (b : Bool) → eqb s.head sentinel ≡ b → times t (due hash 0 (taken s v).slots) ≡ times t ((hash v, takes s) ∷ due hash 0 s.slots)
      go true e =
          let p = due_push t 0 s.slots (Occupied v) in
          let z : 0 + length s.slots ≡ length s.slots = zero-add (length s.slots) in
          let q = rw z at p in
          rw e (omega (arith, q))
      go false e =
          let h = head_vacant s k (eqb-false s.head sentinel e) in
          let p = due_set t 0 s.slots s.head (Occupied v) h.0 in
          let q = rw (zero-add s.head) at p in
          let w : share t s.head (at s.slots s.head) ≡ 0 = ap (share t s.head) h.1 in
          rw e (omega (arith, q, w))

-- the table of a map, as a record comes in
module _ {R A : Type 0} (a : table.Ghosts A) (hash : R → ℕ) where
  pub indexed_taken : (s : State R) (t t' : A) (v : R) (h slot : ℕ) → Linked s → Indexed a hash s t → h ≡ hash v → slot ≡ takes s → a.room t' ≡ a.room t → Same (a.pairs t') ((h, slot) ∷ a.pairs t) → Indexed a hash (taken s v) t'
  indexed_taken s t t' v h slot k x eh es er same = record {
    pairs = λ q. omega (arith, same q, due_taken hash s v k q, x.pairs q, ap (λ n. one (q (n, slot))) eh, ap (λ n. one (q (hash v, n))) es);
    room = omega (arith, x.room, same_capacity s v);
  }

  -- as many pairs as records
  pub indexed_long : (s : State R) (t : A) → Indexed a hash s t → length (a.pairs t) ≡ standing s
  indexed_long s t x = sym (times_all (a.pairs t)) ∙ x.pairs (λ p. true) ∙ due_long hash 0 s.slots

  -- where one record more may stand, the table has room for it
  pub never_full : (s : State R) (t : A) (e : StorageRefusal) → Indexed a hash s t → standing s < s.capacity → number e ≡ adding (a.room t) (a.pairs t) → ⊥
  never_full s t e x l q =
      let ne : eqb (length (a.pairs t)) (a.room t) ≡ false = ne_eqb _ _ (λ w. omega (arith, indexed_long s t x, x.room)) in
      refused e (q ∙ cond-false (eqb (length (a.pairs t)) (a.room t)) 8 0 ne)

  -- a record is taken out
  pub indexed_freed : (s : State R) (t t' : A) (r : R) (h slot : ℕ) → slot < length s.slots → at s.slots slot ≡ Occupied r → Indexed a hash s t → h ≡ hash r → a.room t' ≡ a.room t → Same (a.pairs t) ((h, slot) ∷ a.pairs t') → Indexed a hash (freed s slot) t'
  indexed_freed s t t' r h slot l o x eh er same = record {
    pairs = λ q.
        let d = due_set hash q 0 s.slots slot (Vacant s.head) l in
        let d' = rw (zero-add slot) at d in
        let w : share hash q slot (at s.slots slot) ≡ one (q (hash r, slot)) = ap (share hash q slot) o in
        omega (arith, d', w, same q, x.pairs q, ap (λ n. one (q (n, slot))) eh);
    room = omega (arith, x.room);
  }

  -- the pair of a standing record is there
  pub never_missing : (s : State R) (t : A) (r : R) (h slot : ℕ) (e : StorageRefusal) → slot < length s.slots → at s.slots slot ≡ Occupied r → Indexed a hash s t → h ≡ hash r → number e ≡ removing (a.pairs t) h slot → ⊥
  never_missing s t r h slot e l o x eh q =
      let there = due_there hash (is_pair h slot) s.slots slot r l o (and_from (eqb (hash r) h) (eqb slot slot) (eq-eqb _ _ (sym eh)) (eq-eqb slot slot refl)) in
      let ne : eqb (times (is_pair h slot) (a.pairs t)) 0 ≡ false = ne_eqb _ _ (λ z. omega (arith, z, x.pairs (is_pair h slot))) in
      refused e (q ∙ cond-false (eqb (times (is_pair h slot) (a.pairs t)) 0) 10 0 ne)

  -- another record with the same hash in its slot
  pub indexed_exchanged : (s : State R) (t : A) (r v : R) (slot : ℕ) → slot < length s.slots → at s.slots slot ≡ Occupied r → hash v ≡ hash r → Indexed a hash s t → Indexed a hash (exchanged s slot v) t
  indexed_exchanged s t r v slot l o e x = record {
    pairs = λ q.
        let d = due_set hash q 0 s.slots slot (Occupied v) l in
        let d' = rw (zero-add slot) at d in
        let w : share hash q slot (at s.slots slot) ≡ one (q (hash r, slot)) = ap (share hash q slot) o in
        omega (arith, d', w, x.pairs q, ap (λ n. one (q (n, slot))) e);
    room = x.room;
  }
