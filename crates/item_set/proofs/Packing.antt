-- Slots as they are compacted: the records moved forward so far, and where each slot went.
use Rattle.std.proofs.Common.{◌≡◌, ℕ, suc, ◌+◌, ◌<◌, ◌≤◌, Bool, true, false, cond, eqb, ltb, List, [], ◌∷◌, ◌++◌, length, get_or, take, drop, set, Some, None, sym, refl, ap, ◌∙◌, subst, append_assoc, add-zero, add-one, arith, drop-cons, take-suc, drop-set-lt}
use lib.Seq.{take-set-le, set-append_seam, take-length}
use Rattle.std.proofs.lemmas.List.{length-set, length-take-le, length_push, get_or-set_same, append-nil}
use Rattle.std.proofs.lemmas.Bool.{false≢true}
use Rattle.base.specs.Counting.{sentinel, one}
use Rattle.base.proofs.Options.{none_some}
use Rattle.memory.specs.declared.Memory as memory
use Rattle.item_set.specs.declared.slot.ItemSlot.{ItemSlot}
use Rattle.item_set.specs.declared.slot.ItemSlot.TheVariants.{Occupied, Vacant}
use Rattle.item_set.specs.declared.remap.IndexRemap.TheVariants.{Identity, Permuted}
use Rattle.item_set.specs.declared.set.ItemSet.TheInside.{Inside}
use Rattle.item_set.specs.Chains.{Linked}
use Rattle.item_set.specs.Compacting.{compacts, noted, compacting}
use Rattle.item_set.specs.Sets.{meaning, Ready}
use Rattle.item_set.specs.Slots.{at, held, tally, anyone}
use Rattle.item_set.specs.States.{State, standing, closed, moves, packed, advancing}

module _ {R : Type 0} where
  -- compacting loses no record
  pub tally_closed : (q : R → Bool) (xs : List (ItemSlot R)) → tally q (closed xs) ≡ tally q xs
  tally_closed q [] = refl
  tally_closed q (Occupied r ∷ xs) = ap (λ (n : ℕ). one (q r) + n) (tally_closed q xs)
  tally_closed q (Vacant n ∷ xs) = omega (arith, tally_closed q xs)

  pub length_closed : (xs : List (ItemSlot R)) → length (closed xs) ≡ tally anyone xs
  length_closed [] = refl
  length_closed (Occupied r ∷ xs) = omega (arith, length_closed xs)
  length_closed (Vacant n ∷ xs) = omega (arith, length_closed xs)

  pub length_moves : (n : ℕ) (xs : List (ItemSlot R)) → length (moves n xs) ≡ length xs
  length_moves n [] = refl
  length_moves n (Occupied r ∷ xs) = ap suc (length_moves (suc n) xs)
  length_moves n (Vacant m ∷ xs) = ap suc (length_moves n xs)

  pub closed_most : (xs : List (ItemSlot R)) → length (closed xs) ≤ length xs
  closed_most [] = omega arith
  closed_most (Occupied r ∷ xs) = omega (arith, closed_most xs)
  closed_most (Vacant n ∷ xs) = omega (arith, closed_most xs)

  -- one slot more at the end
  closed_push : (xs : List (ItemSlot R)) (y : ItemSlot R) → closed (xs ++ y ∷ []) ≡ closed xs ++ closed (y ∷ [])
  closed_push [] y = refl
  closed_push (Occupied r ∷ xs) y = ap (λ (zs : List (ItemSlot R)). Occupied r ∷ zs) (closed_push xs y)
  closed_push (Vacant n ∷ xs) y = closed_push xs y

  moves_push : (n : ℕ) (xs : List (ItemSlot R)) (y : ItemSlot R) → moves n (xs ++ y ∷ []) ≡ moves n xs ++ moves (n + length (closed xs)) (y ∷ [])
  moves_push n [] y = ap (λ (k : ℕ). moves k (y ∷ [])) (sym (add-zero n))
  moves_push n (Occupied r ∷ xs) y =
      let e : suc n + length (closed xs) ≡ n + suc (length (closed xs)) = omega arith in
      ap (λ (zs : List ℕ). n ∷ zs) (moves_push (suc n) xs y ∙ ap (λ (k : ℕ). moves (suc n) xs ++ moves k (y ∷ [])) e)
  moves_push n (Vacant m ∷ xs) y = ap (λ (zs : List ℕ). sentinel ∷ zs) (moves_push n xs y)

  -- The slots and the scratch once n slots are done, where the next free slot is w: the records of those n slots stand
  -- together at the front, the slots after them are as they were, and the scratch has where each of the n went.
  pub record Packing (xs : List (ItemSlot R)) (ws : List ℕ) (n : ℕ) (ys : List (ItemSlot R)) (vs : List ℕ) (w : ℕ) : Type 0 where
    pub front : take w ys ≡ closed (take n xs)
    pub rest : drop n ys ≡ drop n xs
    pub long : length ys ≡ length xs
    pub notes : vs ≡ moves 0 (take n xs) ++ drop n ws
    pub free : w ≡ length (closed (take n xs))

  module _ (xs : List (ItemSlot R)) (ws : List ℕ) (n : ℕ) (ys : List (ItemSlot R)) (vs : List ℕ) (w : ℕ) (p : Packing xs ws n ys vs w) (l : n < length xs) (h : length xs ≤ length ws) where
    one_more : take (n + 1) xs ≡ take n xs ++ at xs n ∷ []
    one_more = ap (λ (k : ℕ). take k xs) (add-one n) ∙ take-suc xs n (Vacant sentinel) l

    first_of : (zs us : List (ItemSlot R)) (a b : ItemSlot R) → a ∷ zs ≡ b ∷ us → a ≡ b
    first_of zs us a b e = cc

    rest_of : (zs us : List (ItemSlot R)) (a b : ItemSlot R) → a ∷ zs ≡ b ∷ us → zs ≡ us
    rest_of zs us a b e = cc

    both_sides : at ys n ∷ drop (suc n) ys ≡ at xs n ∷ drop (suc n) xs
    both_sides = sym (drop-cons ys n (Vacant sentinel) (omega (arith, p.long))) ∙ p.rest ∙ drop-cons xs n (Vacant sentinel) l

    -- the slot that is next is as it was
    pub next_same : at ys n ≡ at xs n
    next_same = first_of (drop (suc n) ys) (drop (suc n) xs) (at ys n) (at xs n) both_sides

    rest_more : drop (n + 1) ys ≡ drop (n + 1) xs
    rest_more = ap (λ (k : ℕ). drop k ys) (add-one n) ∙ rest_of (drop (suc n) ys) (drop (suc n) xs) (at ys n) (at xs n) both_sides ∙ sym (ap (λ (k : ℕ). drop k xs) (add-one n))

    -- its new place is written into the scratch
    note_more : (v : ℕ) → moves (0 + length (closed (take n xs))) (at xs n ∷ []) ≡ v ∷ [] → set vs n v ≡ moves 0 (take (n + 1) xs) ++ drop (n + 1) ws
    note_more v e =
        let done : List ℕ = moves 0 (take n xs) in
        let ln : length done ≡ n = length_moves 0 (take n xs) ∙ length-take-le n xs (omega arith) in
        let d : drop n ws ≡ get_or ws n 0 ∷ drop (suc n) ws = drop-cons ws n 0 (omega arith) in
        let s : set (done ++ get_or ws n 0 ∷ drop (suc n) ws) n v ≡ done ++ v ∷ drop (suc n) ws = subst (λ (k : ℕ). set (done ++ get_or ws n 0 ∷ drop (suc n) ws) k v ≡ done ++ v ∷ drop (suc n) ws) ln (set-append_seam done (get_or ws n 0) (drop (suc n) ws) v) in
        let m : moves 0 (take (n + 1) xs) ≡ done ++ v ∷ [] = ap (moves 0) one_more ∙ moves_push 0 (take n xs) (at xs n) ∙ ap (λ (zs : List ℕ). done ++ zs) e in
        let f : (done ++ v ∷ []) ++ drop (suc n) ws ≡ done ++ v ∷ drop (suc n) ws = append_assoc done (v ∷ []) (drop (suc n) ws) in
        ap (λ (zs : List ℕ). set zs n v) (p.notes ∙ ap (λ (zs : List ℕ). done ++ zs) d) ∙ s ∙ sym f ∙ ap (λ (zs : List ℕ). zs ++ drop (suc n) ws) (sym m) ∙ ap (λ (k : ℕ). moves 0 (take (n + 1) xs) ++ drop k ws) (sym (add-one n))

    pub free_most : w ≤ n
    free_most = omega (arith, p.free, closed_most (take n xs), length-take-le n xs (omega arith))

    -- a record moves to the next free slot
    pub packing_record : (r : R) → at xs n ≡ Occupied r → Packing xs ws (n + 1) (set ys w (Occupied r)) (set vs n w) (w + 1)
    packing_record r e =
        let lw : w < length ys = omega (arith, free_most, p.long) in
        let c : closed (take (n + 1) xs) ≡ closed (take n xs) ++ Occupied r ∷ [] = ap closed one_more ∙ closed_push (take n xs) (at xs n) ∙ ap (λ (y : ItemSlot R). closed (take n xs) ++ closed (y ∷ [])) e in
        let t : take (w + 1) (set ys w (Occupied r)) ≡ take w ys ++ Occupied r ∷ [] =
        ap (λ (k : ℕ). take k (set ys w (Occupied r))) (add-one w)
        ∙ take-suc (set ys w (Occupied r)) w (Vacant sentinel) (simp length-set lw)
        ∙ ap (λ (zs : List (ItemSlot R)). zs ++ at (set ys w (Occupied r)) w ∷ []) (take-set-le w ys w (Occupied r) (omega arith))
        ∙ ap (λ (y : ItemSlot R). take w ys ++ y ∷ []) (get_or-set_same ys w (Occupied r) (Vacant sentinel) lw) in
        record {
          front = t ∙ ap (λ (zs : List (ItemSlot R)). zs ++ Occupied r ∷ []) p.front ∙ sym c;
          rest = drop-set-lt (n + 1) ys w (Occupied r) (omega (arith, free_most)) ∙ rest_more;
          long = length-set ys w (Occupied r) ∙ p.long;
          notes = note_more w (ap (λ (y : ItemSlot R). moves (0 + length (closed (take n xs))) (y ∷ [])) e ∙ ap (λ (k : ℕ). k ∷ []) (omega (arith, p.free)));
          free = omega (arith, p.free, length_closed (take n xs), length_closed (take (n + 1) xs), count_more r e);
        }
      where
        count_more : (r : R) → at xs n ≡ Occupied r → length (closed (take (n + 1) xs)) ≡ length (closed (take n xs)) + 1
        count_more r e = ap (λ (zs : List (ItemSlot R)). length (closed zs)) one_more ∙ ap length (closed_push (take n xs) (at xs n)) ∙ ap (λ (y : ItemSlot R). length (closed (take n xs) ++ closed (y ∷ []))) e ∙ length_push (closed (take n xs)) (Occupied r)

    -- a vacant slot goes
    pub packing_vacant : (m : ℕ) → at xs n ≡ Vacant m → Packing xs ws (n + 1) ys (set vs n sentinel) w
    packing_vacant m e =
        let c : closed (take (n + 1) xs) ≡ closed (take n xs) = ap closed one_more ∙ closed_push (take n xs) (at xs n) ∙ ap (λ (y : ItemSlot R). closed (take n xs) ++ closed (y ∷ [])) e ∙ append-nil (closed (take n xs)) in
        record {
          front = p.front ∙ sym c;
          rest = rest_more;
          long = p.long;
          notes = note_more sentinel (ap (λ (y : ItemSlot R). moves (0 + length (closed (take n xs))) (y ∷ [])) e);
          free = p.free ∙ ap length (sym c);
        }

    -- by what moving the record of the next slot answers
    pub packing_moved : (zs : List (ItemSlot R)) → ◌≡◌ {A = Bool × List (ItemSlot R)} (true, zs) (advancing ys w (held (at ys n))) → Packing xs ws (n + 1) zs (set vs n w) (w + 1)
    packing_moved zs e = go (at ys n) refl e
      where
        go : (x : ItemSlot R) → at ys n ≡ x → ◌≡◌ {A = Bool × List (ItemSlot R)} (true, zs) (advancing ys w (held x)) → Packing xs ws (n + 1) zs (set vs n w) (w + 1)
        go (Occupied r) a q = subst (λ (us : List (ItemSlot R)). Packing xs ws (n + 1) us (set vs n w) (w + 1)) (sym (ap (λ t. t.1) q)) (packing_record r (sym next_same ∙ a))
        go (Vacant m) a q = absurd (false≢true (sym (ap (λ t. t.0) q)))

    pub packing_left : (zs : List (ItemSlot R)) → ◌≡◌ {A = Bool × List (ItemSlot R)} (false, zs) (advancing ys w (held (at ys n))) → Packing xs ws (n + 1) zs (set vs n sentinel) w
    packing_left zs e = go (at ys n) refl e
      where
        go : (x : ItemSlot R) → at ys n ≡ x → ◌≡◌ {A = Bool × List (ItemSlot R)} (false, zs) (advancing ys w (held x)) → Packing xs ws (n + 1) zs (set vs n sentinel) w
        go (Occupied r) a q = absurd (false≢true (ap (λ t. t.0) q))
        go (Vacant m) a q = subst (λ (us : List (ItemSlot R)). Packing xs ws (n + 1) us (set vs n sentinel) w) (sym (ap (λ t. t.1) q)) (packing_vacant m (sym next_same ∙ a))

  -- all slots are done
  pub packing_all : (xs : List (ItemSlot R)) (ws : List ℕ) (n : ℕ) (ys : List (ItemSlot R)) (vs : List ℕ) (w : ℕ) → Packing xs ws n ys vs w → n ≡ length xs → (take w ys ≡ closed xs) × (vs ≡ moves 0 xs ++ drop (length xs) ws)
  packing_all xs ws n ys vs w p e =
      let t : take n xs ≡ xs = ap (λ (k : ℕ). take k xs) e ∙ take-length xs in
      (p.front ∙ ap closed t, p.notes ∙ ap (λ (zs : List (ItemSlot R)). moves 0 zs ++ drop n ws) t ∙ ap (λ (k : ℕ). moves 0 xs ++ drop k ws) e)

  -- a set whose slots were compacted: its chain is empty, and it counts the same records
  pub linked_packed : (s : State R) → Linked s → Linked (packed s)
  linked_packed s k = record {
    free = [];
    chain = refl;
    whole = omega (arith, tally_closed anyone s.slots, length_closed s.slots);
    within = omega (arith, closed_most s.slots, k.within);
    small = k.small;
  }

module _ {T M : Type 0} (m : memory.Ghosts M (ItemSlot T)) where
  pub ready_packed : (s t : Inside T M) → Ready m s → m.items t.items ≡ closed (m.items s.items) → t.free_head ≡ sentinel → t.capacity ≡ s.capacity → t.len ≡ s.len → m.room t.items ≡ m.room s.items → Ready m t
  ready_packed s t w ei eh ec en er =
      let q : meaning m t ≡ packed (meaning m s) = rw (ei, eh, ec) refl in
      let n = ap standing q in
      record {
        linked = subst Linked (sym q) (linked_packed (meaning m s) w.linked);
        counted = omega (arith, w.counted, tally_closed anyone (m.items s.items));
        room = omega (arith, w.room);
      }

-- what a compaction answered, read back
pub compacting_permuted : {R : Type 0} (s t : State R) (ws vs : List ℕ) → compacts (Some Permuted) t vs ≡ compacting s ws → (t ≡ packed s) × (vs ≡ noted s ws)
compacting_permuted s t ws vs e = go (eqb (standing s) (length s.slots)) (ltb (length ws) (length s.slots)) e
  where
    go : (b d : Bool) → compacts (Some Permuted) t vs ≡ cond b (compacts (Some Identity) s ws) (cond d (compacts None s ws) (compacts (Some Permuted) (packed s) (noted s ws))) → (t ≡ packed s) × (vs ≡ noted s ws)
    go true d q = let z : ◌≡◌ {A = ℕ} 0 1 = cc (ap (λ x. x.remap) q) in absurd (omega arith)
    go false true q = absurd (none_some (sym (ap (λ x. x.remap) q)))
    go false false q = (ap (λ x. x.after) q, ap (λ x. x.scratch) q)
