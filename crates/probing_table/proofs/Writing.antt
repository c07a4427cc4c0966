-- What a write of one cell does to a table.
use Rattle.std.proofs.Common.{◌≡◌, ℕ, ◌+◌, ◌%◌, ◌<◌, ◌≤◌, Bool, true, false, ◌&&◌, eqb, List, [], ◌∷◌, map, length, set, replicate, sym, refl, ap, ◌∙◌, subst, ⊎_elim, mod-lt, arith}
use Rattle.std.proofs.lemmas.List.{length-set, length-map, length-replicate, get_or-set_same, get_or-set_other, get_or-replicate, get_or-map, get_or_past, nil_from_length}
use Rattle.std.proofs.lemmas.Bool.{cases_lt, cases_eq, eqb-true, both_ways, and_parts, and_left}
use Rattle.hash_table.specs.Cells.{pair_of, says_occupied, held, holding, cell_at, empty_cell, cell_moved}
use Rattle.hash_table.specs.declared.index.HashedIndex.{HashedIndex}
use Rattle.hash_table.specs.declared.index.Mark.{Mark}
use Rattle.hash_table.specs.declared.index.Mark.TheVariants.{Empty, Occupied, Removed}
use Rattle.base.specs.Counting.{one, times, Same}
use Rattle.probing_table.specs.Marks.{says_empty, says_removed, vacant, removed, answers}
use Rattle.probing_table.specs.Probed.{spot, met, probed, Reached, Laid, LaidBut, Tidied, Sound, Free}
use Rattle.probing_table.proofs.Counting.{times_set, times_none, times_there, times_le_length}
use Rattle.probing_table.proofs.Rounds.{spot_lt, spot_same, spot_back, spot_next, spot_alone}
use Rattle.probing_table.proofs.Listing.{times_probed, length_probed}

-- a cell has one mark
held_not_vacant : (c : HashedIndex) → held c ≡ true → vacant c ≡ false
held_not_vacant c = by c.mark
  where
    by : (m : Mark) → says_occupied m ≡ true → says_empty m ≡ false
    by Empty e = sym e
    by Occupied e = refl
    by Removed e = refl

held_not_removed : (c : HashedIndex) → held c ≡ true → removed c ≡ false
held_not_removed c = by c.mark
  where
    by : (m : Mark) → says_occupied m ≡ true → says_removed m ≡ false
    by Empty e = refl
    by Occupied e = refl
    by Removed e = sym e

removed_not_held : (c : HashedIndex) → removed c ≡ true → held c ≡ false
removed_not_held c = by c.mark
  where
    by : (m : Mark) → says_removed m ≡ true → says_occupied m ≡ false
    by Empty e = refl
    by Occupied e = sym e
    by Removed e = refl

removed_not_vacant : (c : HashedIndex) → removed c ≡ true → vacant c ≡ false
removed_not_vacant c = by c.mark
  where
    by : (m : Mark) → says_removed m ≡ true → says_empty m ≡ false
    by Empty e = sym e
    by Occupied e = refl
    by Removed e = refl

-- the cell c is written at place i
module _ (n : ℕ) (xs : List HashedIndex) (i : ℕ) (c : HashedIndex) (len : length xs ≡ n) (lt_i : i < n) where
  length_put : length (set xs i c) ≡ n
  length_put = length-set xs i c ∙ len

  at_same : (j : ℕ) → j ≡ i → cell_at (set xs i c) j ≡ c
  at_same j e = ap (cell_at (set xs i c)) e ∙ get_or-set_same xs i c empty_cell (omega arith)

  at_other : (j : ℕ) → (j ≡ i → ⊥) → cell_at (set xs i c) j ≡ cell_at xs j
  at_other j ne = get_or-set_other xs i j c empty_cell ne

  -- a place that passes a test that c fails is another one
  apart : (t : HashedIndex → Bool) (j : ℕ) → t c ≡ false → t (cell_at (set xs i c) j) ≡ true → j ≡ i → ⊥
  apart t j f e z = both_ways (t c) f (sym (ap t (at_same j z)) ∙ e)

  -- and passed before
  passed : (t : HashedIndex → Bool) (j : ℕ) → t c ≡ false → t (cell_at (set xs i c) j) ≡ true → t (cell_at xs j) ≡ true
  passed t j f e = sym (ap t (at_other j (apart t j f e))) ∙ e

  times_put : (q : ℕ × ℕ → Bool) → times q (probed n (set xs i c)) + one (holding q (cell_at xs i)) ≡ times q (probed n xs) + one (holding q c)
  times_put q =
      let a = times_probed n (set xs i c) length_put q in
      let b = times_probed n xs len q in
      let s = times_set (holding q) xs i c empty_cell (omega arith) in
      omega arith

  full : (y : HashedIndex) → held y ≡ true → (q : ℕ × ℕ → Bool) → one (holding q y) ≡ one (q (pair_of y))
  full y e q = ap (λ b. one (b && q (pair_of y))) e

  bare : (y : HashedIndex) → held y ≡ false → (q : ℕ × ℕ → Bool) → one (holding q y) ≡ 0
  bare y e q = ap (λ b. one (b && q (pair_of y))) e

  pub pairs_added : held (cell_at xs i) ≡ false → held c ≡ true → Same (probed n (set xs i c)) (pair_of c ∷ probed n xs)
  pairs_added a b q = let s = times_put q in let x = bare (cell_at xs i) a q in let y = full c b q in omega arith

  pub pairs_out : held (cell_at xs i) ≡ true → held c ≡ false → Same (probed n xs) (pair_of (cell_at xs i) ∷ probed n (set xs i c))
  pairs_out a b q = let s = times_put q in let x = full (cell_at xs i) a q in let y = bare c b q in omega arith

  pairs_kept : held (cell_at xs i) ≡ false → held c ≡ false → Same (probed n (set xs i c)) (probed n xs)
  pairs_kept a b q = let s = times_put q in let x = bare (cell_at xs i) a q in let y = bare c b q in omega arith

  -- a pair is added at the first place without one on its way
  reached_added : Reached n xs → Free n xs c.hash i → held c ≡ true → Reached n (set xs i c)
  reached_added ok (j, lt-j, is-i, free, before) has h a b le lt empty ans =
      let p = h % n in
      let off : spot n p a ≡ i → ⊥ = apart vacant (spot n p a) (held_not_vacant c has) empty in
      let old_empty : vacant (met n xs p a) ≡ true = passed vacant (spot n p a) (held_not_vacant c has) empty in
      ⊎_elim
      (λ (e : spot n p b ≡ i).
      let t : answers h c ≡ true = sym (ap (answers h) (at_same (spot n p b) e)) ∙ ans in
      let home : p ≡ c.hash % n = ap (λ z. z % n) (sym (eqb-true c.hash h (and_parts (held c) (eqb c.hash h) t).1)) in
      let b_is : b ≡ j = spot_same n p b j (mod-lt h (omega arith)) lt lt-j (e ∙ is-i ∙ ap (λ q. spot n q j) (sym home)) in
      let a_off : a ≡ j → ⊥ = λ z. off (ap (spot n p) z ∙ ap (λ q. spot n q j) home ∙ sym is-i) in
      let was : held (met n xs p a) ≡ true = ap (λ q. held (met n xs q a)) home ∙ before a (omega arith) in
      both_ways (vacant (met n xs p a)) (held_not_vacant (met n xs p a) was) old_empty)
      (λ (e : spot n p b ≡ i → ⊥). ok h a b le lt old_empty (sym (ap (answers h) (at_other (spot n p b) e)) ∙ ans))
      (cases_eq (spot n p b) i)

  no_answer : held c ≡ false → (h : ℕ) → answers h c ≡ false
  no_answer bare h = and_left (held c) (eqb c.hash h) bare

  -- a removed cell stops no probe
  reached_removed : Reached n xs → held c ≡ false → vacant c ≡ false → Reached n (set xs i c)
  reached_removed ok no-pair filled h a b le lt empty ans =
      ok h a b le lt (passed vacant _ filled empty) (passed (answers h) _ (no_answer no-pair h) ans)

  -- one that stands right before an empty cell may stop them
  reached_emptied : Reached n xs → held c ≡ false → vacant (met n xs i 1) ≡ true → Reached n (set xs i c)
  reached_emptied ok no-pair next h a b le lt empty ans =
      let p = h % n in
      let off = apart (answers h) (spot n p b) (no_answer no-pair h) ans in
      let old = passed (answers h) (spot n p b) (no_answer no-pair h) ans in
      ⊎_elim
      (λ (e : spot n p a ≡ i).
      let less : a ≡ b → ⊥ = λ z. off (ap (spot n p) (sym z) ∙ e) in
      ok
      h
      (a + 1)
      b
      (omega arith)
      lt
      (ap (λ q. vacant (cell_at xs q)) (spot_next n p a (mod-lt h (omega arith)) (omega arith) ∙ ap (λ q. spot n q 1) e) ∙ next)
      old)
      (λ (e : spot n p a ≡ i → ⊥). ok h a b le lt (sym (ap vacant (at_other (spot n p a) e)) ∙ empty) old)
      (cases_eq (spot n p a) i)

  pub laid_added : Laid n xs → Free n xs c.hash i → held c ≡ true → Laid n (set xs i c)
  laid_added (_, reached, tidy) free has = (
    length_put,
    reached_added reached free has,
    λ k lt u gone empty. tidy k lt u (passed removed k (held_not_removed c has) gone) (passed vacant (spot n k 1) (held_not_vacant c has) empty),
  )

  pub laid_removed : Laid n xs → held c ≡ false → vacant c ≡ false → LaidBut i n (set xs i c)
  laid_removed (_, reached, tidy) no-pair filled = (
    length_put,
    reached_removed reached no-pair filled,
    λ k lt ne gone empty. tidy k lt tt (sym (ap removed (at_other k ne)) ∙ gone) (passed vacant (spot n k 1) filled empty),
  )

  laid_emptied : LaidBut i n xs → held c ≡ false → removed c ≡ false → vacant (met n xs i 1) ≡ true → (b : ℕ) → b < n → spot n b 1 ≡ i → LaidBut b n (set xs i c)
  laid_emptied (_, reached, tidy) no-pair not-removed next b lt-b is_b = (
    length_put,
    reached_emptied reached no-pair next,
    λ k lt ne gone empty.
        let off : spot n k 1 ≡ i → ⊥ = λ e. ne (spot_back n k b lt lt-b (e ∙ sym is_b)) in
        tidy k lt (apart removed k not-removed gone) (passed removed k not-removed gone) (sym (ap vacant (at_other (spot n k 1) off)) ∙ empty),
  )

  -- a removed cell less
  fewer_removed : removed (cell_at xs i) ≡ true → removed c ≡ false → times removed (set xs i c) + 1 ≡ times removed xs
  fewer_removed was not =
      let s = times_set removed xs i c empty_cell (omega arith) in
      let a = ap one was in
      let b = ap one not in
      omega arith

-- the cell at place b does stand well
laid_here : (n : ℕ) (xs : List HashedIndex) (b : ℕ) → LaidBut b n xs → (removed (cell_at xs b) ≡ true → vacant (met n xs b 1) ≡ true → ⊥) → Laid n xs
laid_here n xs b (len, reached, tidy) good = (
  len,
  reached,
  λ k lt _ gone empty.
      ⊎_elim
      (λ (e : k ≡ b). good (sym (ap (λ z. removed (cell_at xs z)) e) ∙ gone) (sym (ap (λ z. vacant (met n xs z 1)) e) ∙ empty))
      (λ (e : k ≡ b → ⊥). tidy k lt e gone empty)
      (cases_eq k b),
)

-- where no cell is removed, none stands badly
laid_none_removed : (n : ℕ) (xs : List HashedIndex) (b : ℕ) → LaidBut b n xs → times removed xs ≡ 0 → Laid n xs
laid_none_removed n xs b laid none =
    laid_here
    n
    xs
    b
    laid
    (λ gone empty.
    let some : b < length xs → 0 < times removed xs = λ l. times_there removed xs b empty_cell l gone in
    ⊎_elim
    (λ (l : b < length xs). let s = some l in omega arith)
    (λ (l : length xs ≤ b). both_ways (removed (cell_at xs b)) (ap removed (get_or_past xs b empty_cell l)) gone)
    (cases_lt b (length xs)))

-- the removed cells from some place back to b, j of them, have been emptied
abbrev pub Swept : ℕ → ℕ → ℕ → List HashedIndex → List HashedIndex → Type 0
Swept n b j xs ys = LaidBut b n ys × Same (probed n ys) (probed n xs) × (j + times removed ys ≤ n)

module _ (n : ℕ) (xs : List HashedIndex) where
  pub swept_begins : (b : ℕ) → LaidBut b n xs → Swept n b 0 xs xs
  swept_begins b laid = (laid, (λ q. refl), omega (arith, times_le_length removed xs, laid.0))

  module _ (b j : ℕ) (ys : List HashedIndex) (swept : Swept n b j xs ys) where
    pub swept_more : (a : ℕ) (zs : List HashedIndex) → b < n → removed (cell_at ys b) ≡ true → vacant (met n ys b 1) ≡ true → a < n → spot n a 1 ≡ b
        → zs ≡ set ys b empty_cell → Swept n a (j + 1) xs zs
    swept_more a zs lt-b gone next lt-a is-a put =
        let c = empty_cell in
        let len = swept.0.0 in
        let kept = pairs_kept n ys b c len lt-b (removed_not_held (cell_at ys b) gone) refl in
        let less = fewer_removed n ys b c len lt-b gone refl in
        subst
        (λ l. Swept n a (j + 1) xs l)
        (sym put)
        (laid_emptied n ys b c len lt-b swept.0 refl refl next a lt-a is-a, (λ q. kept q ∙ swept.1 q), omega (arith, swept.2))

    pub swept_stops : (removed (cell_at ys b) ≡ true → vacant (met n ys b 1) ≡ true → ⊥) → Tidied n xs ys
    swept_stops good = (laid_here n ys b swept.0 good, swept.1)

    pub swept_ends : n ≤ j → Tidied n xs ys
    swept_ends l = (laid_none_removed n ys b swept.0 (omega (arith, swept.2)), swept.1)

-- a table of empty cells
module _ (n : ℕ) where
  abbrev blank : List HashedIndex
  blank = replicate n empty_cell

  length_blank : length blank ≡ n
  length_blank = length-replicate n empty_cell

  blank_at : (i : ℕ) → cell_at blank i ≡ empty_cell
  blank_at i =
      ⊎_elim
      (λ (l : i < n). get_or-replicate n i empty_cell empty_cell l)
      (λ (l : n ≤ i). get_or_past blank i empty_cell (omega (arith, length_blank)))
      (cases_lt i n)

  no_pairs : length (probed n blank) ≡ 0
  no_pairs =
      length_probed n blank length_blank
      ∙ times_none (holding (λ _. true)) blank empty_cell (λ i l. ap (holding (λ _. true)) (blank_at i))

  pairs_blank : probed n (replicate n empty_cell) ≡ []
  pairs_blank = nil_from_length (probed n blank) no_pairs

  sound_blank : Sound n (replicate n empty_cell) 0
  sound_blank = (
    (
      length_blank,
      (λ h j k le lt empty ans. both_ways (answers h (met n blank (h % n) k)) (ap (answers h) (blank_at (spot n (h % n) k))) ans),
      λ i lt _ gone empty. both_ways (removed (cell_at blank i)) (ap removed (blank_at i)) gone,
    ),
    sym no_pairs,
    omega arith,
  )

-- a memory that was filled
pub filled : (n m : ℕ) (xs : List HashedIndex) → m ≡ n → xs ≡ replicate n empty_cell → Sound m xs 0 × (probed m xs ≡ [])
filled n m xs e is =
    let same : xs ≡ replicate m empty_cell = is ∙ ap (λ k. replicate k empty_cell) (sym e) in
    (subst (λ l. Sound m l 0) (sym same) (sound_blank m), ap (probed m) same ∙ pairs_blank m)

-- other slots change nothing else
pub laid_moved : (places : List ℕ) (n : ℕ) (xs : List HashedIndex) → Laid n xs → Laid n (map (cell_moved places) xs)
laid_moved places n xs (len, reached, tidy) =
    let f = cell_moved places in
    let there : (i : ℕ) → i < n → cell_at (map f xs) i ≡ f (cell_at xs i) = λ i l. get_or-map f xs i empty_cell empty_cell (omega arith) in (
      length-map xs f ∙ len,
      (λ h j k le lt empty ans.
          let at : (a : ℕ) → a < n → met n (map f xs) (h % n) a ≡ f (met n xs (h % n) a) =
          λ a l. there (spot n (h % n) a) (spot_lt n (h % n) a (mod-lt h (omega arith)) l)
          in
          reached h j k le lt (sym (ap vacant (at j (omega arith))) ∙ empty) (sym (ap (answers h) (at k lt)) ∙ ans)),
      λ i lt u gone empty.
          ⊎_elim
          (λ (l : 1 < n). tidy i lt u (sym (ap removed (there i lt)) ∙ gone) (sym (ap vacant (there (spot n i 1) (spot_lt n i 1 lt l))) ∙ empty))
          (λ (l : n ≤ 1).
          let one_place : spot n i 1 ≡ i = spot_alone n i lt l in
          both_ways
          (vacant (cell_at (map f xs) i))
          (removed_not_vacant (cell_at (map f xs) i) gone)
          (ap (λ z. vacant (cell_at (map f xs) z)) (sym one_place) ∙ empty))
          (cases_lt 1 n),
    )
