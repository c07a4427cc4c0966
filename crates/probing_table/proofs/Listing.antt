-- The pairs of a table's cells: how often each stands, those of one hash, and those with other slots.
use Rattle.std.proofs.Common.{◌≡◌, ℕ, zero, suc, ◌+◌, ◌%◌, ◌<◌, ◌≤◌, Bool, true, false, cond, ◌&&◌, eqb, ltb, ◌⊎◌, List, [], ◌∷◌, ◌++◌, map, length, take, drop, sym, refl, ap, ◌∙◌, inl, inr, ⊎_elim, mod-lt, arith}
use Rattle.std.proofs.lemmas.List.{nil_from_length, length-append, length-take, length-drop, append-nil, map-append, drop-map, take-map}
use Rattle.std.proofs.lemmas.Bool.{cases_lt, cases_eq, lt-ltb, le-ltb, eqb-true, eq-eqb, ne_eqb}
use Rattle.hash_table.specs.Cells.{pair_of, held, holding, cell_moved}
use Rattle.hash_table.specs.Pairs.{slots_of, moved, is_pair}
use Rattle.hash_table.specs.declared.index.HashedIndex.{HashedIndex}
use Rattle.base.specs.Counting.{one, times}
use Rattle.base.proofs.Counts.{times_all}
use Rattle.probing_table.specs.Marks.{answers}
use Rattle.probing_table.specs.Probed.{rotated, kept, at_home, homes, probed}
use Rattle.probing_table.proofs.Counting.{times_append, times_split, times_like, times_le_length}
use Rattle.probing_table.proofs.Rounds.{times_rotated}

-- how often
times_cond : (q : ℕ × ℕ → Bool) (b : Bool) (p : ℕ × ℕ) (ps : List (ℕ × ℕ)) → times q (cond b (p ∷ ps) ps) ≡ one (b && q p) + times q ps
times_cond q true p ps = refl
times_cond q false p ps = omega arith

times_kept : (q : ℕ × ℕ → Bool) (t : HashedIndex → Bool) (cs : List HashedIndex) → times q (kept t cs) ≡ times (λ c. t c && q (pair_of c)) cs
times_kept q t [] = refl
times_kept q t (c ∷ cs) = let a = times_cond q (t c) (pair_of c) (kept t cs) in let r = times_kept q t cs in omega arith

-- the cell holds a pair that passes, of one of the first m homes
abbrev within : ℕ → ℕ → (ℕ × ℕ → Bool) → HashedIndex → Bool
within n m q c = (held c && ltb (c.hash % n) m) && q (pair_of c)

one_more : (b r : Bool) (a m : ℕ) → one ((b && ltb a (suc m)) && r) ≡ one ((b && ltb a m) && r) + one ((b && eqb a m) && r)
one_more false r a m = refl
one_more true r a m =
    ⊎_elim
    (λ (l : a < m). by (ltb a (suc m)) (ltb a m) (eqb a m) (lt-ltb a (suc m) (omega arith)) (inl (lt-ltb a m l, ne_eqb a m (λ e. omega arith))))
    (λ (l : m ≤ a).
    ⊎_elim
    (λ (e : a ≡ m). by (ltb a (suc m)) (ltb a m) (eqb a m) (lt-ltb a (suc m) (omega arith)) (inr (le-ltb a m l, eq-eqb a m e)))
    (λ (e : a ≡ m → ⊥). none (ltb a (suc m)) (ltb a m) (eqb a m) (le-ltb a (suc m) (omega arith)) (le-ltb a m l) (ne_eqb a m e))
    (cases_eq a m))
    (cases_lt a m)
  where
    by : (u s t : Bool) → u ≡ true → ((s ≡ true) × (t ≡ false)) ⊎ ((s ≡ false) × (t ≡ true)) → one (u && r) ≡ one (s && r) + one (t && r)
    by u s t e (inl w) =
        ap (λ b. one (b && r)) e ∙ let x : one (s && r) ≡ one r = ap (λ b. one (b && r)) w.0 in let y : one (t && r) ≡ 0 = ap (λ b. one (b && r)) w.1 in omega arith
    by u s t e (inr w) =
        ap (λ b. one (b && r)) e ∙ let x : one (s && r) ≡ 0 = ap (λ b. one (b && r)) w.0 in let y : one (t && r) ≡ one r = ap (λ b. one (b && r)) w.1 in omega arith

    none : (u s t : Bool) → u ≡ false → s ≡ false → t ≡ false → one (u && r) ≡ one (s && r) + one (t && r)
    none u s t e f g =
        ap (λ b. one (b && r)) e ∙ let x : one (s && r) ≡ 0 = ap (λ b. one (b && r)) f in let y : one (t && r) ≡ 0 = ap (λ b. one (b && r)) g in omega arith

and_false : (b r : Bool) → ((b && false) && r) ≡ false
and_false true r = refl
and_false false r = refl

and_true : (b r : Bool) → ((b && true) && r) ≡ (b && r)
and_true true r = refl
and_true false r = refl

times_homes : (q : ℕ × ℕ → Bool) (n : ℕ) (xs : List HashedIndex) (m : ℕ) → times q (homes n xs m) ≡ times (within n m q) xs
times_homes q n xs zero =
    sym
    (times_like
    (within n 0 q)
    (λ _. false)
    (λ c. ap (λ b. (held c && b) && q (pair_of c)) (le-ltb (c.hash % n) 0 (omega arith)) ∙ and_false (held c) (q (pair_of c)))
    xs
    ∙ never xs)
  where
    never : (ys : List HashedIndex) → times (λ _. false) ys ≡ 0
    never [] = refl
    never (y ∷ ys) = omega (arith, never ys)
times_homes q n xs (suc m) =
    let home : HashedIndex → Bool = λ c. at_home n m c && q (pair_of c) in
    let a = times_append q (homes n xs m) (kept (at_home n m) (rotated xs m)) in
    let r = times_homes q n xs m in
    let k : times q (kept (at_home n m) (rotated xs m)) ≡ times home xs = times_kept q (at_home n m) (rotated xs m) ∙ times_rotated home xs m in
    let s = times_split (within n (suc m) q) (within n m q) home (λ c. one_more (held c) (q (pair_of c)) (c.hash % n) m) xs in
    omega arith

module _ (n : ℕ) (xs : List HashedIndex) (len : length xs ≡ n) where
  -- a pair stands in the table as often as in its cells
  pub times_probed : (q : ℕ × ℕ → Bool) → times q (probed n xs) ≡ times (holding q) xs
  times_probed q = times_homes q n xs n ∙ ⊎_elim many none (cases_lt 0 n)
    where
      many : 0 < n → times (within n n q) xs ≡ times (holding q) xs
      many l =
          times_like
          (within n n q)
          (holding q)
          (λ c. ap (λ b. (held c && b) && q (pair_of c)) (lt-ltb (c.hash % n) n (mod-lt c.hash l)) ∙ and_true (held c) (q (pair_of c)))
          xs

      none : n ≤ 0 → times (within n n q) xs ≡ times (holding q) xs
      none l =
          let a = times_le_length (within n n q) xs in
          let b = times_le_length (holding q) xs in
          omega arith

  pub length_probed : length (probed n xs) ≡ times (holding (λ _. true)) xs
  length_probed = sym (times_all (probed n xs)) ∙ times_probed (λ _. true)

-- those of one hash
pub slots_cond : (h : ℕ) (b : Bool) (p : ℕ × ℕ) (ps : List (ℕ × ℕ))
    → slots_of h (cond b (p ∷ ps) ps) ≡ cond (b && eqb p.0 h) (p.1 ∷ slots_of h ps) (slots_of h ps)
slots_cond h true p ps = refl
slots_cond h false p ps = refl

-- two tests that agree on the cells of the hash keep the same slots
slots_like : (h : ℕ) (t u : HashedIndex → Bool) → ((c : HashedIndex) → (t c && eqb c.hash h) ≡ (u c && eqb c.hash h)) → (cs : List HashedIndex)
    → slots_of h (kept t cs) ≡ slots_of h (kept u cs)
slots_like h t u e [] = refl
slots_like h t u e (c ∷ cs) =
    slots_cond h (t c) (pair_of c) (kept t cs)
    ∙ ap (λ b. cond b (c.slot ∷ slots_of h (kept t cs)) (slots_of h (kept t cs))) (e c)
    ∙ ap (λ l. cond (u c && eqb c.hash h) (c.slot ∷ l) l) (slots_like h t u e cs)
    ∙ sym (slots_cond h (u c) (pair_of c) (kept u cs))

slots_never : (h : ℕ) (cs : List HashedIndex) → slots_of h (kept (λ _. false) cs) ≡ []
slots_never h [] = refl
slots_never h (c ∷ cs) = slots_never h cs

cond_append : (b : Bool) (x : ℕ) (l m : List ℕ) → cond b (x ∷ l) l ++ m ≡ cond b (x ∷ l ++ m) (l ++ m)
cond_append true x l m = refl
cond_append false x l m = refl

slots_append : (h : ℕ) (ps qs : List (ℕ × ℕ)) → slots_of h (ps ++ qs) ≡ slots_of h ps ++ slots_of h qs
slots_append h [] qs = refl
slots_append h (p ∷ ps) qs =
    ap (λ l. cond (eqb p.0 h) (p.1 ∷ l) l) (slots_append h ps qs)
    ∙ sym (cond_append (eqb p.0 h) p.1 (slots_of h ps) (slots_of h qs))

home_yes : (a b e : Bool) → (b ≡ true → e ≡ true) → ((a && e) && b) ≡ ((a && b) && b)
home_yes true true e f = ap (λ z. z && true) (f refl)
home_yes true false true f = refl
home_yes true false false f = refl
home_yes false b e f = refl

home_other : (a b e : Bool) → (b ≡ true → e ≡ false) → ((a && e) && b) ≡ false
home_other true true e f = ap (λ z. z && true) (f refl)
home_other true false true f = refl
home_other true false false f = refl
home_other false b e f = refl

module _ (n : ℕ) (xs : List HashedIndex) (h : ℕ) where
  slots_home : slots_of h (kept (at_home n (h % n)) (rotated xs (h % n))) ≡ slots_of h (kept (answers h) (rotated xs (h % n)))
  slots_home =
      slots_like
      h
      (at_home n (h % n))
      (answers h)
      (λ c. home_yes (held c) (eqb c.hash h) (eqb (c.hash % n) (h % n)) (λ e. eq-eqb (c.hash % n) (h % n) (ap (λ x. x % n) (eqb-true c.hash h e))))
      (rotated xs (h % n))

  slots_other : (p : ℕ) → (p ≡ h % n → ⊥) → slots_of h (kept (at_home n p) (rotated xs p)) ≡ []
  slots_other p ne =
      slots_like
      h
      (at_home n p)
      (λ _. false)
      (λ c. home_other (held c) (eqb c.hash h) (eqb (c.hash % n) p) (λ e. ne_eqb (c.hash % n) p (λ z. ne (sym z ∙ ap (λ x. x % n) (eqb-true c.hash h e)))))
      (rotated xs p)
      ∙ slots_never h (rotated xs p)

  slots_homes_none : (m : ℕ) → m ≤ h % n → slots_of h (homes n xs m) ≡ []
  slots_homes_none zero l = refl
  slots_homes_none (suc m) l =
      slots_append h (homes n xs m) (kept (at_home n m) (rotated xs m))
      ∙ ap (λ s. s ++ slots_of h (kept (at_home n m) (rotated xs m))) (slots_homes_none m (omega arith))
      ∙ slots_other m (λ e. omega arith)

  slots_homes : (m : ℕ) → h % n < m → slots_of h (homes n xs m) ≡ slots_of h (kept (answers h) (rotated xs (h % n)))
  slots_homes zero l = absurd (omega arith)
  slots_homes (suc m) l =
      slots_append h (homes n xs m) (kept (at_home n m) (rotated xs m))
      ∙ ⊎_elim
      (λ (e : m ≡ h % n).
      ap (λ s. s ++ slots_of h (kept (at_home n m) (rotated xs m))) (slots_homes_none m (omega arith))
      ∙ ap (λ p. slots_of h (kept (at_home n p) (rotated xs p))) e
      ∙ slots_home)
      (λ (e : m ≡ h % n → ⊥).
      ap (λ s. slots_of h (homes n xs m) ++ s) (slots_other m e)
      ∙ append-nil (slots_of h (homes n xs m))
      ∙ slots_homes m (omega arith))
      (cases_eq m (h % n))

-- the slots of a hash are those that a probe from its home p meets
pub slots_probed : (n : ℕ) (xs : List HashedIndex) (h p : ℕ) → length xs ≡ n → (0 < n → p ≡ h % n)
    → slots_of h (kept (answers h) (rotated xs p)) ≡ slots_of h (probed n xs)
slots_probed n xs h p len is_p = ⊎_elim many none (cases_lt 0 n)
  where
    many : 0 < n → slots_of h (kept (answers h) (rotated xs p)) ≡ slots_of h (probed n xs)
    many l = ap (λ q. slots_of h (kept (answers h) (rotated xs q))) (is_p l) ∙ sym (slots_homes n xs h n (mod-lt h l))

    none : n ≤ 0 → slots_of h (kept (answers h) (rotated xs p)) ≡ slots_of h (probed n xs)
    none l =
        let z : n ≡ 0 = omega arith in
        let short : length (rotated xs p) ≡ 0 = simp (length-append, length-drop, length-take) (omega arith) in
        ap (λ cs. slots_of h (kept (answers h) cs)) (nil_from_length (rotated xs p) short) ∙ sym (ap (λ m. slots_of h (homes n xs m)) z)

-- the pairs of a hash and a slot are counted by the slots of the hash
pub times_slots : (h s : ℕ) (ps : List (ℕ × ℕ)) → times (is_pair h s) ps ≡ times (λ v. eqb v s) (slots_of h ps)
times_slots h s [] = refl
times_slots h s (p ∷ ps) = by (eqb p.0 h) (times_slots h s ps)
  where
    by : (b : Bool) → times (is_pair h s) ps ≡ times (λ v. eqb v s) (slots_of h ps)
        → one (b && eqb p.1 s) + times (is_pair h s) ps ≡ times (λ v. eqb v s) (cond b (p.1 ∷ slots_of h ps) (slots_of h ps))
    by true r = omega arith
    by false r = omega arith

-- those with other slots
module _ (places : List ℕ) where
  cond_moved : (b : Bool) (p : ℕ × ℕ) (ps : List (ℕ × ℕ)) → cond b (moved places p ∷ map (moved places) ps) (map (moved places) ps) ≡ map (moved places) (cond b (p ∷ ps) ps)
  cond_moved true p ps = refl
  cond_moved false p ps = refl

  kept_moved : (n p : ℕ) (cs : List HashedIndex) → kept (at_home n p) (map (cell_moved places) cs) ≡ map (moved places) (kept (at_home n p) cs)
  kept_moved n p [] = refl
  kept_moved n p (c ∷ cs) =
      ap (λ l. cond (at_home n p c) (moved places (pair_of c) ∷ l) l) (kept_moved n p cs)
      ∙ cond_moved (at_home n p c) (pair_of c) (kept (at_home n p) cs)

  rotated_moved : (xs : List HashedIndex) (p : ℕ) → rotated (map (cell_moved places) xs) p ≡ map (cell_moved places) (rotated xs p)
  rotated_moved xs p =
      let f = cell_moved places in
      ap (λ l. l ++ take p (map f xs)) (drop-map f p xs)
      ∙ ap (λ l. map f (drop p xs) ++ l) (take-map f p xs)
      ∙ sym (map-append f (drop p xs) (take p xs))

  homes_moved : (n : ℕ) (xs : List HashedIndex) (m : ℕ) → homes n (map (cell_moved places) xs) m ≡ map (moved places) (homes n xs m)
  homes_moved n xs zero = refl
  homes_moved n xs (suc m) =
      ap (λ l. l ++ kept (at_home n m) (rotated (map (cell_moved places) xs) m)) (homes_moved n xs m)
      ∙ ap (λ l. map (moved places) (homes n xs m) ++ kept (at_home n m) l) (rotated_moved xs m)
      ∙ ap (λ l. map (moved places) (homes n xs m) ++ l) (kept_moved n m (rotated xs m))
      ∙ sym (map-append (moved places) (homes n xs m) (kept (at_home n m) (rotated xs m)))

  pub probed_moved : (n : ℕ) (xs : List HashedIndex) → probed n (map (cell_moved places) xs) ≡ map (moved places) (probed n xs)
  probed_moved n xs = homes_moved n xs n
