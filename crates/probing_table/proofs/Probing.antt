-- A probe from the home of a hash: the cells in its order, and what those tell that it does not read.
use Rattle.std.proofs.Common.{◌≡◌, ℕ, zero, suc, ◌+◌, ◌-◌, ◌%◌, ◌<◌, ◌≤◌, Bool, true, false, cond, ◌&&◌, not, eqb, List, [], ◌∷◌, map, length, get_or, take, Option, Some, None, slice_get, sym, refl, ap, ◌∙◌, MatchOption, subst, inl, inr, arith}
use Rattle.std.proofs.lemmas.List.{get_or_past}
use Rattle.std.proofs.lemmas.List.FromFn.{fill_by_all}
use Rattle.std.proofs.lemmas.Simd.{map-map}
use Rattle.std.proofs.lemmas.Bool.{cases_Bool, cases_lt, eqb-true, and_parts, and_from, both_ways, not-true, not-false}
use Rattle.std.specs.List.{range_with_len, prefix_len, filter, find}
use Rattle.hash_table.specs.Cells.{pair_of, held, holding, cell_at, empty_cell}
use Rattle.hash_table.specs.Pairs.{slots_of, candidate, is_pair}
use Rattle.hash_table.specs.declared.index.HashedIndex.{HashedIndex}
use Rattle.hash_table.proofs.Celled.{pair_same}
use Rattle.base.specs.Counting.{one, times}
use Rattle.base.proofs.Options.{none_some, some_same}
use Rattle.probing_table.specs.Marks.{vacant, answers}
use Rattle.probing_table.specs.Probed.{spot, met, rotated, kept, probed, Laid, Full, Free, Absent, Stands}
use Rattle.probing_table.proofs.Counting.{times_every, times_none}
use Rattle.probing_table.proofs.Rounds.{length_rotated, met_rotated, times_rotated}
use Rattle.probing_table.proofs.Listing.{times_probed, length_probed, slots_cond, slots_probed}

-- behind an empty cell none passes
abbrev Closed : (HashedIndex → Bool) → List HashedIndex → Type 0
Closed t cs = (j k : ℕ) → j ≤ k → k < length cs → vacant (get_or cs j empty_cell) ≡ true → t (get_or cs k empty_cell) ≡ true → ⊥

closed_rest : (t : HashedIndex → Bool) (c : HashedIndex) (cs : List HashedIndex) → Closed t (c ∷ cs) → Closed t cs
closed_rest t c cs w j k le lt empty pass = w (suc j) (suc k) (omega arith) (omega arith) empty pass

shut : (t : HashedIndex → Bool) (cs : List HashedIndex) → Closed t cs → vacant (get_or cs 0 empty_cell) ≡ true → (k : ℕ) → k < length cs → t (get_or cs k empty_cell) ≡ false
shut t cs w empty k l = elim (cases_Bool (t (get_or cs k empty_cell))) [ inl y ↦ absurd (w 0 k (omega arith) l empty y) | inr f ↦ f ]

filter_none : (t : HashedIndex → Bool) (cs : List HashedIndex) → ((k : ℕ) → k < length cs → t (get_or cs k empty_cell) ≡ false) → filter t cs ≡ []
filter_none t [] e = refl
filter_none t (c ∷ cs) e = ap (λ b. cond b (c ∷ filter t cs) (filter t cs)) (e 0 (omega arith)) ∙ filter_none t cs (λ k l. e (suc k) (omega arith))

one_more : (n : ℕ) → 1 + n ≡ suc n
one_more n = omega arith

-- nothing is lost to a walk that stops at the first empty cell
filter_before : (t : HashedIndex → Bool) (cs : List HashedIndex) → Closed t cs → filter t (take (prefix_len (λ c. not (vacant c)) cs) cs) ≡ filter t cs
filter_before t [] w = refl
filter_before t (c ∷ cs) w = by (vacant c) refl (filter_before t cs (closed_rest t c cs w))
  where
    by : (b : Bool) → vacant c ≡ b → filter t (take (prefix_len (λ x. not (vacant x)) cs) cs) ≡ filter t cs
        → filter t (take (cond (not b) (1 + prefix_len (λ x. not (vacant x)) cs) 0) (c ∷ cs)) ≡ filter t (c ∷ cs)
    by true e r = sym (filter_none t (c ∷ cs) (shut t (c ∷ cs) w e))
    by false e r = ap (λ m. filter t (take m (c ∷ cs))) (one_more (prefix_len (λ x. not (vacant x)) cs)) ∙ ap (λ l. cond (t c) (c ∷ l) l) r

some_not_none : (b : Bool) (j t : ℕ) (r : Option ℕ) → (r ≡ None → t ≡ 0) → cond b (Some j) r ≡ None → one b + t ≡ 0
some_not_none true j t r w e = absurd (none_some (sym e))
some_not_none false j t r w e = let z = w e in omega arith

find_before : (q : HashedIndex → Bool) (cell : ℕ → HashedIndex) (js : List ℕ) → Closed q (map cell js)
    → find (λ j. q (cell j)) (take (prefix_len (λ j. not (vacant (cell j))) js) js) ≡ None → times q (map cell js) ≡ 0
find_before q cell [] w none = refl
find_before q cell (j ∷ js) w none = by (vacant (cell j)) refl (find_before q cell js (closed_rest q (cell j) (map cell js) w)) none
  where
    by : (b : Bool) → vacant (cell j) ≡ b → (find (λ i. q (cell i)) (take (prefix_len (λ i. not (vacant (cell i))) js) js) ≡ None → times q (map cell js) ≡ 0)
        → find (λ i. q (cell i)) (take (cond (not b) (1 + prefix_len (λ i. not (vacant (cell i))) js) 0) (j ∷ js)) ≡ None → times q (map cell (j ∷ js)) ≡ 0
    by true e r f = times_none q (map cell (j ∷ js)) empty_cell (shut q (map cell (j ∷ js)) w e)
    by false e r f =
        some_not_none
        (q (cell j))
        j
        (times q (map cell js))
        _
        r
        (sym (ap (λ m. find (λ i. q (cell i)) (take m (j ∷ js))) (one_more (prefix_len (λ i. not (vacant (cell i))) js))) ∙ f)

find_passes : (q : ℕ → Bool) (js : List ℕ) (j : ℕ) → find q js ≡ Some j → q j ≡ true
find_passes q [] j e = absurd (none_some e)
find_passes q (i ∷ js) j e = by (q i) refl (find_passes q js j) e
  where
    by : (b : Bool) → q i ≡ b → (find q js ≡ Some j → q j ≡ true) → cond b (Some i) (find q js) ≡ Some j → q j ≡ true
    by true t r f = ap q (sym (some_same f)) ∙ t
    by false t r f = r f

slots_filtered : (h : ℕ) (cs : List HashedIndex) → map (λ c. c.slot) (filter (answers h) cs) ≡ slots_of h (kept (answers h) cs)
slots_filtered h [] = refl
slots_filtered h (c ∷ cs) = by (held c) (eqb c.hash h) (slots_filtered h cs) ∙ sym (slots_cond h (answers h c) (pair_of c) (kept (answers h) cs))
  where
    by : (a b : Bool) → map (λ c. c.slot) (filter (answers h) cs) ≡ slots_of h (kept (answers h) cs)
        → map (λ c. c.slot) (cond (a && b) (c ∷ filter (answers h) cs) (filter (answers h) cs)) ≡ cond ((a && b) && b) (c.slot ∷ slots_of h (kept (answers h) cs)) (slots_of h (kept (answers h) cs))
    by true true r = ap (λ l. c.slot ∷ l) r
    by true false r = r
    by false b r = r

holds_parts : (h s : ℕ) (x : HashedIndex) → holding (is_pair h s) x ≡ true → (held x ≡ true) × (answers h x ≡ true) × (pair_of x ≡ (h, s))
holds_parts h s x e =
    let a = and_parts (held x) (is_pair h s (pair_of x)) e in
    let b = and_parts (eqb x.hash h) (eqb x.slot s) a.1 in
    (a.0, and_from (held x) (eqb x.hash h) a.0 b.0, pair_same x h s (eqb-true x.hash h b.0) (eqb-true x.slot s b.1))

held_there : (xs : List HashedIndex) (i : ℕ) → held (cell_at xs i) ≡ true → i < length xs
held_there xs i e = elim (cases_lt i (length xs)) [ inl l ↦ l | inr l ↦ absurd (both_ways (held (cell_at xs i)) (ap held (get_or_past xs i empty_cell l)) e) ]

-- where each cell on the way round has a pair, all have
all_held : (n : ℕ) (xs : List HashedIndex) (p : ℕ) → length xs ≡ n → p ≤ n - 1 → ((k : ℕ) → k < n → held (met n xs p k) ≡ true) → length (probed n xs) ≡ n
all_held n xs p len low all =
    let m = length_rotated n xs p len (omega arith) in
    let pass : (c : HashedIndex) → held c ≡ true → holding (λ _. true) c ≡ true = λ c t. ap (λ b. b && true) t in
    length_probed n xs len
    ∙ sym (times_rotated (holding (λ _. true)) xs p)
    ∙ times_every
    (holding (λ _. true))
    (rotated xs p)
    empty_cell
    (λ k l. ap (holding (λ _. true)) (met_rotated n xs p len k (omega arith) (omega arith)) ∙ pass (met n xs p k) (all k (omega arith)))
    ∙ m

-- the first of the places f a, f (a + 1) and so on, up to f b, that passes
abbrev FirstOf : (ℕ → Bool) → (ℕ → ℕ) → ℕ → ℕ → Option ℕ → Type 0
FirstOf q f a b r =
    MatchOption r ((k : ℕ) → a ≤ k → k < b → q (f k) ≡ false) (λ i. (j : ℕ) × (a ≤ j) × (j < b) × (i ≡ f j) × (q i ≡ true) × ((k : ℕ) → a ≤ k → k < j → q (f k) ≡ false))

from_here : (q : ℕ → Bool) (f : ℕ → ℕ) (a b : ℕ) → q (f a) ≡ false → ((k : ℕ) → a + 1 ≤ k → k < b → q (f k) ≡ false) → (k : ℕ) → a ≤ k → k < b → q (f k) ≡ false
from_here q f a b t w k l m =
    elim (cases_lt a k) [ inl s ↦ w k (omega arith) m | inr s ↦ let z : k ≡ a = omega arith in ap (λ i. q (f i)) z ∙ t ]

first_more : (q : ℕ → Bool) (f : ℕ → ℕ) (a b : ℕ) (r : Option ℕ) → q (f a) ≡ false → FirstOf q f (a + 1) b r → FirstOf q f a b r
first_more q f a b None t none = from_here q f a b t none
first_more q f a b (Some i) t first = (first.0, omega (arith, first.1), first.2, first.3, first.4, from_here q f a first.0 t first.5)

find_first : (q : ℕ → Bool) (f : ℕ → ℕ) (a n : ℕ) (r : Option ℕ) → r ≡ find q (map f (range_with_len a n)) → FirstOf q f a (a + n) r
find_first q f a zero None e = λ k l m. absurd (omega arith)
find_first q f a zero (Some i) e = absurd (none_some (sym e))
find_first q f a (suc n) r e = by (q (f a)) refl e (find_first q f (a + 1) n r)
  where
    by : (b : Bool) → q (f a) ≡ b → r ≡ cond b (Some (f a)) (find q (map f (range_with_len (a + 1) n)))
        → (r ≡ find q (map f (range_with_len (a + 1) n)) → FirstOf q f (a + 1) ((a + 1) + n) r) → FirstOf q f a (a + suc n) r
    by true t w rest = subst (FirstOf q f a (a + suc n)) (sym w) (a, omega arith, omega arith, refl, t, λ k l m. absurd (omega arith))
    by false t w rest = first_more q f a (a + suc n) r t (subst (λ b. FirstOf q f (a + 1) b r) (omega arith) (rest w))

-- a probe for h from its home p, of m steps
module _ (n : ℕ) (xs : List HashedIndex) (h p m : ℕ) (laid : Laid n xs) (low : p ≤ m - 1) (home : 0 < m → p ≡ h % m) (all : m ≡ n) where
  is_p : 0 < n → p ≡ h % n
  is_p l = home (omega arith) ∙ ap (λ k. h % k) all

  cells_met : map (met n xs p) (range_with_len 0 m) ≡ rotated xs p
  cells_met =
      sym
      (fill_by_all (met n xs p) (rotated xs p) m empty_cell (length_rotated n xs p laid.0 (omega arith) ∙ sym all) (λ k l. met_rotated n xs p laid.0 k (omega arith) (omega arith)))

  cells_there : map (cell_at xs) (map (spot m p) (range_with_len 0 m)) ≡ rotated xs p
  cells_there =
      map-map (cell_at xs) (spot m p) (range_with_len 0 m)
      ∙ ap (λ k. map (λ j. cell_at xs (spot k p j)) (range_with_len 0 m)) all
      ∙ cells_met

  closed : (t : HashedIndex → Bool) → ((x : HashedIndex) → t x ≡ true → answers h x ≡ true) → Closed t (rotated xs p)
  closed t has j k le lt empty pass =
      let long = length_rotated n xs p laid.0 (omega arith) in
      let there : (i : ℕ) → i < n → get_or (rotated xs p) i empty_cell ≡ met n xs (h % n) i =
      λ i l. met_rotated n xs p laid.0 i (omega arith) l ∙ ap (λ q. met n xs q i) (is_p (omega arith))
      in
      laid.1 h j k le (omega arith) (sym (ap vacant (there j (omega arith))) ∙ empty) (sym (ap (answers h) (there k (omega arith))) ∙ has _ pass)

  pub candidate_met : (k : ℕ)
      → slice_get (map (λ c. c.slot) (filter (answers h) (take (prefix_len (λ c. not (vacant c)) (map (met n xs p) (range_with_len 0 m))) (map (met n xs p) (range_with_len 0 m))))) k
      ≡ candidate (probed n xs) h k
  candidate_met k =
      ap (λ cs. slice_get (map (λ c. c.slot) (filter (answers h) (take (prefix_len (λ c. not (vacant c)) cs) cs))) k) cells_met
      ∙ ap (λ cs. slice_get (map (λ c. c.slot) cs) k) (filter_before (answers h) (rotated xs p) (closed (answers h) (λ x e. e)))
      ∙ ap (λ l. slice_get l k) (slots_filtered h (rotated xs p) ∙ slots_probed n xs h p laid.0 is_p)

  pub place_met : (s : ℕ) (r : Option ℕ)
      → r
      ≡ find
      (λ i. holding (is_pair h s) (cell_at xs i))
      (take (prefix_len (λ i. not (vacant (cell_at xs i))) (map (spot m p) (range_with_len 0 m))) (map (spot m p) (range_with_len 0 m)))
      → MatchOption r (Absent n xs h s) (Stands n xs h s)
  place_met s None e =
      let q = holding (is_pair h s) in
      times_probed n xs laid.0 (is_pair h s)
      ∙ sym (times_rotated q xs p)
      ∙ sym (ap (times q) cells_there)
      ∙ find_before q (cell_at xs) (map (spot m p) (range_with_len 0 m)) (subst (Closed q) (sym cells_there) (closed q (λ x t. (holds_parts h s x t).1))) (sym e)
  place_met s (Some i) e =
      let places = map (spot m p) (range_with_len 0 m) in
      let a = holds_parts h s (cell_at xs i) (find_passes (λ k. holding (is_pair h s) (cell_at xs k)) (take (prefix_len (λ k. not (vacant (cell_at xs k))) places) places) i (sym e)) in
      (omega (arith, held_there xs i a.0, laid.0), a.0, a.2)

  free_first : (r : Option ℕ) → FirstOf (λ i. not (held (cell_at xs i))) (spot m p) 0 m r → MatchOption r (Full n xs) (Free n xs h)
  free_first None full =
      all_held
      n
      xs
      p
      laid.0
      (omega arith)
      (λ k l. ap (λ z. held (cell_at xs (spot z p k))) (sym all) ∙ not-false _ (full k (omega arith) (omega arith)))
  free_first (Some i) free =
      let home_n : p ≡ h % n = is_p (omega (arith, free.2)) in (
        free.0,
        omega (arith, free.2),
        free.3 ∙ ap (λ z. spot z p free.0) all ∙ ap (λ q. spot n q free.0) home_n,
        not-true _ free.4,
        λ k l.
            ap (λ q. held (met n xs q k)) (sym home_n)
            ∙ ap (λ z. held (cell_at xs (spot z p k))) (sym all)
            ∙ not-false _ (free.5 k (omega arith) l),
      )

  pub free_met : (r : Option ℕ) → r ≡ find (λ i. not (held (cell_at xs i))) (map (spot m p) (range_with_len 0 m)) → MatchOption r (Full n xs) (Free n xs h)
  free_met r e =
      let q = λ (i : ℕ). not (held (cell_at xs i)) in
      free_first r (subst (λ b. FirstOf q (spot m p) 0 b r) (omega arith) (find_first q (spot m p) 0 m r e))
