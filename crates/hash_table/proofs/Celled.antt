-- The pairs of a memory's cells, after the memory's calls.
use Rattle.std.proofs.Common.{◌≡◌, ℕ, suc, ◌+◌, ◌<◌, Bool, true, false, eqb, List, [], ◌∷◌, map, length, get_or, take, set, Result, not, ◌&&◌, sym, refl, ap, ◌∙◌, subst, arith, Some, None, Option, MatchOption, MatchResult, ◌≤◌}
use Rattle.std.proofs.lemmas.List.{length-map, get_or_default, get_or-map, map_push, map-set, take-map}
use Rattle.std.proofs.lemmas.Bool.{eqb-true, ne_eqb, and_parts}
use Rattle.std.proofs.lemmas.List.Folds.{list_all-map}
use Rattle.std.proofs.lemmas.List.FromFn.{fill_by_all}
use Rattle.std.proofs.lemmas.Result.{MatchResult-weaker}
use Rattle.std.specs.List.{list_all, range_with_len}
use Rattle.std.specs.Option.{option_map}
use Rattle.memory.specs.declared.StorageRefusal.{StorageRefusal}
use Rattle.memory.specs.Refusals.{code}
use Rattle.memory.specs.Stored.{pushing}
use Rattle.memory.proofs.Storing.{push_cases}
use Rattle.base.specs.Counting.{one, times, Same}
use Rattle.base.proofs.Counts.{same_push, same_swap_out}
use Rattle.hash_table.specs.Cells.{pair_of, pairs_of, Stands, empty_cell, cell_at}
use Rattle.hash_table.specs.Pairs.{is_pair}
use Rattle.hash_table.specs.declared.index.HashedIndex.{HashedIndex}

length_pairs : (xs : List HashedIndex) → length (pairs_of xs) ≡ length xs
length_pairs xs = length-map xs pair_of

pub pair_same : (x : HashedIndex) (h s : ℕ) → x.hash ≡ h → x.slot ≡ s → pair_of x ≡ (h, s)
pair_same x h s e f = cc

pair_at : (xs : List HashedIndex) (i : ℕ) (x : HashedIndex) (d : ℕ × ℕ) → i < length xs → x ≡ get_or xs i x → get_or (pairs_of xs) i d ≡ pair_of x
pair_at xs i x d l e = get_or-map pair_of xs i x d l ∙ ap pair_of (sym e)

none_counted : {X : Type 0} (q : X → Bool) (xs : List X) → list_all (λ x. not (q x)) xs ≡ eqb (times q xs) 0
none_counted q [] = refl
none_counted q (x ∷ xs) = by (q x) (none_counted q xs)
  where
    by : (b : Bool) → list_all (λ x. not (q x)) xs ≡ eqb (times q xs) 0 → (not b && list_all (λ x. not (q x)) xs) ≡ eqb (one b + times q xs) 0
    by true r = sym (ne_eqb (1 + times q xs) 0 (λ e. omega arith))
    by false r = r ∙ ap (λ n. eqb n 0) (omega arith)

-- the cells that are read at the first n places, of a memory that has n
cells_read : (xs : List HashedIndex) (n : ℕ) → n ≡ length xs → map (cell_at xs) (range_with_len 0 n) ≡ xs
cells_read xs n e = sym (fill_by_all (cell_at xs) xs n empty_cell (sym e) (λ k l. refl))

pub none_of_cells : (q : HashedIndex → Bool) (xs : List HashedIndex) (n : ℕ) → n ≡ length xs → list_all (λ i. not (q (cell_at xs i))) (range_with_len 0 n) ≡ eqb (times q xs) 0
none_of_cells q xs n e =
    sym (list_all-map (λ x. not (q x)) (cell_at xs) (range_with_len 0 n))
    ∙ ap (list_all (λ x. not (q x))) (cells_read xs n e)
    ∙ none_counted q xs

none_at : (h s : ℕ) (xs : List HashedIndex) → ((i : ℕ) → i < length xs → is_pair h s (pair_of (cell_at xs i)) ≡ false) → times (is_pair h s) (pairs_of xs) ≡ 0
none_at h s [] e = refl
none_at h s (x ∷ xs) e =
    let r = none_at h s xs (λ i l. e (suc i) (omega arith)) in
    let a = ap one (e 0 (omega arith)) in
    omega arith

-- the first place that has the pair, or none has it
pub place_found : (h s : ℕ) (xs : List HashedIndex) (n : ℕ) (r : Option ℕ) → n ≡ length xs
    → MatchOption r ((k : ℕ) → 0 ≤ k → k < n → is_pair h s (pair_of (cell_at xs k)) ≡ false) (λ i. (0 ≤ i) × (i < n) × (is_pair h s (pair_of (cell_at xs i)) ≡ true) × ((k : ℕ) → 0 ≤ k → k < i → is_pair h s (pair_of (cell_at xs k)) ≡ false))
    → MatchOption r (times (is_pair h s) (pairs_of xs) ≡ 0) (Stands xs h s)
place_found h s xs n None e none = none_at h s xs (λ i l. none i (omega arith) (omega arith))
place_found h s xs n (Some i) e first =
    let x = cell_at xs i in
    let b = and_parts (eqb x.hash h) (eqb x.slot s) first.2 in (
      omega (arith, first.1),
      pair_at xs i x (0, 0) (omega (arith, first.1)) (get_or_default xs i empty_cell x (omega (arith, first.1))) ∙ pair_same x h s (eqb-true x.hash h b.0) (eqb-true x.slot s b.1),
    )

-- a cell is pushed
pub push_pairs : {U : Type 0} (r : Result U StorageRefusal) (room : ℕ) (xs ys : List HashedIndex) (x : HashedIndex) → ◌≡◌ {A = ℕ × List HashedIndex} (code r, ys) (pushing room xs x)
    → MatchResult r (λ _. Same (pairs_of ys) (pair_of x ∷ pairs_of xs)) (λ _. pairs_of ys ≡ pairs_of xs)
push_pairs r room xs ys x e =
    MatchResult-weaker
    r
    (push_cases r room xs ys x e)
    (λ _ p q. ap (times q) (ap pairs_of p.1 ∙ map_push pair_of xs x) ∙ same_push (pairs_of xs) (pair_of x) q)
    (λ _ p. ap pairs_of p.1)

-- the last cell goes to the place of the pair p, and the memory ends one earlier
pub swap_out_pairs : (xs ys zs : List HashedIndex) (i m : ℕ) (last : HashedIndex) (p : ℕ × ℕ) → i < length xs → length xs ≡ m + 1
    → get_or (pairs_of xs) i (0, 0) ≡ p → last ≡ get_or xs m last → ys ≡ set xs i last → zs ≡ take m ys → Same (pairs_of xs) (p ∷ pairs_of zs)
swap_out_pairs xs ys zs i m last p l n at_i is_last put cut =
    let ps = pairs_of xs in
    let at_m : get_or ps m (0, 0) ≡ pair_of last = pair_at xs m last (0, 0) (omega arith) is_last in
    let left : pairs_of zs ≡ take m (set ps i (get_or ps m (0, 0))) =
    ap pairs_of (cut ∙ ap (take m) put)
    ∙ sym (take-map pair_of m (set xs i last))
    ∙ ap (take m) (map-set pair_of xs i last ∙ ap (λ z. set ps i z) (sym at_m))
    in
    subst
    (λ qs. Same ps qs)
    (ap (λ z. z ∷ take m (set ps i (get_or ps m (0, 0)))) at_i ∙ ap (λ qs. p ∷ qs) (sym left))
    (same_swap_out ps i m (0, 0) (omega arith) (length_pairs xs ∙ n))

pub nth_told : {X : Type 0} (r : Option X) {s : Option X} → option_map (λ x. x) r ≡ s → r ≡ s
nth_told None e = e
nth_told (Some x) e = e
