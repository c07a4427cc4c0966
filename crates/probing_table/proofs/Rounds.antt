-- Places in a ring of n, and the cells in the order of a probe.
use Rattle.std.proofs.Common.{◌≡◌, ℕ, ◌+◌, ◌-◌, ◌<◌, ◌≤◌, Bool, ltb, ◌⊎◌, List, length, get_or, take, drop, sym, ap, ◌∙◌, inl, inr, ⊎_elim, arith}
use Rattle.std.proofs.lemmas.List.{take-append-drop, length-append, length-take, length-drop, get_or_append_left, get_or-append_right, get_or-drop, get_or-take}
use Rattle.std.proofs.lemmas.Bool.{cases_lt, lt-ltb, le-ltb, cond-true, cond-false}
use Rattle.hash_table.specs.declared.index.HashedIndex.{HashedIndex}
use Rattle.base.specs.Counting.{times}
use Rattle.hash_table.specs.Cells.{cell_at, empty_cell}
use Rattle.probing_table.specs.Probed.{spot, met, rotated}
use Rattle.probing_table.proofs.Counting.{times_append}

cases_spot : (n p j : ℕ) → ((p + j < n) × (spot n p j ≡ p + j)) ⊎ ((n ≤ p + j) × (spot n p j ≡ p + j - n))
cases_spot n p j =
    ⊎_elim
    (λ (l : p + j < n). inl (l, cond-true (ltb (p + j) n) (p + j) (p + j - n) (lt-ltb (p + j) n l)))
    (λ (l : n ≤ p + j). inr (l, cond-false (ltb (p + j) n) (p + j) (p + j - n) (le-ltb (p + j) n l)))
    (cases_lt (p + j) n)

pub spot_lt : (n p j : ℕ) → p < n → j < n → spot n p j < n
spot_lt n p j lp lj = elim (cases_spot n p j) [ inl a ↦ omega arith | inr a ↦ omega arith ]

-- a probe from p meets a place once
pub spot_same : (n p j k : ℕ) → p < n → j < n → k < n → spot n p j ≡ spot n p k → j ≡ k
spot_same n p j k lp lj lk e =
    elim
    (cases_spot n p j) [
      | inl a ↦ (elim (cases_spot n p k) [ inl b ↦ omega arith | inr b ↦ omega arith ])
      | inr a ↦ (elim (cases_spot n p k) [ inl b ↦ omega arith | inr b ↦ omega arith ])
    ]

-- two places have no next one in common
pub spot_back : (n a b : ℕ) → a < n → b < n → spot n a 1 ≡ spot n b 1 → a ≡ b
spot_back n a b la lb e =
    elim
    (cases_spot n a 1) [
      | inl s ↦ (elim (cases_spot n b 1) [ inl t ↦ omega arith | inr t ↦ omega arith ])
      | inr s ↦ (elim (cases_spot n b 1) [ inl t ↦ omega arith | inr t ↦ omega arith ])
    ]

-- one place alone is its own next one
pub spot_alone : (n i : ℕ) → i < n → n ≤ 1 → spot n i 1 ≡ i
spot_alone n i lt l = elim (cases_spot n i 1) [ inl a ↦ omega arith | inr a ↦ omega arith ]

pub spot_next : (n p j : ℕ) → p < n → j + 1 < n → spot n p (j + 1) ≡ spot n (spot n p j) 1
spot_next n p j lp lj = by (spot n p j) (cases_spot n p j)
  where
    by : (q : ℕ) → ((p + j < n) × (q ≡ p + j)) ⊎ ((n ≤ p + j) × (q ≡ p + j - n)) → spot n p (j + 1) ≡ spot n q 1
    by q (inl a) =
        elim
        (cases_spot n p (j + 1)) [
          | inl b ↦ (elim (cases_spot n q 1) [ inl e ↦ omega arith | inr e ↦ omega arith ])
          | inr b ↦ (elim (cases_spot n q 1) [ inl e ↦ omega arith | inr e ↦ omega arith ])
        ]
    by q (inr a) =
        elim
        (cases_spot n p (j + 1)) [
          | inl b ↦ (elim (cases_spot n q 1) [ inl e ↦ omega arith | inr e ↦ omega arith ])
          | inr b ↦ (elim (cases_spot n q 1) [ inl e ↦ omega arith | inr e ↦ omega arith ])
        ]

module _ (n : ℕ) (xs : List HashedIndex) (p : ℕ) (len : length xs ≡ n) where
  pub length_rotated : p ≤ n → length (rotated xs p) ≡ n
  length_rotated l = simp (length-append, length-drop, length-take) (omega arith)

  pub met_rotated : (j : ℕ) → p < n → j < n → get_or (rotated xs p) j empty_cell ≡ met n xs p j
  met_rotated j lp lj =
      let d = empty_cell in
      let m : length (drop p xs) ≡ n - p = length-drop p xs ∙ ap (λ k. k - p) len in
      elim
      (cases_spot n p j) [
        | inl a ↦
            get_or_append_left (drop p xs) (take p xs) d j (omega arith)
            ∙ get_or-drop p xs j d
            ∙ ap (cell_at xs) (sym a.1)
        | inr a ↦
            get_or-append_right (drop p xs) (take p xs) (n - p) j d m (omega arith)
            ∙ get_or-take p xs (j - (n - p)) d (omega arith)
            ∙ ap (cell_at xs) (let e : j - (n - p) ≡ spot n p j = omega arith in e)
      ]

pub times_rotated : (q : HashedIndex → Bool) (xs : List HashedIndex) (p : ℕ) → times q (rotated xs p) ≡ times q xs
times_rotated q xs p =
    let a = times_append q (drop p xs) (take p xs) in
    let b = times_append q (take p xs) (drop p xs) in
    let s = ap (times q) (take-append-drop p xs) in
    omega arith
