-- Counts of lists that are joined or changed at a place, and of tests that agree.
use Rattle.std.proofs.Common.{◌≡◌, ℕ, zero, suc, ◌+◌, ◌<◌, ◌≤◌, Bool, true, false, List, [], ◌∷◌, ◌++◌, length, get_or, set, sym, refl, ap, ◌∙◌, arith}
use Rattle.std.proofs.lemmas.List.Sums.{sum_by-set}
use Rattle.base.specs.Counting.{one, times, Same}
use Rattle.base.proofs.Counts.{times_sum, times_all}

one_le : (b : Bool) → one b ≤ 1
one_le true = omega arith
one_le false = omega arith

module _ {X : Type 0} where
  pub times_append : (q : X → Bool) (xs ys : List X) → times q (xs ++ ys) ≡ times q xs + times q ys
  times_append q [] ys = omega arith
  times_append q (x ∷ xs) ys = let r = times_append q xs ys in omega arith

  -- a test that is the one or the other of two
  pub times_split : (u s t : X → Bool) → ((x : X) → one (u x) ≡ one (s x) + one (t x)) → (xs : List X) → times u xs ≡ times s xs + times t xs
  times_split u s t e [] = refl
  times_split u s t e (x ∷ xs) = let r = times_split u s t e xs in let a = e x in omega arith

  pub times_like : (s t : X → Bool) → ((x : X) → s x ≡ t x) → (xs : List X) → times s xs ≡ times t xs
  times_like s t e [] = refl
  times_like s t e (x ∷ xs) = let r = times_like s t e xs in let a = ap one (e x) in omega arith

  pub times_le_length : (q : X → Bool) (xs : List X) → times q xs ≤ length xs
  times_le_length q [] = omega arith
  times_le_length q (x ∷ xs) = let r = times_le_length q xs in let a = one_le (q x) in omega arith

  pub times_none : (q : X → Bool) (xs : List X) (d : X) → ((i : ℕ) → i < length xs → q (get_or xs i d) ≡ false) → times q xs ≡ 0
  times_none q [] d e = refl
  times_none q (x ∷ xs) d e =
      let r = times_none q xs d (λ i l. e (suc i) (omega arith)) in
      let a = ap one (e 0 (omega arith)) in
      omega arith

  pub times_every : (q : X → Bool) (xs : List X) (d : X) → ((i : ℕ) → i < length xs → q (get_or xs i d) ≡ true) → times q xs ≡ length xs
  times_every q [] d e = refl
  times_every q (x ∷ xs) d e =
      let r = times_every q xs d (λ i l. e (suc i) (omega arith)) in
      let a = ap one (e 0 (omega arith)) in
      omega arith

  pub times_there : (q : X → Bool) (xs : List X) (i : ℕ) (d : X) → i < length xs → q (get_or xs i d) ≡ true → 0 < times q xs
  times_there q [] i d l e = absurd (omega arith)
  times_there q (x ∷ xs) zero d l e = let a = ap one e in omega arith
  times_there q (x ∷ xs) (suc i) d l e = let r = times_there q xs i d (omega arith) e in omega arith

  pub times_set : (q : X → Bool) (xs : List X) (i : ℕ) (y d : X) → i < length xs
      → times q (set xs i y) + one (q (get_or xs i d)) ≡ times q xs + one (q y)
  times_set q xs i y d l =
      let a = times_sum q (set xs i y) in
      let b = times_sum q xs in
      let s = sum_by-set (λ x. one (q x)) xs i y d l in
      omega arith

  pub same_length : (xs ys : List X) → Same xs ys → length xs ≡ length ys
  same_length xs ys same = sym (times_all xs) ∙ same (λ _. true) ∙ times_all ys
