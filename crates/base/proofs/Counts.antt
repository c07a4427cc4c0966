-- Counts of lists that were changed: which of them have the same elements, each as often.
use Rattle.std.proofs.Common.{◌≡◌, ℕ, ◌+◌, ◌≤◌, Bool, true, List, [], ◌∷◌, ◌++◌, map, length, get_or, take, set, sum_by, sym, refl, ap, ◌∙◌, ⊎_elim, arith}
use Rattle.std.proofs.lemmas.List.{length-set, take_all, get_or-set_same, get_or-set_other}
use Rattle.std.proofs.lemmas.List.Sums.{sum_by-cons, sum_by_push, sum_by-set, sum_by_more}
use Rattle.std.proofs.lemmas.Bool.{cases_eq}
use Rattle.base.specs.Counting.{one, times, Same}

module _ {X : Type 0} (q : X → Bool) where
  -- a count is a sum, so that the lemmas on sums serve
  pub times_sum : (xs : List X) → times q xs ≡ sum_by (λ x. one (q x)) xs
  times_sum [] = refl
  times_sum (x ∷ xs) = ap (λ n. one (q x) + n) (times_sum xs) ∙ sym (sum_by-cons (λ y. one (q y)) x xs)

module _ {X : Type 0} where
  pub same_push : (xs : List X) (x : X) → Same (xs ++ x ∷ []) (x ∷ xs)
  same_push xs x q =
      let a = times_sum q (xs ++ x ∷ []) in
      let b = sum_by_push (λ y. one (q y)) xs x in
      let c = times_sum q xs in
      omega arith

  -- an element is taken out: the last one goes to its place, and the list ends one earlier
  pub same_swap_out : (xs : List X) (i m : ℕ) (d : X) → i ≤ m → length xs ≡ m + 1 → Same xs (get_or xs i d ∷ take m (set xs i (get_or xs m d)))
  same_swap_out xs i m d l n q =
      let f : X → ℕ = λ y. one (q y) in
      let last = get_or xs m d in
      let ys = set xs i last in
      let long : length ys ≡ length xs = length-set xs i last in
      let at_m : f (get_or ys m d) ≡ f last =
      ap f (⊎_elim
      (λ (e : i ≡ m). ap (λ j. get_or (set xs j last) m d) e ∙ get_or-set_same xs m last d (omega arith))
      (λ (e : i ≡ m → ⊥). get_or-set_other xs i m last d (λ z. e (sym z)))
      (cases_eq i m))
      in
      let changed : sum_by f ys + f (get_or xs i d) ≡ sum_by f xs + f last = sum_by-set f xs i last d (omega arith) in
      let shorter : sum_by f (take (m + 1) ys) ≡ sum_by f (take m ys) + f (get_or ys m d) = sum_by_more f ys m d (omega arith) in
      let all : sum_by f (take (m + 1) ys) ≡ sum_by f ys = ap (sum_by f) (take_all (m + 1) ys (omega arith)) in
      let a = times_sum q xs in
      let b = times_sum q (take m ys) in
      omega arith

  -- the test that all pass counts the length
  pub times_all : (xs : List X) → times (λ x. true) xs ≡ length xs
  times_all [] = refl
  times_all (x ∷ xs) = omega (arith, times_all xs)

-- counting what a function makes of the elements
pub times_map : {X Y : Type 0} (q : Y → Bool) (f : X → Y) (xs : List X) → times q (map f xs) ≡ times (λ x. q (f x)) xs
times_map q f [] = refl
times_map q f (x ∷ xs) = ap (λ n. one (q (f x)) + n) (times_map q f xs)
