-- Two lists have the same elements, each as often, if they are as long and each element of the one is there as often.
use Rattle.std.proofs.Common.{◌≡◌, ◌+◌, ◌<◌, Bool, true, false, cond, not, ◌&&◌, eqb, Decides, List, [], ◌∷◌, length, count_by, refl, ap, sym, ◌∙◌, ⊎_elim, arith}
use Rattle.std.proofs.lemmas.Bool.{cases_Bool, and_parts, and_from, eq-eqb, eqb-true}
use Rattle.std.proofs.lemmas.List.Recursion.{is_count_by}
use Rattle.std.specs.List.{list_all}
use Rattle.base.proofs.Counts.{times_all}
use Rattle.base.specs.Counting.{one, times, Same}
use Rattle.traces.specs.Laws.{failing}

-- the two ways to count
pub times_count : {X : Type 0} (q : X → Bool) (xs : List X) → times q xs ≡ count_by q xs
times_count q xs =
    is_count_by (times q) q refl
    (λ x ys. elim (q x) as (λ b. one b + times q ys ≡ cond b (1 + times q ys) (times q ys)) [ true ↦ refl | false ↦ omega arith ])
    xs

module _ {X : Type 0} (same : X → X → Bool) (decides : (a b : X) → Decides (same a b) (a ≡ b)) where
  -- a list without the first of the elements that equal x
  abbrev without : X → List X → List X
  without x [] = []
  without x (y ∷ ys) = cond (same x y) ys (y ∷ without x ys)

  -- its counts, where there is such an element
  times_without : (q : X → Bool) (x : X) (ys : List X) → 0 < times (same x) ys → times q ys ≡ one (q x) + times q (without x ys)
  times_without q x [] h = absurd (omega arith)
  times_without q x (y ∷ ys) h =
      ⊎_elim
      (λ (e : same x y ≡ true).
      let here : cond (same x y) ys (y ∷ without x ys) ≡ ys = ap (λ b. cond b ys (y ∷ without x ys)) e in
      let both : one (q x) ≡ one (q y) = ap (λ z. one (q z)) ((decides x y).0 e) in
      let counts = ap (times q) here in
      omega arith)
      (λ (e : same x y ≡ false).
      let later : cond (same x y) ys (y ∷ without x ys) ≡ y ∷ without x ys = ap (λ b. cond b ys (y ∷ without x ys)) e in
      let not_here : one (same x y) ≡ 0 = ap one e in
      let rest = times_without q x ys (omega arith) in
      let counts = ap (times q) later in
      omega arith)
      (cases_Bool (same x y))

  -- each element of xs is in ys as often as in xs
  abbrev AsOften : List X → List X → Type 0
  AsOften xs ys = (z : X) → 0 < times (same z) xs → times (same z) xs ≡ times (same z) ys

  itself : (x : X) → one (same x x) ≡ 1
  itself x = ap one ((decides x x).1 refl)

  pub same_from_counts : (xs ys : List X) → length xs ≡ length ys → AsOften xs ys → Same xs ys
  same_from_counts [] [] l h q = refl
  same_from_counts [] (y ∷ ys) l h q = absurd (omega arith)
  same_from_counts (x ∷ xs) ys l h q =
      let own = itself x in
      let found : 0 < times (same x) ys = omega (arith, h x (omega arith)) in
      let every : length ys ≡ 1 + length (without x ys) =
      omega (arith, times_all ys, times_all (without x ys), times_without (λ z. true) x ys found)
      in
      let often : AsOften xs (without x ys) =
      λ z n. omega (arith, h z (omega arith), times_without (same z) x ys found)
      in
      omega (arith, same_from_counts xs (without x ys) (omega arith) often q, times_without q x ys found)

  -- a test that all pass is passed by each element
  all_at : (p : X → Bool) (xs : List X) → list_all p xs ≡ true → (z : X) → 0 < times (same z) xs → p z ≡ true
  all_at p [] a z n = absurd (omega arith)
  all_at p (x ∷ xs) a z n =
      let parts = and_parts (p x) (list_all p xs) a in
      ⊎_elim
      (λ (e : same z x ≡ true). ap p ((decides z x).0 e) ∙ parts.0)
      (λ (e : same z x ≡ false). let not_here : one (same z x) ≡ 0 = ap one e in all_at p xs parts.1 z (omega arith))
      (cases_Bool (same z x))

  all_pass : (p : X → Bool) → ((x : X) → p x ≡ true) → (xs : List X) → list_all p xs ≡ true
  all_pass p h [] = refl
  all_pass p h (x ∷ xs) = and_from (p x) (list_all p xs) (h x) (all_pass p h xs)

  abbrev pub counts_match : List X → List X → X → Bool
  counts_match xs ys x = eqb (times (same x) xs) (times (same x) ys)

  abbrev pub same_test : List X → List X → Bool
  same_test xs ys = eqb (length xs) (length ys) && list_all (counts_match xs ys) xs

  pub same_decides : (xs ys : List X) → Decides (same_test xs ys) (Same xs ys)
  same_decides xs ys = (
    λ t.
        let parts = and_parts (eqb (length xs) (length ys)) (list_all (counts_match xs ys) xs) t in
        same_from_counts xs ys (eqb-true _ _ parts.0)
        (λ z n. eqb-true _ _ (all_at (counts_match xs ys) xs parts.1 z n)),
    λ s.
        and_from (eqb (length xs) (length ys)) (list_all (counts_match xs ys) xs)
        (eq-eqb _ _ (sym (times_all xs) ∙ (s (λ z. true) ∙ times_all ys)))
        (all_pass (counts_match xs ys) (λ x. eq-eqb _ _ (s (same x))) xs),
  )

-- how many fail a test, by the law that lists them
pub count_failing : {X : Type 0} (p : X → Bool) (xs : List X) → length (failing p xs) ≡ count_by (λ x. not (p x)) xs
count_failing p xs =
    is_count_by (λ ys. length (failing p ys)) (λ x. not (p x)) refl
    (λ x ys. elim (p x) as (λ b. length (cond b (failing p ys) (x ∷ failing p ys)) ≡ cond (not b) (1 + length (failing p ys)) (length (failing p ys))) [ true ↦ refl | false ↦ omega arith ])
    xs
