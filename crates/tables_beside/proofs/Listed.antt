-- What a table answers, by where a pair stands first and by whether there is one that has no new place.
use Rattle.std.proofs.Common.{◌≡◌, ◌≤◌, ℕ, suc, ◌+◌, Bool, true, false, cond, eqb, ltb, ◌||◌, List, [], ◌∷◌, ◌++◌, map, take, drop, length, Some, None, position, refl, sym, ap, ◌∙◌, arith}
use Rattle.std.proofs.lemmas.List.{length-map, drop_all, take_all, append-nil}
use Rattle.std.specs.List.{position_or_len, list_any}
use Rattle.std.specs.Option.{ok_or}
use Rattle.std.specs.Prelude.{not}
use Rattle.std.proofs.lemmas.Bool.Decides.{nat_tests}
use Rattle.base.specs.Counting.{one, times}
use Rattle.hash_table.specs.Pairs.{is_pair, removing, homeless, moved, remapping}
use Rattle.memory.specs.Refusals.{code}
use Rattle.memory.specs.declared.StorageRefusal.TheVariants.{NoSuchPair}

count_here : (t n : ℕ) → eqb (1 + t) 0 ≡ not (ltb 0 (suc n))
count_here t n = grind (arith, nat_tests)

count_past : (t p n : ℕ) → eqb t 0 ≡ not (ltb p n) → eqb (0 + t) 0 ≡ not (ltb (1 + p) (suc n))
count_past t p n e = grind (arith, nat_tests)

-- nothing is counted exactly where the first place is past the list
first_counted : {X : Type 0} (q : X → Bool) (xs : List X) → eqb (times q xs) 0 ≡ not (ltb (position_or_len q xs) (length xs))
first_counted q [] = refl
first_counted q (x ∷ xs) =
    elim (q x) as (λ b. eqb (one b + times q xs) 0 ≡ not (ltb (cond (not b) (1 + position_or_len q xs) 0) (suc (length xs)))) [
      | true ↦ count_here (times q xs) (length xs)
      | false ↦ count_past (times q xs) (position_or_len q xs) (length xs) (first_counted q xs)
    ]

answered : (none some : Bool) (p : ℕ) → none ≡ not some → cond none 10 0 ≡ code (ok_or (cond some (Some p) None) NoSuchPair)
answered none true p e = ap (λ b. cond b 10 0) e
answered none false p e = ap (λ b. cond b 10 0) e

pub removing_by_place : (ps : List (ℕ × ℕ)) (h s : ℕ) → removing ps h s ≡ code (ok_or (position (is_pair h s) ps) NoSuchPair)
removing_by_place ps h s = answered _ _ (position_or_len (is_pair h s) ps) (first_counted (is_pair h s) ps)

-- nothing is counted exactly where nothing passes
none_counted : {X : Type 0} (q : X → Bool) (xs : List X) → eqb (times q xs) 0 ≡ not (list_any q xs)
none_counted q [] = refl
none_counted q (x ∷ xs) =
    elim (q x) as (λ b. eqb (one b + times q xs) 0 ≡ not (b || list_any q xs)) [
      | true ↦ grind (arith)
      | false ↦ grind (arith, none_counted q xs)
    ]

remapped : {A : Type 0} (none some : Bool) (x y : A) → none ≡ not some → cond none x y ≡ cond some y x
remapped none true x y e = ap (λ b. cond b x y) e
remapped none false x y e = ap (λ b. cond b x y) e

pub remapping_by_any : (places : List ℕ) (ps : List (ℕ × ℕ)) → remapping places ps ≡ cond (list_any (homeless places) ps) (11, ps) (0, map (moved places) ps)
remapping_by_any places ps = remapped _ _ _ _ (none_counted (homeless places) ps)

-- the list is moved where it stands: what is written back is all of it
module _ (places : List ℕ) (ps qs : List (ℕ × ℕ)) (n : ℕ) where
  pub remapping_in_place : qs ≡ map (moved places) ps → length ps ≤ n → false ≡ list_any (homeless places) ps → ◌≡◌ {A = ℕ × List (ℕ × ℕ)} (0, take n (qs ++ drop (length qs) ps)) (remapping places ps)
  remapping_in_place e l f =
      let s : length qs ≡ length ps = ap length e ∙ length-map ps (moved places) in
      let d : drop (length qs) ps ≡ [] = drop_all (length qs) ps (omega arith) in
      ap (λ r. (0, take n (qs ++ r))) d
      ∙ ap (λ r. (0, take n r)) (append-nil qs)
      ∙ ap (λ r. (0, r)) (take_all n qs (omega arith) ∙ e)
      ∙ ap (λ b. cond b (11, ps) (0, map (moved places) ps)) f
      ∙ sym (remapping_by_any places ps)
