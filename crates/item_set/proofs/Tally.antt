-- How many standing records pass a test, as slots change.
use Rattle.std.proofs.Common.{◌≡◌, ℕ, zero, suc, ◌+◌, ◌<◌, ◌≤◌, Bool, true, false, List, [], ◌∷◌, ◌++◌, length, set, refl, ap, ◌∙◌, not-suc-le-zero, arith}
use Rattle.std.proofs.lemmas.Bool.{both_ways}
use Rattle.base.specs.Counting.{one}
use Rattle.item_set.specs.declared.slot.ItemSlot.{ItemSlot}
use Rattle.item_set.specs.declared.slot.ItemSlot.TheVariants.{Occupied, Vacant}
use Rattle.item_set.specs.Slots.{at, weigh, tally}

one_mono : (a b : Bool) → (a ≡ true → b ≡ true) → one a ≤ one b
one_mono true true h = omega arith
one_mono true false h = absurd (both_ways false refl (h refl))
one_mono false true h = omega arith
one_mono false false h = omega arith

module _ {R : Type 0} where
  weigh_mono : (p q : R → Bool) → ((x : R) → p x ≡ true → q x ≡ true) → (s : ItemSlot R) → weigh p s ≤ weigh q s
  weigh_mono p q h (Occupied r) = one_mono (p r) (q r) (h r)
  weigh_mono p q h (Vacant n) = omega arith

  -- what passes fewer tests is fewer
  pub tally_mono : (p q : R → Bool) → ((x : R) → p x ≡ true → q x ≡ true) → (xs : List (ItemSlot R)) → tally p xs ≤ tally q xs
  tally_mono p q h [] = omega arith
  tally_mono p q h (x ∷ xs) = omega (arith, weigh_mono p q h x, tally_mono p q h xs)

  -- one slot written, and one more at the end
  pub tally_set : (q : R → Bool) (xs : List (ItemSlot R)) (i : ℕ) (y : ItemSlot R) → i < length xs → tally q (set xs i y) + weigh q (at xs i) ≡ tally q xs + weigh q y
  tally_set q [] i y h = absurd (not-suc-le-zero h)
  tally_set q (x ∷ xs) zero y h = omega arith
  tally_set q (x ∷ xs) (suc i) y h = omega (arith, tally_set q xs i y (omega arith))

  pub tally_push : (q : R → Bool) (xs : List (ItemSlot R)) (y : ItemSlot R) → tally q (xs ++ y ∷ []) ≡ tally q xs + weigh q y
  tally_push q [] y = omega arith
  tally_push q (x ∷ xs) y = omega (arith, tally_push q xs y)

  -- a record that passes is counted
  pub tally_some : (m : R → Bool) (xs : List (ItemSlot R)) (i : ℕ) (r : R) → i < length xs → at xs i ≡ Occupied r → m r ≡ true → 1 ≤ tally m xs
  tally_some m xs i r l a h =
      let w : weigh m (at xs i) ≡ 1 = ap (weigh m) a ∙ ap one h in
      omega (arith, tally_set m xs i (Vacant 0) l)
