-- How many standing records pass a test: what two tests and a list of records make of it.
use Rattle.std.proofs.Common.{◌≡◌, ℕ, suc, ◌+◌, ◌<◌, ◌≤◌, Bool, true, false, cond, not, ◌&&◌, List, [], ◌∷◌, ◌++◌, length, refl, ap, arith}
use mathlib.Core.Path.{fun_ext}
use Rattle.std.proofs.lemmas.Bool.{and_parts}
use Rattle.base.specs.Counting.{one, times}
use Rattle.item_set.specs.declared.slot.ItemSlot.{ItemSlot}
use Rattle.item_set.specs.declared.slot.ItemSlot.TheVariants.{Occupied, Vacant}
use Rattle.item_set.specs.Slots.{at, weigh, tally, shown, anyone}
use Rattle.item_set.proofs.Tally.{tally_mono}
use Rattle.model.specs.Model.{both}
use Rattle.traces.specs.Laws.{failing}

-- a test turned round
abbrev pub unless : {R : Type 0} → (R → Bool) → R → Bool
unless q x = not (q x)

one_split : (a b : Bool) → one (a && b) + one (not a && b) ≡ one b
one_split true true = refl
one_split true false = refl
one_split false true = refl
one_split false false = refl

and_true : (a : Bool) → (a && true) ≡ a
and_true true = refl
and_true false = refl

module _ {R : Type 0} where
  -- tests that always agree
  pub tally_ext : (p q : R → Bool) → ((x : R) → p x ≡ q x) → (xs : List (ItemSlot R)) → tally p xs ≡ tally q xs
  tally_ext p q h xs = ap (λ (f : R → Bool). tally f xs) (fun_ext h)

  -- a test that never passes
  pub tally_never : (p : R → Bool) → ((x : R) → p x ≡ false) → (xs : List (ItemSlot R)) → tally p xs ≡ 0
  tally_never p h [] = refl
  tally_never p h (Occupied r ∷ xs) = omega (arith, ap one (h r), tally_never p h xs)
  tally_never p h (Vacant n ∷ xs) = omega (arith, tally_never p h xs)

  -- and one that passes in no slot
  pub tally_none : (q : R → Bool) (xs : List (ItemSlot R)) → ((i : ℕ) → i < length xs → weigh q (at xs i) ≡ 0) → tally q xs ≡ 0
  tally_none q [] h = refl
  tally_none q (x ∷ xs) h = omega (arith, h 0 (omega arith), tally_none q xs (λ i l. h (suc i) (omega arith)))

  -- those that pass one test and those that do not
  weigh_split : (p q : R → Bool) (s : ItemSlot R) → weigh (both p q) s + weigh (both (unless p) q) s ≡ weigh q s
  weigh_split p q (Occupied r) = one_split (p r) (q r)
  weigh_split p q (Vacant n) = refl

  pub tally_split : (p q : R → Bool) (xs : List (ItemSlot R)) → tally (both p q) xs + tally (both (unless p) q) xs ≡ tally q xs
  tally_split p q [] = refl
  tally_split p q (x ∷ xs) = omega (arith, weigh_split p q x, tally_split p q xs)

  pub tally_least : (m q : R → Bool) (xs : List (ItemSlot R)) → tally (both m q) xs ≤ tally m xs
  tally_least m q xs = tally_mono (both m q) m (λ x e. (and_parts (m x) (q x) e).0) xs

  pub tally_anyone : (m : R → Bool) (xs : List (ItemSlot R)) → tally (both m anyone) xs ≡ tally m xs
  tally_anyone m xs = tally_ext (both m anyone) m (λ x. and_true (m x)) xs

  -- counts of listed records
  pub times_append : (q : R → Bool) (rs ts : List R) → times q (rs ++ ts) ≡ times q rs + times q ts
  times_append q [] ts = omega arith
  times_append q (r ∷ rs) ts = omega (arith, times_append q rs ts)

  shown_one : (q : R → Bool) (a : Bool) (r : R) (rs : List R) (n : ℕ) → times q rs ≡ n → times q (cond a (r ∷ rs) rs) ≡ one (a && q r) + n
  shown_one q true r rs n e = omega arith
  shown_one q false r rs n e = omega arith

  pub times_shown : (p q : R → Bool) (xs : List (ItemSlot R)) → times q (shown p xs) ≡ tally (both p q) xs
  times_shown p q [] = refl
  times_shown p q (Occupied r ∷ xs) = shown_one q (p r) r (shown p xs) _ (times_shown p q xs)
  times_shown p q (Vacant n ∷ xs) = omega (arith, times_shown p q xs)

  -- all that stand, and those of them that a predicate refuses
  pub times_standing : (q : R → Bool) (xs : List (ItemSlot R)) → times q (shown anyone xs) ≡ tally q xs
  times_standing q xs = times_shown anyone q xs

  failing_one : (q : R → Bool) (a : Bool) (r : R) (rs : List R) (n : ℕ) → times q rs ≡ n → times q (cond a rs (r ∷ rs)) ≡ one (not a && q r) + n
  failing_one q true r rs n e = omega arith
  failing_one q false r rs n e = omega arith

  pub times_failing : (p q : R → Bool) (rs : List R) → times q (failing p rs) ≡ times (both (unless p) q) rs
  times_failing p q [] = refl
  times_failing p q (r ∷ rs) = failing_one q (p r) r (failing p rs) _ (times_failing p q rs)
