-- What a search finds, and what two searches tell of the records that share a key.
use Rattle.std.proofs.Common.{◌≡◌, ℕ, zero, suc, ◌+◌, ◌<◌, ◌≤◌, Bool, true, false, cond, ◌&&◌, ◌||◌, List, [], ◌∷◌, length, set, Some, None, Option, sym, refl, ap, ◌∙◌, inl, inr, not-suc-le-zero, arith}
use Rattle.std.proofs.lemmas.List.{get_or-set_other, length-set}
use Rattle.std.proofs.lemmas.Bool.{cases_eq, cond-true, cond-false, and_parts}
use Rattle.base.specs.Counting.{sentinel, one}
use Rattle.item_set.specs.declared.slot.ItemSlot.{ItemSlot}
use Rattle.item_set.specs.declared.slot.ItemSlot.TheVariants.{Occupied, Vacant}
use Rattle.item_set.specs.Slots.{at, weigh, tally, shown}
use Rattle.item_set.proofs.Tally.{tally_set, tally_some, tally_mono}
use Rattle.model.specs.declared.Found.{Found}
use Rattle.model.specs.Model.{either, both, find}

one_zero : (t : Bool) → one t ≡ 0 → t ≡ false
one_zero true e = absurd (omega arith)
one_zero false e = refl

one_either : (a b : Bool) → one (a || b) + one (a && b) ≡ one a + one b
one_either true true = refl
one_either true false = refl
one_either false true = refl
one_either false false = refl

module _ {R : Type 0} where
  weigh_either : (p q : R → Bool) (s : ItemSlot R) → weigh (either p q) s + weigh (both p q) s ≡ weigh p s + weigh q s
  weigh_either p q (Occupied r) = one_either (p r) (q r)
  weigh_either p q (Vacant n) = refl

  pub tally_either : (p q : R → Bool) (xs : List (ItemSlot R)) → tally (either p q) xs + tally (both p q) xs ≡ tally p xs + tally q xs
  tally_either p q [] = refl
  tally_either p q (x ∷ xs) = omega (arith, weigh_either p q x, tally_either p q xs)

  -- a test that one standing record passes passes no other
  pub tally_only : (m q : R → Bool) (xs : List (ItemSlot R)) (i : ℕ) (r : R) → i < length xs → at xs i ≡ Occupied r → m r ≡ true → tally m xs ≤ 1 → tally (both m q) xs ≡ one (q r)
  tally_only m q xs i r l a h few =
      let w : weigh m (at xs i) ≡ 1 = ap (weigh m) a ∙ ap one h in
      let v : weigh (both m q) (at xs i) ≡ one (q r) = ap (weigh (both m q)) a ∙ ap (λ (t : Bool). one (t && q r)) h in
      omega (arith, tally_set m xs i (Vacant 0) l, tally_set (both m q) xs i (Vacant 0) l, tally_mono (both m q) m (λ x e. (and_parts (m x) (q x) e).0) (set xs i (Vacant 0)))

  -- what a search finds
  pub data Hit (p : R → Bool) (n : ℕ) (xs : List (ItemSlot R)) : Option (Found R) → Type 0 where
    nowhere : tally p xs ≡ 0 → Hit p n xs None
    place : (i : ℕ) (f : Found R) → f.slot ≡ n + i → i < length xs → at xs i ≡ Occupied f.item → p f.item ≡ true → Hit p n xs (Some f)

  hit_on : (p : R → Bool) (n : ℕ) (x : ItemSlot R) (xs : List (ItemSlot R)) (o : Option (Found R)) → weigh p x ≡ 0 → Hit p (suc n) xs o → Hit p n (x ∷ xs) o
  hit_on p n x xs None z (nowhere e) = nowhere (omega arith)
  hit_on p n x xs (Some f) z (place i g e l a h) = place (suc i) f (omega arith) (omega arith) a h

  hit_here : (p : R → Bool) (n : ℕ) (r : R) (xs : List (ItemSlot R)) (a : Bool) → p r ≡ a → Hit p (suc n) xs (find p (suc n) xs) → Hit p n (Occupied r ∷ xs) (cond a (Some (record { slot = n; item = r })) (find p (suc n) xs))
  hit_here p n r xs true e f = place 0 (record { slot = n; item = r }) (omega arith) (omega arith) refl e
  hit_here p n r xs false e f = hit_on p n (Occupied r) xs (find p (suc n) xs) (ap one e) f

  pub hits : (p : R → Bool) (n : ℕ) (xs : List (ItemSlot R)) → Hit p n xs (find p n xs)
  hits p n [] = nowhere refl
  hits p n (Occupied r ∷ xs) = hit_here p n r xs (p r) refl (hits p (suc n) xs)
  hits p n (Vacant m ∷ xs) = hit_on p n (Vacant m) xs (find p (suc n) xs) refl (hits p (suc n) xs)

  -- a test that at most one standing record passes has one slot
  sole_slot : (m : R → Bool) (xs : List (ItemSlot R)) (i j : ℕ) (r s : R) → i < length xs → j < length xs → at xs i ≡ Occupied r → at xs j ≡ Occupied s → m r ≡ true → m s ≡ true → tally m xs ≤ 1 → i ≡ j
  sole_slot m xs i j r s li lj ai aj mr ms few =
      elim (cases_eq j i) [
        | inl e ↦ sym e
        | inr e ↦
            let w : weigh m (at xs i) ≡ 1 = ap (weigh m) ai ∙ ap one mr in
            let a : at (set xs i (Vacant 0)) j ≡ Occupied s = get_or-set_other xs i j (Vacant 0) (Vacant sentinel) e ∙ aj in
            absurd (omega (arith, tally_set m xs i (Vacant 0) li, tally_some m (set xs i (Vacant 0)) j s (simp length-set lj) a ms))
      ]

  same_record : (x : ItemSlot R) (r s : R) → x ≡ Occupied r → x ≡ Occupied s → r ≡ s
  same_record x r s e f = cc

  found_same : (f : Found R) (i : ℕ) (r : R) → f.slot ≡ i → f.item ≡ r → f ≡ record { slot = i; item = r }
  found_same f i r e g = ap (λ (s : ℕ). record { slot = s; item = f.item }) e ∙ ap (λ (x : R). record { slot = i; item = x }) g

  find_by : (m : R → Bool) (xs : List (ItemSlot R)) (i : ℕ) (r : R) (o : Option (Found R)) → i < length xs → at xs i ≡ Occupied r → m r ≡ true → tally m xs ≤ 1 → Hit m 0 xs o → o ≡ Some (record { slot = i; item = r })
  find_by m xs i r None l a h few (nowhere z) = absurd (omega (arith, tally_some m xs i r l a h))
  find_by m xs i r (Some t) l a h few (place j f e lj aj hj) =
      let ji : j ≡ i = sole_slot m xs j i f.item r lj l aj a hj h few in
      let si : f.slot ≡ i = omega arith in
      ap Some (found_same f i r si (same_record (at xs j) f.item r aj (ap (at xs) ji ∙ a)))

  -- the slot that was found is the one that the model finds
  pub find_is : (m : R → Bool) (xs : List (ItemSlot R)) (i : ℕ) (r : R) → i < length xs → at xs i ≡ Occupied r → m r ≡ true → tally m xs ≤ 1 → find m 0 xs ≡ Some (record { slot = i; item = r })
  find_is m xs i r l a h few = find_by m xs i r (find m 0 xs) l a h few (hits m 0 xs)

  none_by : (m : R → Bool) (xs : List (ItemSlot R)) (o : Option (Found R)) → tally m xs ≡ 0 → Hit m 0 xs o → o ≡ None
  none_by m xs None z (nowhere z') = refl
  none_by m xs (Some t) z (place j f e lj aj hj) = absurd (omega (arith, tally_some m xs j f.item lj aj hj))

  pub find_none : (m : R → Bool) (xs : List (ItemSlot R)) → tally m xs ≡ 0 → find m 0 xs ≡ None
  find_none m xs z = none_by m xs (find m 0 xs) z (hits m 0 xs)

  -- the records that pass, by ascending slot
  shown_no : (m : R → Bool) (a : R) (xs : List (ItemSlot R)) (rs : List R) → m a ≡ false → shown m xs ≡ rs → shown m (Occupied a ∷ xs) ≡ rs
  shown_no m a xs rs e f = cond-false (m a) (a ∷ shown m xs) (shown m xs) e ∙ f

  shown_yes : (m : R → Bool) (a r : R) (xs : List (ItemSlot R)) (rs : List R) → a ≡ r → m r ≡ true → shown m xs ≡ rs → shown m (Occupied a ∷ xs) ≡ r ∷ rs
  shown_yes m a r xs rs e h f = cond-true (m a) (a ∷ shown m xs) (shown m xs) (ap m e ∙ h) ∙ cc

  pub shown_none : (m : R → Bool) (xs : List (ItemSlot R)) → tally m xs ≡ 0 → shown m xs ≡ []
  shown_none m [] z = refl
  shown_none m (Occupied a ∷ xs) z = shown_no m a xs [] (one_zero (m a) (omega arith)) (shown_none m xs (omega arith))
  shown_none m (Vacant n ∷ xs) z = shown_none m xs (omega arith)

  pub shown_sole : (m : R → Bool) (xs : List (ItemSlot R)) (i : ℕ) (r : R) → i < length xs → at xs i ≡ Occupied r → m r ≡ true → tally m xs ≤ 1 → shown m xs ≡ r ∷ []
  shown_sole m [] i r l a h few = absurd (not-suc-le-zero l)
  shown_sole m (Occupied b ∷ xs) zero r l a h few =
      let br : b ≡ r = cc in
      let w : one (m b) ≡ 1 = ap one (ap m br ∙ h) in
      shown_yes m b r xs [] br h (shown_none m xs (omega arith))
  shown_sole m (Vacant n ∷ xs) zero r l a h few = let z : ◌≡◌ {A = ℕ} 0 1 = cc in absurd (omega arith)
  shown_sole m (Occupied b ∷ xs) (suc i) r l a h few =
      let some = tally_some m xs i r (omega arith) a h in
      shown_no m b xs (r ∷ []) (one_zero (m b) (omega arith)) (shown_sole m xs i r (omega arith) a h (omega arith))
  shown_sole m (Vacant n ∷ xs) (suc i) r l a h few = shown_sole m xs i r (omega arith) a h (omega arith)

  -- two that pass, in two slots, are at least two
  tally_two : (m : R → Bool) (xs : List (ItemSlot R)) (i j : ℕ) (r s : R) → i < j → j < length xs → at xs i ≡ Occupied r → at xs j ≡ Occupied s → m r ≡ true → m s ≡ true → 2 ≤ tally m xs
  tally_two m xs i j r s ij lj ai aj mr ms =
      let li : i < length xs = omega arith in
      let w : weigh m (at xs i) ≡ 1 = ap (weigh m) ai ∙ ap one mr in
      let a : at (set xs i (Vacant 0)) j ≡ Occupied s = get_or-set_other xs i j (Vacant 0) (Vacant sentinel) (omega arith) ∙ aj in
      omega (arith, tally_set m xs i (Vacant 0) li, tally_some m (set xs i (Vacant 0)) j s (simp length-set lj) a ms)

  pub shown_pair : (m : R → Bool) (xs : List (ItemSlot R)) (i j : ℕ) (r s : R) → i < j → j < length xs → at xs i ≡ Occupied r → at xs j ≡ Occupied s → m r ≡ true → m s ≡ true → tally m xs ≤ 2 → shown m xs ≡ r ∷ s ∷ []
  shown_pair m [] i j r s ij l ai aj mr ms few = absurd (not-suc-le-zero l)
  shown_pair m (x ∷ xs) i zero r s ij l ai aj mr ms few = absurd (not-suc-le-zero ij)
  shown_pair m (Occupied b ∷ xs) zero (suc j) r s ij l ai aj mr ms few =
      let br : b ≡ r = cc in
      let w : one (m b) ≡ 1 = ap one (ap m br ∙ mr) in
      shown_yes m b r xs (s ∷ []) br mr (shown_sole m xs j s (omega arith) aj ms (omega arith))
  shown_pair m (Vacant n ∷ xs) zero (suc j) r s ij l ai aj mr ms few = let z : ◌≡◌ {A = ℕ} 0 1 = cc in absurd (omega arith)
  shown_pair m (Occupied b ∷ xs) (suc i) (suc j) r s ij l ai aj mr ms few =
      let two = tally_two m xs i j r s (omega arith) (omega arith) ai aj mr ms in
      shown_no m b xs (r ∷ s ∷ []) (one_zero (m b) (omega arith)) (shown_pair m xs i j r s (omega arith) (omega arith) ai aj mr ms (omega arith))
  shown_pair m (Vacant n ∷ xs) (suc i) (suc j) r s ij l ai aj mr ms few = shown_pair m xs i j r s (omega arith) (omega arith) ai aj mr ms (omega arith)

  length_one : (m : R → Bool) (a : Bool) (r : R) (rs : List R) → length (cond a (r ∷ rs) rs) ≡ one a + length rs
  length_one m true r rs = omega arith
  length_one m false r rs = omega arith

  -- as many are shown as pass
  pub length_shown : (m : R → Bool) (xs : List (ItemSlot R)) → length (shown m xs) ≡ tally m xs
  length_shown m [] = refl
  length_shown m (Occupied r ∷ xs) = omega (arith, length_one m (m r) r (shown m xs), length_shown m xs)
  length_shown m (Vacant n ∷ xs) = omega (arith, length_shown m xs)
