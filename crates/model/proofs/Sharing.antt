-- What two searches tell: the records that share a key with another, and the one that has both keys.
use Rattle.std.proofs.Common.{◌≡◌, ◌<◌, ◌≤◌, Bool, true, false, cond, eqb, ltb, List, [], ◌∷◌, length, Some, None, Option, sym, refl, ap, ◌∙◌, subst, arith}
use Rattle.std.proofs.lemmas.Bool.{and_from, and_parts, or_left, or_right, eqb-true, eqb-false, ltb-true, ltb-false}
use Rattle.base.specs.Counting.{one}
use Rattle.item_set.specs.declared.slot.ItemSlot.{ItemSlot}
use Rattle.item_set.specs.declared.slot.ItemSlot.TheVariants.{Occupied}
use Rattle.item_set.specs.Slots.{at, tally, shown}
use Rattle.item_set.proofs.Tally.{tally_mono, tally_some}
use Rattle.model.specs.declared.Found.{Found}
use Rattle.model.specs.Model.{either, both, find}
use Rattle.model.specs.Told.{in_order}
use Rattle.model.proofs.Finding.{Hit, nowhere, place, hits, find_is, find_none, shown_none, shown_sole, shown_pair, tally_either, tally_only}

module _ {R : Type 0} where
  -- what the answer of a search tells of the slots
  abbrev pub Tells : (R → Bool) → List (ItemSlot R) → Option (Found R) → Type 0
  Tells p xs None = tally p xs ≡ 0
  Tells p xs (Some f) = (f.slot < length xs) × (at xs f.slot ≡ Occupied f.item) × (p f.item ≡ true)

  tells_by : (p : R → Bool) (xs : List (ItemSlot R)) (o : Option (Found R)) → Hit p 0 xs o → Tells p xs o
  tells_by p xs None (nowhere z) = z
  tells_by p xs (Some g) (place i f e l a h) = let q : f.slot ≡ i = omega arith in (omega arith, ap (at xs) q ∙ a, h)

  pub tells : (p : R → Bool) (xs : List (ItemSlot R)) (o : Option (Found R)) → o ≡ find p 0 xs → Tells p xs o
  tells p xs o e = tells_by p xs o (subst (Hit p 0 xs) (sym e) (hits p 0 xs))

  module _ (p q : R → Bool) (xs : List (ItemSlot R)) (few-p : tally p xs ≤ 1) (few-q : tally q xs ≤ 1) where
    abbrev few_both : tally (both p q) xs ≤ 1
    few_both = omega (arith, tally_mono (both p q) p (λ x e. (and_parts (p x) (q x) e).0) xs)

    -- the records that pass either test
    shares_none : Tells p xs None → Tells q xs None → [] ≡ shown (either p q) xs
    shares_none a b = sym (shown_none (either p q) xs (omega (arith, tally_either p q xs)))

    shares_first : (f : Found R) → Tells p xs (Some f) → Tells q xs None → f.item ∷ [] ≡ shown (either p q) xs
    shares_first f a b = sym (shown_sole (either p q) xs f.slot f.item a.0 a.1 (or_left (p f.item) (q f.item) a.2) (omega (arith, tally_either p q xs)))

    shares_second : (f : Found R) → Tells p xs None → Tells q xs (Some f) → f.item ∷ [] ≡ shown (either p q) xs
    shares_second f a b = sym (shown_sole (either p q) xs f.slot f.item b.0 b.1 (or_right (p f.item) (q f.item) b.2) (omega (arith, tally_either p q xs)))

    same_item : (f g : Found R) → f.slot ≡ g.slot → at xs f.slot ≡ Occupied f.item → at xs g.slot ≡ Occupied g.item → g.item ≡ f.item
    same_item f g e a b = let c : at xs f.slot ≡ Occupied g.item = ap (at xs) e ∙ b in cc

    shares_same : (f g : Found R) → f.slot ≡ g.slot → Tells p xs (Some f) → Tells q xs (Some g) → f.item ∷ [] ≡ shown (either p q) xs
    shares_same f g e a b =
        let h : q f.item ≡ true = sym (ap q (same_item f g e a.1 b.1)) ∙ b.2 in
        let two = tally_some (both p q) xs f.slot f.item a.0 a.1 (and_from (p f.item) (q f.item) a.2 h) in
        sym (shown_sole (either p q) xs f.slot f.item a.0 a.1 (or_left (p f.item) (q f.item) a.2) (omega (arith, tally_either p q xs)))

    shares_two : (f g : Found R) → f.slot < g.slot → Tells p xs (Some f) → Tells q xs (Some g) → f.item ∷ g.item ∷ [] ≡ shown (either p q) xs
    shares_two f g l a b =
        sym (shown_pair (either p q) xs f.slot g.slot f.item g.item l b.0 a.1 b.1 (or_left (p f.item) (q f.item) a.2) (or_right (p g.item) (q g.item) b.2) (omega (arith, tally_either p q xs)))

    shares_two_back : (f g : Found R) → g.slot < f.slot → Tells p xs (Some f) → Tells q xs (Some g) → g.item ∷ f.item ∷ [] ≡ shown (either p q) xs
    shares_two_back f g l a b =
        sym (shown_pair (either p q) xs g.slot f.slot g.item f.item l a.0 b.1 a.1 (or_right (p g.item) (q g.item) b.2) (or_left (p f.item) (q f.item) a.2) (omega (arith, tally_either p q xs)))

    pub shares_in_order : (o u : Option (Found R)) → o ≡ find p 0 xs → u ≡ find q 0 xs → in_order o u ≡ shown (either p q) xs
    shares_in_order o u e f = go o u (tells p xs o e) (tells q xs u f)
      where
        both_found : (a b : Found R) (s t : Bool) → eqb a.slot b.slot ≡ s → ltb a.slot b.slot ≡ t → Tells p xs (Some a) → Tells q xs (Some b) → cond s (a.item ∷ []) (cond t (a.item ∷ b.item ∷ []) (b.item ∷ a.item ∷ [])) ≡ shown (either p q) xs
        both_found a b true t es et x y = shares_same a b (eqb-true a.slot b.slot es) x y
        both_found a b false true es et x y = shares_two a b (ltb-true a.slot b.slot et) x y
        both_found a b false false es et x y = let n = eqb-false a.slot b.slot es in let l = ltb-false a.slot b.slot et in shares_two_back a b (omega arith) x y

        go : (o u : Option (Found R)) → Tells p xs o → Tells q xs u → in_order o u ≡ shown (either p q) xs
        go None None x y = shares_none x y
        go None (Some b) x y = shares_second b x y
        go (Some a) None x y = shares_first a x y
        go (Some a) (Some b) x y = both_found a b (eqb a.slot b.slot) (ltb a.slot b.slot) refl refl x y

    -- the record that passes both tests
    pub both_none : Tells p xs None → None ≡ find (both p q) 0 xs
    both_none a = sym (find_none (both p q) xs (omega (arith, tally_mono (both p q) p (λ x e. (and_parts (p x) (q x) e).0) xs)))

    pub both_here : (f : Found R) → Tells p xs (Some f) → q f.item ≡ true → Some f ≡ find (both p q) 0 xs
    both_here f a h = sym (find_is (both p q) xs f.slot f.item a.0 a.1 (and_from (p f.item) (q f.item) a.2 h) few_both)

    pub both_other : (f : Found R) → Tells p xs (Some f) → q f.item ≡ false → None ≡ find (both p q) 0 xs
    both_other f a h =
        let z = tally_only p q xs f.slot f.item a.0 a.1 a.2 few-p in
        let o : one (q f.item) ≡ 0 = ap one h in
        sym (find_none (both p q) xs (omega arith))
