-- The step of a replace, by what the two keys found.
use Rattle.std.proofs.Common.{◌≡◌, ◌≤◌, Bool, true, false, [], ◌∷◌, Some, None, sym, refl, ap, ◌∙◌, arith}
use Rattle.std.proofs.lemmas.Bool.{eq-eqb, ne_eqb, and_from, and_parts, or_left, or_right}
use Rattle.base.specs.Counting.{one}
use Rattle.base.proofs.Options.{some_same}
use Rattle.item_set.specs.declared.slot.ItemSlot.TheVariants.{Occupied}
use Rattle.item_set.specs.Slots.{at, tally}
use Rattle.item_set.specs.States.{State, exchanged}
use Rattle.item_set.proofs.Tally.{tally_some, tally_mono}
use Rattle.model.specs.Answers.{goes, refused, placed}
use Rattle.model.specs.declared.Found.{Found}
use Rattle.model.specs.Model.{either, both, find, exchanging, overwriting, substituting}
use Rattle.model.proofs.Finding.{find_is, tally_either, tally_only}
use Rattle.model.proofs.Sharing.{Tells, tells, both_here}

-- nothing shares a key
module _ {R : Type 0} (p q : R → Bool) (r : R) (s : State R) where
  pub substituting_none : None ≡ find p 0 s.slots → None ≡ find q 0 s.slots → goes s (refused 3 []) ≡ substituting p q r s
  substituting_none a b =
      let z : tally (either p q) s.slots ≡ 0 = omega (arith, tells p s.slots None a, tells q s.slots None b, tally_either p q s.slots) in
      rw (eq-eqb (tally (either p q) s.slots) 0 z)

-- one slot has both keys
module _ {R : Type 0} (p q : R → Bool) (s : State R) (f g : Found R) (same : f.slot ≡ g.slot) (a : Some f ≡ find p 0 s.slots) (b : Some g ≡ find q 0 s.slots) where
  pub has_second : q f.item ≡ true
  has_second =
      let x = tells p s.slots (Some f) a in
      let y = tells q s.slots (Some g) b in
      let c : at s.slots f.slot ≡ Occupied g.item = ap (at s.slots) same ∙ y.1 in
      let i : g.item ≡ f.item = let d = x.1 in cc in
      sym (ap q i) ∙ y.2

  pub substituting_both : (r : R) (t : State R) → tally p s.slots ≤ 1 → tally q s.slots ≤ 1 → t ≡ exchanged s f.slot r → goes t (placed f.slot (f.item ∷ [])) ≡ substituting p q r s
  substituting_both r t few-p few-q e =
      let x = tells p s.slots (Some f) a in
      let some = tally_some (either p q) s.slots f.slot f.item x.0 x.1 (or_left (p f.item) (q f.item) x.2) in
      let two = tally_some (both p q) s.slots f.slot f.item x.0 x.1 (and_from (p f.item) (q f.item) x.2 has_second) in
      let h = both_here p q s.slots few-p few-q f x has_second in
      rw (ne_eqb (tally (either p q) s.slots) 0 (λ z. omega arith), ne_eqb (tally (both p q) s.slots) 0 (λ z. omega arith))
      (ap (λ x. goes x (placed f.slot (f.item ∷ []))) e ∙ ap (exchanging r s) h)

-- some slot has a key, and none has both
module _ {R : Type 0} (p q : R → Bool) (r : R) (s : State R) where
  other_by : (tally (either p q) s.slots ≡ 0 → ⊥) → tally (both p q) s.slots ≡ 0 → overwriting p q r s ≡ substituting p q r s
  other_by n z = rw (ne_eqb (tally (either p q) s.slots) 0 n, eq-eqb (tally (both p q) s.slots) 0 z)

  some_either : (m : R → Bool) → ((x : R) → m x ≡ true → either p q x ≡ true) → (f : Found R) → Tells m s.slots (Some f) → tally (either p q) s.slots ≡ 0 → ⊥
  some_either m h f t z = omega (arith, tally_some (either p q) s.slots f.slot f.item t.0 t.1 (h f.item t.2))

  pub substituting_second : (g : Found R) → None ≡ find p 0 s.slots → Some g ≡ find q 0 s.slots → overwriting p q r s ≡ substituting p q r s
  substituting_second g a b =
      other_by (some_either q (λ x e. or_right (p x) (q x) e) g (tells q s.slots (Some g) b))
      (omega (arith, tells p s.slots None a, tally_mono (both p q) p (λ x e. (and_parts (p x) (q x) e).0) s.slots))

  pub substituting_first : (f : Found R) → Some f ≡ find p 0 s.slots → None ≡ find q 0 s.slots → overwriting p q r s ≡ substituting p q r s
  substituting_first f a b =
      other_by (some_either p (λ x e. or_left (p x) (q x) e) f (tells p s.slots (Some f) a))
      (omega (arith, tells q s.slots None b, tally_mono (both p q) q (λ x e. (and_parts (p x) (q x) e).1) s.slots))

  no_both : (f g : Found R) → tally p s.slots ≤ 1 → tally q s.slots ≤ 1 → (f.slot ≡ g.slot → ⊥) → Tells p s.slots (Some f) → Tells q s.slots (Some g) → tally (both p q) s.slots ≡ 0
  no_both f g few-p few-q n a b = go (q f.item) refl
    where
      go : (t : Bool) → q f.item ≡ t → tally (both p q) s.slots ≡ 0
      go true e =
          let x = find_is q s.slots f.slot f.item a.0 a.1 e few-q in
          let y = find_is q s.slots g.slot g.item b.0 b.1 b.2 few-q in
          absurd (n (ap (λ h. h.slot) (some_same (sym x ∙ y))))
      go false e = tally_only p q s.slots f.slot f.item a.0 a.1 a.2 few-p ∙ ap one e

  pub substituting_two : tally p s.slots ≤ 1 → tally q s.slots ≤ 1 → (f g : Found R) → (f.slot ≡ g.slot → ⊥) → Some f ≡ find p 0 s.slots → Some g ≡ find q 0 s.slots → overwriting p q r s ≡ substituting p q r s
  substituting_two few-p few-q f g n a b =
      let x = tells p s.slots (Some f) a in
      other_by (some_either p (λ x e. or_left (p x) (q x) e) f x) (no_both f g few-p few-q n x (tells q s.slots (Some g) b))
