-- States from which what a search found was freed.
use Rattle.std.proofs.Common.{◌≡◌, ◌+◌, ◌<◌, ◌≤◌, Bool, cond, eqb, ◌⊎◌, [], ◌++◌, length, Some, None, Option, sym, refl, ap, ◌∙◌, inl, inr, arith}
use Rattle.std.proofs.lemmas.List.{get_or-set_other, length-set}
use Rattle.std.proofs.lemmas.Bool.{cases_eq, eq-eqb, ne_eqb, or_left, or_right}
use Rattle.base.specs.Counting.{sentinel, one}
use Rattle.item.specs.Kinds.{Kind}
use Rattle.item_set.specs.declared.slot.ItemSlot.TheVariants.{Occupied, Vacant}
use Rattle.item_set.specs.Slots.{at, weigh, tally, anyone}
use Rattle.item_set.specs.States.{State, standing, freed}
use Rattle.item_set.proofs.Tally.{tally_set, tally_mono}
use Rattle.model.specs.declared.Found.{Found}
use Rattle.model.specs.Model.{either, find, freed_at, item_of, without, cleared, ousted, WellFormed}
use Rattle.model.specs.Told.{another}
use Rattle.model.proofs.Finding.{find_is, find_none, tally_either}
use Rattle.model.proofs.Keeping.{well_freed}
use Rattle.model.proofs.Sharing.{Tells, tells}

module _ {R : Type 0} where
  -- counts after a slot that was found is freed
  pub count_freed : (q : R → Bool) (s : State R) (f : Found R) → f.slot < length s.slots → at s.slots f.slot ≡ Occupied f.item → tally q (freed s f.slot).slots + one (q f.item) ≡ tally q s.slots
  count_freed q s f l a =
      let w : weigh q (at s.slots f.slot) ≡ one (q f.item) = ap (weigh q) a in
      omega (arith, w, tally_set q s.slots f.slot (Vacant s.head) l)

  none_by : (m : R → Bool) (s : State R) (o : Option (Found R)) → Tells m s.slots o → tally m s.slots ≤ 1 → tally m (freed_at s o).slots ≡ 0
  none_by m s None t few = t
  none_by m s (Some f) t few = omega (arith, count_freed m s f t.0 t.1, ap one t.2)

  -- a test passes nothing once what it found is gone
  pub tally_without : (m : R → Bool) (s : State R) → tally m s.slots ≤ 1 → tally m (without m s).slots ≡ 0
  tally_without m s few = none_by m s (find m 0 s.slots) (tells m s.slots _ refl) few

  most_by : (m q : R → Bool) (s : State R) (o : Option (Found R)) → Tells m s.slots o → tally q (freed_at s o).slots ≤ tally q s.slots
  most_by m q s None t = omega arith
  most_by m q s (Some f) t = omega (arith, count_freed q s f t.0 t.1)

  pub tally_without_most : (m q : R → Bool) (s : State R) → tally q (without m s).slots ≤ tally q s.slots
  tally_without_most m q s = most_by m q s (find m 0 s.slots) (tells m s.slots _ refl)

  pub same_capacity : (s : State R) (o : Option (Found R)) → (freed_at s o).capacity ≡ s.capacity
  same_capacity s None = refl
  same_capacity s (Some f) = refl

  -- what the second search finds then
  another_by : (p q : R → Bool) (s : State R) (o u : Option (Found R)) → Tells p s.slots o → Tells q s.slots u → u ≡ find q 0 s.slots → tally q s.slots ≤ 1 → find q 0 (freed_at s o).slots ≡ another o u
  another_by p q s None u t v e few = sym e
  another_by p q s (Some a) None t v e few = find_none q (freed s a.slot).slots (omega (arith, count_freed q s a t.0 t.1))
  another_by p q s (Some a) (Some b) t v e few = go (cases_eq b.slot a.slot)
    where
      go : (b.slot ≡ a.slot) ⊎ (b.slot ≡ a.slot → ⊥) → find q 0 (freed s a.slot).slots ≡ cond (eqb a.slot b.slot) None (Some b)
      go (inl w) =
          let c : at s.slots a.slot ≡ Occupied b.item = sym (ap (at s.slots) w) ∙ v.1 in
          let i : b.item ≡ a.item = let d = t.1 in cc in
          let h : one (q a.item) ≡ 1 = ap one (sym (ap q i) ∙ v.2) in
          let z = find_none q (freed s a.slot).slots (omega (arith, h, count_freed q s a t.0 t.1)) in
          rw (eq-eqb a.slot b.slot (sym w)) z
      go (inr w) =
          let there : at (freed s a.slot).slots b.slot ≡ Occupied b.item = get_or-set_other s.slots a.slot b.slot (Vacant s.head) (Vacant sentinel) w ∙ v.1 in
          let z = find_is q (freed s a.slot).slots b.slot b.item (simp length-set v.0) there v.2 (omega (arith, count_freed q s a t.0 t.1)) in
          rw (ne_eqb a.slot b.slot (λ x. w (sym x))) z

  pub another_is : (p q : R → Bool) (s : State R) → tally q s.slots ≤ 1 → find q 0 (without p s).slots ≡ another (find p 0 s.slots) (find q 0 s.slots)
  another_is p q s few = another_by p q s (find p 0 s.slots) (find q 0 s.slots) (tells p s.slots _ refl) (tells q s.slots _ refl) refl few

  -- nothing shares a key once both are gone
  pub cleared_none : (p q : R → Bool) (s : State R) → tally p s.slots ≤ 1 → tally q s.slots ≤ 1 → tally (either p q) (cleared p q s).slots ≡ 0
  cleared_none p q s fp fq =
      let a = tally_without p s fp in
      let b = tally_without_most q p (without p s) in
      let c = tally_without q (without p s) (omega (arith, tally_without_most p q s)) in
      omega (arith, tally_either p q (cleared p q s).slots)

  -- a search that found something leaves room
  room_by : (m : R → Bool) (s : State R) (o : Option (Found R)) → Tells m s.slots o → 1 ≤ tally m s.slots → standing (freed_at s o) < standing s
  room_by m s None t some = absurd (omega arith)
  room_by m s (Some f) t some = omega (arith, count_freed anyone s f t.0 t.1)

  pub cleared_room : (p q : R → Bool) (s : State R) → standing s ≤ s.capacity → 1 ≤ tally (either p q) s.slots → standing (cleared p q s) < s.capacity
  cleared_room p q s most some = go (cases_eq (tally p s.slots) 0)
    where
      go : (tally p s.slots ≡ 0) ⊎ (tally p s.slots ≡ 0 → ⊥) → standing (cleared p q s) < s.capacity
      go (inr n) = omega (arith, room_by p s (find p 0 s.slots) (tells p s.slots _ refl) (omega arith), tally_without_most q anyone (without p s))
      go (inl z) =
          let same : without p s ≡ s = ap (freed_at s) (find_none p s.slots z) in
          let b : 1 ≤ tally q s.slots = omega (arith, tally_either p q s.slots) in
          let r = room_by q s (find q 0 s.slots) (tells q s.slots _ refl) b in
          let e : standing (cleared p q s) ≡ standing (without q s) = ap (λ x. standing (without q x)) same in
          omega arith

  -- where nothing shares a key, nothing is freed
  pub cleared_same : (p q : R → Bool) (s : State R) → tally (either p q) s.slots ≡ 0 → (cleared p q s ≡ s) × (ousted p q s ≡ [])
  cleared_same p q s z =
      let zp = find_none p s.slots (omega (arith, tally_mono p (either p q) (λ x e. or_left (p x) (q x) e) s.slots)) in
      let zq = find_none q s.slots (omega (arith, tally_mono q (either p q) (λ x e. or_right (p x) (q x) e) s.slots)) in
      let same : without p s ≡ s = ap (freed_at s) zp in (
        ap (without q) same ∙ ap (freed_at s) zq,
        ap (λ o. item_of o ++ item_of (find q 0 (without p s).slots)) zp ∙ ap (λ x. item_of (find q 0 x.slots)) same ∙ ap item_of zq,
      )

-- freeing what a search found keeps a state well formed
module _ {R K1 K2 : Type 0} (kind : Kind R K1 K2) where
  well_by : (m : R → Bool) (s : State R) (o : Option (Found R)) → Tells m s.slots o → WellFormed kind s → WellFormed kind (freed_at s o)
  well_by m s None t w = w
  well_by m s (Some f) t w = well_freed kind s f.slot f.item t.0 t.1 w
