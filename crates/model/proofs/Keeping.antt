-- Steps keep a state well formed.
use Rattle.std.proofs.Common.{◌≡◌, ℕ, ◌+◌, ◌<◌, ◌≤◌, Bool, true, false, List, length, sym, refl, ap, ◌∙◌, arith}
use Rattle.std.proofs.lemmas.Bool.{or_left, or_right, both_ways}
use Rattle.base.specs.Counting.{one}
use Rattle.item.specs.Kinds.{Kind}
use Rattle.item_set.specs.declared.slot.ItemSlot.{ItemSlot}
use Rattle.item_set.specs.declared.slot.ItemSlot.TheVariants.{Occupied, Vacant}
use Rattle.item_set.specs.Slots.{at, weigh, tally}
use Rattle.item_set.specs.States.{State, standing, taken, freed, exchanged, packed}
use Rattle.item_set.proofs.Links.{taking, linked_freed, linked_exchanged}
use Rattle.item_set.proofs.Packing.{tally_closed, linked_packed}
use Rattle.item_set.proofs.Tally.{tally_mono, tally_set}
use Rattle.model.specs.Model.{has, has1, has2, shares, WellFormed}

-- a key still finds at most one slot when a record comes in whose own key found none
module _ {R K : Type 0} (key : R → K) (same : K → K → Bool)
    (symmetric : (a b : K) → same a b ≡ true → same b a ≡ true)
    (transitive : (a b c : K) → same a b ≡ true → same b c ≡ true → same a c ≡ true) where
  once_by : (xs ys : List (ItemSlot R)) (r : R) (k : K) (t : Bool) → has key same k r ≡ t → tally (has key same k) ys ≡ one t + tally (has key same k) xs → tally (has key same (key r)) xs ≡ 0 → tally (has key same k) xs ≤ 1 → tally (has key same k) ys ≤ 1
  once_by xs ys r k true e c z few =
      omega (arith, tally_mono (has key same k) (has key same (key r)) (λ x ex. transitive _ _ _ (symmetric _ _ e) ex) xs)
  once_by xs ys r k false e c z few = omega arith

  once_taken : (xs ys : List (ItemSlot R)) (r : R) → ((q : R → Bool) → tally q ys ≡ one (q r) + tally q xs) → tally (has key same (key r)) xs ≡ 0 → ((k : K) → tally (has key same k) xs ≤ 1) → (k : K) → tally (has key same k) ys ≤ 1
  once_taken xs ys r c z few k = once_by xs ys r k (has key same k r) refl (c (has key same k)) z (few k)

-- a record comes in that shares no key
module _ {R K1 K2 : Type 0} (kind : Kind R K1 K2)
    (symmetric1 : (a b : K1) → kind.same1 a b ≡ true → kind.same1 b a ≡ true)
    (transitive1 : (a b c : K1) → kind.same1 a b ≡ true → kind.same1 b c ≡ true → kind.same1 a c ≡ true)
    (symmetric2 : (a b : K2) → kind.same2 a b ≡ true → kind.same2 b a ≡ true)
    (transitive2 : (a b c : K2) → kind.same2 a b ≡ true → kind.same2 b c ≡ true → kind.same2 a c ≡ true) where
  pub well_taken : (s : State R) (r : R) → WellFormed kind s → standing s < s.capacity → tally (shares kind r) s.slots ≡ 0 → WellFormed kind (taken s r)
  well_taken s r w l z =
      let k = taking s r w.linked (λ _. l) in
      let p = has1 kind (kind.key1 r) in
      let q = has2 kind (kind.key2 r) in
      record {
        linked = k.linked;
        once1 = once_taken kind.key1 kind.same1 symmetric1 transitive1 s.slots (taken s r).slots r k.counts
            (omega (arith, tally_mono p (shares kind r) (λ x e. or_left (p x) (q x) e) s.slots)) w.once1;
        once2 = once_taken kind.key2 kind.same2 symmetric2 transitive2 s.slots (taken s r).slots r k.counts
            (omega (arith, tally_mono q (shares kind r) (λ x e. or_right (p x) (q x) e) s.slots)) w.once2;
      }

-- a slot is freed
module _ {R K1 K2 : Type 0} (kind : Kind R K1 K2) where
  pub tally_freed : (q : R → Bool) (s : State R) (i : ℕ) → i < length s.slots → tally q (freed s i).slots ≤ tally q s.slots
  tally_freed q s i l = omega (arith, tally_set q s.slots i (Vacant s.head) l)

  pub well_freed : (s : State R) (i : ℕ) (r : R) → i < length s.slots → at s.slots i ≡ Occupied r → WellFormed kind s → WellFormed kind (freed s i)
  well_freed s i r l a w = record {
    linked = linked_freed s i r l a w.linked;
    once1 = λ k. omega (arith, tally_freed (has1 kind k) s i l, w.once1 k);
    once2 = λ k. omega (arith, tally_freed (has2 kind k) s i l, w.once2 k);
  }

-- another record with equal keys is put into a slot
module _ {R K : Type 0} (key : R → K) (same : K → K → Bool)
    (symmetric : (a b : K) → same a b ≡ true → same b a ≡ true)
    (transitive : (a b c : K) → same a b ≡ true → same b c ≡ true → same a c ≡ true) where
  has_alike : (k : K) (r v : R) → same (key v) (key r) ≡ true → has key same k v ≡ has key same k r
  has_alike k r v e = go (has key same k v) (has key same k r) refl refl
    where
      go : (b c : Bool) → has key same k v ≡ b → has key same k r ≡ c → has key same k v ≡ has key same k r
      go true c eb ec = eb ∙ sym (transitive k (key v) (key r) eb e)
      go false true eb ec = absurd (both_ways (has key same k v) eb (transitive k (key r) (key v) ec (symmetric (key v) (key r) e)))
      go false false eb ec = eb ∙ sym ec

  once_exchanged : (s : State R) (i : ℕ) (r v : R) → i < length s.slots → at s.slots i ≡ Occupied r → same (key v) (key r) ≡ true → ((k : K) → tally (has key same k) s.slots ≤ 1) → (k : K) → tally (has key same k) (exchanged s i v).slots ≤ 1
  once_exchanged s i r v l a e few k =
      let w : weigh (has key same k) (at s.slots i) ≡ one (has key same k r) = ap (weigh (has key same k)) a in
      omega (arith, w, few k, tally_set (has key same k) s.slots i (Occupied v) l, ap one (has_alike k r v e))

module _ {R K1 K2 : Type 0} (kind : Kind R K1 K2)
    (symmetric1 : (a b : K1) → kind.same1 a b ≡ true → kind.same1 b a ≡ true)
    (transitive1 : (a b c : K1) → kind.same1 a b ≡ true → kind.same1 b c ≡ true → kind.same1 a c ≡ true)
    (symmetric2 : (a b : K2) → kind.same2 a b ≡ true → kind.same2 b a ≡ true)
    (transitive2 : (a b c : K2) → kind.same2 a b ≡ true → kind.same2 b c ≡ true → kind.same2 a c ≡ true) where
  pub well_exchanged : (s : State R) (i : ℕ) (r v : R) → i < length s.slots → at s.slots i ≡ Occupied r → kind.same1 (kind.key1 v) (kind.key1 r) ≡ true → kind.same2 (kind.key2 v) (kind.key2 r) ≡ true → WellFormed kind s → WellFormed kind (exchanged s i v)
  well_exchanged s i r v l a e f w = record {
    linked = linked_exchanged s i r v l a w.linked;
    once1 = once_exchanged kind.key1 kind.same1 symmetric1 transitive1 s i r v l a e w.once1;
    once2 = once_exchanged kind.key2 kind.same2 symmetric2 transitive2 s i r v l a f w.once2;
  }

-- the records move forward
pub well_packed : {R K1 K2 : Type 0} (kind : Kind R K1 K2) (s : State R) → WellFormed kind s → WellFormed kind (packed s)
well_packed kind s w = record {
  linked = linked_packed s w.linked;
  once1 = λ k. omega (arith, w.once1 k, tally_closed (has1 kind k) s.slots);
  once2 = λ k. omega (arith, w.once2 k, tally_closed (has2 kind k) s.slots);
}
