-- The free chain, as slots are freed and taken.
use Rattle.std.proofs.Common.{◌≡◌, ℕ, suc, ◌+◌, ◌<◌, ◌≤◌, Bool, true, false, cond, eqb, List, [], ◌∷◌, length, set, refl, ap, arith}
use Rattle.std.proofs.lemmas.List.{length-set, length_push, get_or-set_same, get_or-set_other}
use Rattle.std.proofs.lemmas.Bool.{eq-eqb, ne_eqb}
use Rattle.base.specs.Counting.{sentinel, one}
use Rattle.item_set.specs.declared.slot.ItemSlot.{ItemSlot}
use Rattle.item_set.specs.declared.slot.ItemSlot.TheVariants.{Occupied, Vacant}
use Rattle.item_set.specs.Slots.{at, next, weigh, tally, anyone}
use Rattle.item_set.specs.States.{State, standing, freed, exchanged, appended, filled, taken}
use Rattle.item_set.specs.Chains.{Avoids, Chain, Linked}
use Rattle.item_set.proofs.Tally.{tally_set, tally_push}

module _ {R : Type 0} where
  pub chain_set : (xs : List (ItemSlot R)) (j : ℕ) (y : ItemSlot R) (h : ℕ) (is : List ℕ) → Avoids j is → Chain xs h is → Chain (set xs j y) h is
  chain_set xs j y h [] a c = c
  chain_set xs j y h (i ∷ is) a c =
      let e : at (set xs j y) i ≡ at xs i = get_or-set_other xs j i y (Vacant sentinel) a.0 in
      (c.0, simp length-set c.1, rw e c.2, c.3, rw e (chain_set xs j y (next (at xs i)) is a.1 c.4))

  -- a standing record's slot is not on the chain
  pub chain_avoids : (xs : List (ItemSlot R)) (j : ℕ) (r : R) (h : ℕ) (is : List ℕ) → at xs j ≡ Occupied r → Chain xs h is → Avoids j is
  chain_avoids xs j r h [] o c = tt
  chain_avoids xs j r h (i ∷ is) o c =
      ((λ e. let z : ◌≡◌ {A = ℕ} 0 1 = cc (ap (at xs) e, c.2, o) in omega arith), chain_avoids xs j r (next (at xs i)) is o c.4)

  -- freeing a standing record's slot
  pub linked_freed : (b : State R) (i : ℕ) (r : R) → i < length b.slots → at b.slots i ≡ Occupied r → Linked b → Linked (freed b i)
  linked_freed b i r l o s =
      let e : at (set b.slots i (Vacant b.head)) i ≡ Vacant b.head = get_or-set_same b.slots i (Vacant b.head) (Vacant sentinel) l in
      let w : weigh anyone (at b.slots i) ≡ 1 = ap (weigh anyone) o in
      record {
        free = i ∷ s.free;
        chain = (refl, simp length-set l, rw e refl, chain_avoids b.slots i r b.head s.free o s.chain, rw e (chain_set b.slots i (Vacant b.head) b.head s.free (chain_avoids b.slots i r b.head s.free o s.chain) s.chain));
        whole = simp length-set (omega (arith, s.whole, tally_set anyone b.slots i (Vacant b.head) l));
        within = simp length-set s.within;
        small = s.small;
      }

  -- taking a slot: what is taken is vacant, or new
  pub record Takes (b c : State R) (r : R) : Type 0 where
    pub linked : Linked c
    pub counts : (q : R → Bool) → tally q c.slots ≡ one (q r) + tally q b.slots
    pub keeps : length b.slots ≤ length c.slots
    pub at_end : standing b ≡ length b.slots → length c.slots ≡ length b.slots + 1
    pub inside : standing b < length b.slots → length c.slots ≡ length b.slots
    pub same_capacity : c.capacity ≡ b.capacity

  takes_appended : (b : State R) (r : R) → b.head ≡ sentinel → standing b ≡ length b.slots → standing b < b.capacity → Linked b → Takes b (appended b r) r
  takes_appended b r h e room s = record {
    linked = record {
      free = [];
      chain = h;
      whole = simp length_push (omega (arith, tally_push anyone b.slots (Occupied r)));
      within = simp length_push (omega arith);
      small = s.small;
    };
    counts = λ q. omega (arith, tally_push q b.slots (Occupied r));
    keeps = simp length_push (omega arith);
    at_end = λ _. length_push b.slots (Occupied r);
    inside = λ l. simp length_push (omega arith);
    same_capacity = refl;
  }

  takes_filled : (b : State R) (r : R) (i : ℕ) (is : List ℕ) → Chain b.slots b.head (i ∷ is) → suc (length is) + standing b ≡ length b.slots → Linked b → Takes b (filled b r) r
  takes_filled b r i is c w s =
      let l : b.head < length b.slots = omega arith in
      let v : at b.slots b.head ≡ Vacant (next (at b.slots b.head)) = rw c.0 c.2 in
      let z : (q : R → Bool) → weigh q (at b.slots b.head) ≡ 0 = λ q. ap (weigh q) v in
      let av : Avoids b.head is = rw c.0 c.3 in
      let ch : Chain b.slots (next (at b.slots b.head)) is = rw c.0 c.4 in
      record {
        linked = record {
          free = is;
          chain = chain_set b.slots b.head (Occupied r) (next (at b.slots b.head)) is av ch;
          whole = simp length-set (omega (arith, z anyone, tally_set anyone b.slots b.head (Occupied r) l));
          within = simp length-set s.within;
          small = s.small;
        };
        counts = λ q. omega (arith, z q, tally_set q b.slots b.head (Occupied r) l);
        keeps = simp length-set (omega arith);
        at_end = λ e. simp length-set (omega arith);
        inside = λ e. length-set b.slots b.head (Occupied r);
        same_capacity = refl;
      }

  takes_by : (b : State R) (r : R) (is : List ℕ) → Chain b.slots b.head is → length is + standing b ≡ length b.slots → (standing b ≡ length b.slots → standing b < b.capacity) → Linked b → Takes b (taken b r) r
  takes_by b r [] c w room s =
      rw (eq-eqb b.head sentinel c) (takes_appended b r c (omega arith) (room (omega arith)) s)
  takes_by b r (i ∷ is) c w room s =
      rw (ne_eqb b.head sentinel (omega (arith, s.within, s.small, c.0, c.1))) (takes_filled b r i is c w s)

  pub taking : (b : State R) (r : R) → Linked b → (standing b ≡ length b.slots → standing b < b.capacity) → Takes b (taken b r) r
  taking b r s room = takes_by b r s.free s.chain s.whole room s

  -- where the chain is at its end, no slot is vacant
  end_by : (s : State R) (is : List ℕ) → Chain s.slots s.head is → length is + standing s ≡ length s.slots → s.head ≡ sentinel → length s.slots ≤ 4096 → length s.slots ≡ standing s
  end_by s [] c w e l = omega arith
  end_by s (i ∷ is) c w e l = absurd (omega (arith, c.0, c.1))

  pub end_full : (s : State R) → Linked s → s.head ≡ sentinel → length s.slots ≡ standing s
  end_full s k e = end_by s k.free k.chain k.whole e (omega (arith, k.within, k.small))

  -- and before its end, the head is a vacant slot
  head_by : (s : State R) (is : List ℕ) → Chain s.slots s.head is → (s.head ≡ sentinel → ⊥) → (s.head < length s.slots) × (at s.slots s.head ≡ Vacant (next (at s.slots s.head)))
  head_by s [] c n = absurd (n c)
  head_by s (i ∷ is) c n = (omega (arith, c.0, c.1), rw c.0 c.2)

  pub head_vacant : (s : State R) → Linked s → (s.head ≡ sentinel → ⊥) → (s.head < length s.slots) × (at s.slots s.head ≡ Vacant (next (at s.slots s.head)))
  head_vacant s k n = head_by s k.free k.chain n

  -- a capacity stays
  pub same_capacity : (s : State R) (v : R) → (taken s v).capacity ≡ s.capacity
  same_capacity s v = go (eqb s.head sentinel)
    where
      go : (b : Bool) → (cond b (appended s v) (filled s v)).capacity ≡ s.capacity
      go true = refl
      go false = refl

  -- another record in a standing record's slot
  pub linked_exchanged : (s : State R) (i : ℕ) (r v : R) → i < length s.slots → at s.slots i ≡ Occupied r → Linked s → Linked (exchanged s i v)
  linked_exchanged s i r v l a k =
      let w : weigh anyone (at s.slots i) ≡ 1 = ap (weigh anyone) a in
      record {
        free = k.free;
        chain = chain_set s.slots i (Occupied v) s.head k.free (chain_avoids s.slots i r s.head k.free a k.chain) k.chain;
        whole = simp length-set (omega (arith, k.whole, tally_set anyone s.slots i (Occupied v) l));
        within = simp length-set k.within;
        small = k.small;
      }
