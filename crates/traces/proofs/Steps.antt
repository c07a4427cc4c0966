-- Each step of the model is as its counts say.
use Rattle.std.proofs.Common.{◌≡◌, ℕ, zero, suc, ◌+◌, ◌<◌, ◌≤◌, Bool, true, false, cond, not, ◌&&◌, ◌||◌, eqb, ltb, leb, List, [], ◌∷◌, ◌++◌, length, Some, None, Option, refl, ap, ◌∙◌, inl, inr, arith}
use Rattle.std.proofs.lemmas.List.{length-set, length-drop, length-append, get_or-set_same, get_or-set_other}
use Rattle.std.proofs.lemmas.Bool.{eq-eqb, ne_eqb, eqb-false, leb-false, ltb-false, and_parts, cases_eq, cond_both, or_left}
use Rattle.base.specs.Counting.{sentinel, one, times}
use Rattle.item_set.specs.declared.slot.ItemSlot.{ItemSlot}
use Rattle.item_set.specs.declared.slot.ItemSlot.TheVariants.{Occupied, Vacant}
use Rattle.item_set.specs.Slots.{at, weigh, tally, shown, anyone}
use Rattle.item_set.specs.States.{State, standing, freed, taken}
use Rattle.item_set.specs.Chains.{Linked}
use Rattle.item_set.proofs.Tally.{tally_set, tally_some}
use Rattle.item_set.proofs.Links.{linked_freed, linked_exchanged, taking}
use Rattle.model.specs.Answers.{Answer, Step, goes, refused, placed, counted}
use Rattle.model.specs.declared.Found.{Found}
use Rattle.model.specs.Model.{either, both, find, admitting, inserting, seen, looking, freed_at, item_of, without, cleared, ousted, displacing, overwriting, exchanging, substituting, removing, judged, retained, counting, retaining}
use Rattle.model.specs.Shrinking.{ScratchStep, packing, shrinking}
use Rattle.model.proofs.Finding.{tally_only, tally_either}
use Rattle.model.proofs.Sharing.{Tells, tells}
use Rattle.model.proofs.Displacing.{count_freed}
use Rattle.item_set.proofs.Packing.{tally_closed, length_closed, length_moves}
use Rattle.traces.proofs.Tallies.{unless, tally_ext, tally_none, tally_split, tally_least, tally_anyone, times_append, times_shown}
use Rattle.traces.proofs.Totals.{TotalStep, totals, total_step, nothing, t_admit, t_insert, t_displace, t_overwrite, t_replace, t_look, t_remove, t_retain, t_shrink, t_count, Follows}

not_or : (a b c : Bool) → (not a && (not b && c)) ≡ (not (a || b) && c)
not_or true b c = refl
not_or false b c = refl

-- how many slots there are after one is taken
size_taken : (a n c : ℕ) → (a ≡ n → c ≡ n + 1) → (a < n → c ≡ n) → a ≤ n → c ≡ cond (eqb a n) (n + 1) n
size_taken a n c f g h = elim (cases_eq a n) [ inl e ↦ rw (eq-eqb a n e) (f e) | inr e ↦ rw (ne_eqb a n e) (g (omega arith)) ]

module _ {R : Type 0} where
  follows_cond : (t : Bool) (x y : Step R) (tx ty : TotalStep R) → (t ≡ true → Follows x tx) → (t ≡ false → Follows y ty) → Follows (cond t x y) (cond t tx ty)
  follows_cond true x y tx ty f g = f refl
  follows_cond false x y tx ty f g = g refl

  -- a call that leaves the state alone
  still : (b : State R) (a : Answer R) (f : (R → Bool) → ℕ) → Linked b → ((q : R → Bool) → times q a.records ≡ f q) → Follows (goes b a) (total_step (totals b) a.refusal a.count f)
  still b a f s h = record { linked = s; counts = λ q. refl; size = refl; room = refl; refusal = refl; count = refl; shows = h }

  -- what freeing the record that a test finds comes to
  record Drops (m : R → Bool) (b c : State R) (rs : List R) : Type 0 where
    linked : Linked c
    remain : (q : R → Bool) → tally q c.slots ≡ tally (both (unless m) q) b.slots
    out : (q : R → Bool) → times q rs ≡ tally (both m q) b.slots
    same_length : length c.slots ≡ length b.slots
    same_capacity : c.capacity ≡ b.capacity

  drops_at : (m : R → Bool) (b : State R) (o : Option (Found R)) → Linked b → tally m b.slots ≤ 1 → Tells m b.slots o → Drops m b (freed_at b o) (item_of o)
  drops_at m b None s few z = record {
    linked = s;
    remain = λ q. omega (arith, tally_split m q b.slots, tally_least m q b.slots);
    out = λ q. omega (arith, tally_least m q b.slots);
    same_length = refl;
    same_capacity = refl;
  }
  drops_at m b (Some f) s few t =
      let only : (q : R → Bool) → tally (both m q) b.slots ≡ one (q f.item) = λ q. tally_only m q b.slots f.slot f.item t.0 t.1 t.2 few in
      record {
        linked = linked_freed b f.slot f.item t.0 t.1 s;
        remain = λ q. omega (arith, only q, count_freed q b f t.0 t.1, tally_split m q b.slots);
        out = λ q. omega (arith, only q);
        same_length = length-set b.slots f.slot (Vacant b.head);
        same_capacity = refl;
      }

  drops : (m : R → Bool) (b : State R) → Linked b → tally m b.slots ≤ 1 → Drops m b (without m b) (item_of (find m 0 b.slots))
  drops m b s few = drops_at m b (find m 0 b.slots) s few (tells m b.slots _ refl)

  -- the one freed, and then the other
  drops_both : (m n : R → Bool) (b c d : State R) (rs ts : List R) → Drops m b c rs → Drops n c d ts → Drops (either m n) b d (rs ++ ts)
  drops_both m n b c d rs ts x y =
      let l : (q : R → Bool) → tally q d.slots ≡ tally (both (unless (either m n)) q) b.slots =
      λ q. y.remain q ∙ x.remain (both (unless n) q) ∙ tally_ext (both (unless m) (both (unless n) q)) (both (unless (either m n)) q) (λ z. not_or (m z) (n z) (q z)) b.slots in
      record {
        linked = y.linked;
        remain = l;
        out = λ q. omega (arith, times_append q rs ts, x.out q, y.out q, x.remain q, y.remain q, l q, tally_split m q b.slots, tally_split n q c.slots, tally_split (either m n) q b.slots);
        same_length = y.same_length ∙ x.same_length;
        same_capacity = y.same_capacity ∙ x.same_capacity;
      }

  drops_two : (m n : R → Bool) (b : State R) → Linked b → tally m b.slots ≤ 1 → tally n b.slots ≤ 1 → Drops (either m n) b (cleared m n b) (ousted m n b)
  drops_two m n b s fm fn =
      let x = drops m b s fm in
      let y = drops n (without m b) x.linked (omega (arith, x.remain n, tally_split m n b.slots)) in
      drops_both m n b (without m b) (cleared m n b) (item_of (find m 0 b.slots)) (item_of (find n 0 (without m b).slots)) x y

  -- insert
  follows_admit : (b : State R) (r : R) → Linked b → Follows (admitting b r) (t_admit r (totals b))
  follows_admit b r s =
      follows_cond (leb b.capacity (standing b)) _ _ _ _
      (λ e. still b (refused 2 []) nothing s (λ q. refl))
      (λ e. let t = taking b r s (λ _. leb-false b.capacity (standing b) e) in
      record { linked = t.linked; counts = t.counts; size = size_taken (standing b) (length b.slots) (length (taken b r).slots) t.at_end t.inside (omega (arith, s.whole)); room = t.same_capacity; refusal = refl; count = refl; shows = λ q. refl })

  pub follows_insert : (m n : R → Bool) (r : R) (b : State R) → Linked b → Follows (inserting m n r b) (t_insert (either m n) r (totals b))
  follows_insert m n r b s =
      follows_cond (eqb (tally (either m n) b.slots) 0) _ _ _ _
      (λ e. follows_admit b r s)
      (λ e. still b (refused 1 (r ∷ shown (either m n) b.slots)) _ s (λ q. omega (arith, times_shown (either m n) q b.slots)))

  -- overwrite
  follows_displace : (m n : R → Bool) (r : R) (b : State R) → Linked b → tally m b.slots ≤ 1 → tally n b.slots ≤ 1 → 1 ≤ tally (either m n) b.slots → Follows (displacing m n r b) (t_displace (either m n) r (totals b))
  follows_displace m n r b s fm fn some =
      let c : State R = cleared m n b in
      let x = drops_two m n b s fm fn in
      let z : standing c < length c.slots = omega (arith, s.whole, x.remain anyone, x.same_length, tally_split (either m n) anyone b.slots, tally_anyone (either m n) b.slots) in
      let t = taking c r x.linked (λ e. omega arith) in
      record {
        linked = t.linked;
        counts = λ q. omega (arith, t.counts q, x.remain q);
        size = t.inside z ∙ x.same_length;
        room = t.same_capacity ∙ x.same_capacity;
        refusal = refl;
        count = refl;
        shows = x.out;
      }

  pub follows_overwrite : (m n : R → Bool) (r : R) (b : State R) → Linked b → tally m b.slots ≤ 1 → tally n b.slots ≤ 1 → Follows (overwriting m n r b) (t_overwrite (either m n) r (totals b))
  follows_overwrite m n r b s fm fn =
      follows_cond (eqb (tally (either m n) b.slots) 0) _ _ _ _
      (λ e. follows_admit b r s)
      (λ e. let ne = eqb-false (tally (either m n) b.slots) 0 e in follows_displace m n r b s fm fn (omega arith))

  -- replace
  exchanges_at : (m n : R → Bool) (r : R) (b : State R) (o : Option (Found R)) → Linked b → tally m b.slots ≤ 1 → tally n b.slots ≤ 1 → 1 ≤ tally (both m n) b.slots → Tells (both m n) b.slots o → Follows (exchanging r b o) (t_displace (either m n) r (totals b))
  exchanges_at m n r b None s fm fn some z = absurd (omega arith)
  exchanges_at m n r b (Some f) s fm fn some t =
      let old = f.item in
      let few : tally (either m n) b.slots ≤ 1 = omega (arith, tally_either m n b.slots) in
      let has : either m n old ≡ true = or_left (m old) (n old) (and_parts (m old) (n old) t.2).0 in
      let only : (q : R → Bool) → tally (both (either m n) q) b.slots ≡ one (q old) = λ q. tally_only (either m n) q b.slots f.slot old t.0 t.1 has few in
      let w : (q : R → Bool) → weigh q (at b.slots f.slot) ≡ one (q old) = λ q. ap (weigh q) t.1 in
      record {
        linked = linked_exchanged b f.slot old r t.0 t.1 s;
        counts = λ q. omega (arith, w q, tally_set q b.slots f.slot (Occupied r) t.0, tally_split (either m n) q b.slots, only q);
        size = length-set b.slots f.slot (Occupied r);
        room = refl;
        refusal = refl;
        count = refl;
        shows = λ q. omega (arith, only q);
      }

  pub follows_replace : (m n : R → Bool) (r : R) (b : State R) → Linked b → tally m b.slots ≤ 1 → tally n b.slots ≤ 1 → Follows (substituting m n r b) (t_replace (either m n) r (totals b))
  follows_replace m n r b s fm fn =
      follows_cond (eqb (tally (either m n) b.slots) 0) _ _ _ _
      (λ e. still b (refused 3 []) nothing s (λ q. refl))
      (λ e. let ne = eqb-false (tally (either m n) b.slots) 0 e in
      cond_both (eqb (tally (both m n) b.slots) 0) _ _ (λ st. Follows st (t_displace (either m n) r (totals b)))
      (λ _. follows_displace m n r b s fm fn (omega arith))
      (λ f. let nf = eqb-false (tally (both m n) b.slots) 0 f in exchanges_at m n r b (find (both m n) 0 b.slots) s fm fn (omega arith) (tells (both m n) b.slots _ refl)))

  -- look-up and removal
  looks_at : (m : R → Bool) (b : State R) (o : Option (Found R)) → Linked b → tally m b.slots ≤ 1 → Tells m b.slots o → Follows (goes b (seen o)) (t_look m (totals b))
  looks_at m b None s few z = rw (eq-eqb (tally m b.slots) 0 z) (still b (refused 3 []) nothing s (λ q. refl))
  looks_at m b (Some f) s few t =
      let some = tally_some m b.slots f.slot f.item t.0 t.1 t.2 in
      rw (ne_eqb (tally m b.slots) 0 (omega arith)) (still b (placed f.slot (f.item ∷ [])) _ s (λ q. omega (arith, tally_only m q b.slots f.slot f.item t.0 t.1 t.2 few)))

  pub follows_look : (m : R → Bool) (b : State R) → Linked b → tally m b.slots ≤ 1 → Follows (looking m b) (t_look m (totals b))
  follows_look m b s few = looks_at m b (find m 0 b.slots) s few (tells m b.slots _ refl)

  removes_at : (m : R → Bool) (b : State R) (o : Option (Found R)) → Linked b → tally m b.slots ≤ 1 → Tells m b.slots o → Follows (goes (freed_at b o) (seen o)) (t_remove m (totals b))
  removes_at m b None s few z = rw (eq-eqb (tally m b.slots) 0 z) (still b (refused 3 []) nothing s (λ q. refl))
  removes_at m b (Some f) s few t =
      let some = tally_some m b.slots f.slot f.item t.0 t.1 t.2 in
      let x = drops_at m b (Some f) s few t in
      rw (ne_eqb (tally m b.slots) 0 (omega arith)) (record { linked = x.linked; counts = x.remain; size = x.same_length; room = x.same_capacity; refusal = refl; count = refl; shows = x.out })

  pub follows_remove : (m : R → Bool) (b : State R) → Linked b → tally m b.slots ≤ 1 → Follows (removing m b) (t_remove m (totals b))
  follows_remove m b s few = removes_at m b (find m 0 b.slots) s few (tells m b.slots _ refl)

  -- retain, after the first n slots
  record Judging (p : R → Bool) (b c : State R) (n : ℕ) : Type 0 where
    linked : Linked c
    passing : (q : R → Bool) → tally (both p q) c.slots ≡ tally (both p q) b.slots
    below : (i : ℕ) → i < n → weigh (unless p) (at c.slots i) ≡ 0
    same_length : length c.slots ≡ length b.slots
    same_capacity : c.capacity ≡ b.capacity

  keeps_on : (p : R → Bool) (b c : State R) (n : ℕ) → weigh (unless p) (at c.slots n) ≡ 0 → Judging p b c n → Judging p b c (suc n)
  keeps_on p b c n z k = record {
    linked = k.linked;
    passing = k.passing;
    same_length = k.same_length;
    same_capacity = k.same_capacity;
    below = λ i l. elim (cases_eq i n) [ inl e ↦ rw e z | inr e ↦ k.below i (omega arith) ];
  }

  keeps_free : (p : R → Bool) (b c : State R) (n : ℕ) (r : R) → n < length b.slots → at c.slots n ≡ Occupied r → p r ≡ false → Judging p b c n → Judging p b (freed c n) (suc n)
  keeps_free p b c n r l a h k =
      let lc : n < length c.slots = omega (arith, k.same_length) in
      let w : (q : R → Bool) → weigh (both p q) (at c.slots n) ≡ 0 = λ q. ap (weigh (both p q)) a ∙ ap (λ (t : Bool). one (t && q r)) h in
      record {
        linked = linked_freed c n r lc a k.linked;
        passing = λ q. omega (arith, w q, k.passing q, tally_set (both p q) c.slots n (Vacant c.head) lc);
        below = λ i li. elim (cases_eq i n) [
          | inl e ↦ rw (e, get_or-set_same c.slots n (Vacant c.head) (Vacant sentinel) lc) refl
          | inr e ↦ rw (get_or-set_other c.slots n i (Vacant c.head) (Vacant sentinel) e) (k.below i (omega arith))
        ];
        same_length = length-set c.slots n (Vacant c.head) ∙ k.same_length;
        same_capacity = k.same_capacity;
      }

  keeps_by : (p : R → Bool) (b c : State R) (n : ℕ) (r : R) (t : Bool) → n < length b.slots → at c.slots n ≡ Occupied r → p r ≡ t → Judging p b c n → Judging p b (cond t c (freed c n)) (suc n)
  keeps_by p b c n r true l a h k = keeps_on p b c n (ap (weigh (unless p)) a ∙ ap (λ (t : Bool). one (not t)) h) k
  keeps_by p b c n r false l a h k = keeps_free p b c n r l a h k

  keeps_at : (p : R → Bool) (b c : State R) (n : ℕ) (x : ItemSlot R) → n < length b.slots → at c.slots n ≡ x → Judging p b c n → Judging p b (judged p c n x) (suc n)
  keeps_at p b c n (Occupied r) l a k = keeps_by p b c n r (p r) l a refl k
  keeps_at p b c n (Vacant v) l a k = keeps_on p b c n (ap (weigh (unless p)) a) k

  keeps : (p : R → Bool) (b : State R) (n : ℕ) → n ≤ length b.slots → Linked b → Judging p b (retained p b n) n
  keeps p b zero l s = record { linked = s; passing = λ q. refl; below = λ i h. absurd (omega arith); same_length = refl; same_capacity = refl }
  keeps p b (suc n) l s = keeps_at p b (retained p b n) n (at (retained p b n).slots n) (omega arith) refl (keeps p b n (omega arith) s)

  pub follows_retain : (p : R → Bool) (b : State R) → Linked b → Follows (retaining p b) (t_retain p (totals b))
  follows_retain p b s =
      let c : State R = retained p b (length b.slots) in
      let k : Judging p b c (length b.slots) = keeps p b (length b.slots) (omega arith) s in
      let z : tally (unless p) c.slots ≡ 0 = tally_none (unless p) c.slots (λ i l. k.below i (omega (arith, k.same_length))) in
      let l : (q : R → Bool) → tally q c.slots ≡ tally (both p q) b.slots = λ q. omega (arith, tally_split p q c.slots, k.passing q, tally_least (unless p) q c.slots) in
      record { linked = k.linked; counts = l; size = k.same_length; room = k.same_capacity; refusal = refl; count = l anyone; shows = λ q. refl }

  -- shrink
  shrinks_cond : (t : Bool) (x y : ScratchStep R) (tx ty : TotalStep R) → (t ≡ true → Follows x.step tx) → (t ≡ false → Follows y.step ty) → Follows (cond t x y).step (cond t tx ty)
  shrinks_cond true x y tx ty f g = f refl
  shrinks_cond false x y tx ty f g = g refl

  follows_pack : (ws : List ℕ) (b : State R) → Linked b → Follows (packing ws b).step (total_step (record { counts = λ q. tally q b.slots; size = standing b; room = b.capacity }) 0 (standing b) nothing)
  follows_pack ws b s = record {
    linked = record {
      free = [];
      chain = refl;
      whole = omega (arith, tally_closed anyone b.slots, length_closed b.slots);
      within = omega (arith, s.whole, s.within, length_closed b.slots);
      small = s.small;
    };
    counts = λ q. tally_closed q b.slots;
    size = length_closed b.slots;
    room = refl;
    refusal = refl;
    count = refl;
    shows = λ q. refl;
  }

  pub follows_shrink : (ws : List ℕ) (b : State R) → Linked b → Follows (shrinking ws b).step (t_shrink (length ws) (totals b))
  follows_shrink ws b s =
      shrinks_cond (eqb (standing b) (length b.slots)) _ _ _ _
      (λ e. still b (counted (length b.slots)) nothing s (λ q. refl))
      (λ e. shrinks_cond (ltb (length ws) (length b.slots)) _ _ _ _
      (λ f. still b (refused 7 []) nothing s (λ q. refl))
      (λ f. follows_pack ws b s))

  -- and its scratch keeps its length
  abbrev Lasts : List ℕ → ScratchStep R → Type 0
  Lasts ws x = length x.scratch ≡ length ws

  lasts_pack : (ws : List ℕ) (b : State R) → length b.slots ≤ length ws → Lasts ws (packing ws b)
  lasts_pack ws b long = simp (length-append, length-drop) (omega (arith, length_moves 0 b.slots))

  pub lasts_shrink : (ws : List ℕ) (b : State R) → Lasts ws (shrinking ws b)
  lasts_shrink ws b =
      cond_both (eqb (standing b) (length b.slots)) _ _ (Lasts ws)
      (λ e. refl)
      (λ e. cond_both (ltb (length ws) (length b.slots)) _ _ (Lasts ws) (λ f. refl) (λ f. lasts_pack ws b (ltb-false (length ws) (length b.slots) f)))

  pub follows_count : (b : State R) → Linked b → Follows (counting b) (t_count (totals b))
  follows_count b s = still b (counted (standing b)) nothing s (λ q. refl)
