-- Every request keeps a state well formed, and so does a trace.
use Rattle.std.proofs.Common.{◌≡◌, ℕ, ◌+◌, ◌≤◌, Bool, true, false, not, ◌&&◌, eqb, ltb, leb, List, [], ◌∷◌, length, refl, arith}
use Rattle.std.proofs.lemmas.Bool.{eqb-true, and_parts, and_from, cond_both, or_left, or_right}
use Rattle.base.specs.Counting.{one}
use Rattle.item.specs.Kinds.{Kind}
use Rattle.item_set.specs.Slots.{tally}
use Rattle.item_set.specs.States.{State, fresh, standing}
use Rattle.item_set.proofs.Tally.{tally_mono}
use Rattle.model.specs.Model.{Call, insert, overwrite, replace, look1, look2, look12, remove1, remove2, remove12, retain, count, both, has1, has2, shares, step, WellFormed}
use Rattle.traces.proofs.Lawful.{Lawful}
use Rattle.traces.specs.Runs.{Request, made, shrink, respond, left}
use Rattle.traces.proofs.Tallies.{unless, tally_never, tally_split, tally_least}
use Rattle.traces.proofs.Totals.{TotalStep, totals, t_admit, t_look, t_remove, t_step, t_respond, Follows}
use Rattle.traces.proofs.Steps.{follows_insert, follows_overwrite, follows_replace, follows_look, follows_remove, follows_retain, follows_shrink, follows_count}

not_and : (a : Bool) → (not a && a) ≡ false
not_and true = refl
not_and false = refl

module _ {R K1 K2 : Type 0} (kind : Kind R K1 K2) where
  few_both : (b : State R) (k : K1) (l : K2) → WellFormed kind b → tally (both (has1 kind k) (has2 kind l)) b.slots ≤ 1
  few_both b k l s = omega (arith, s.once1 k, tally_least (has1 kind k) (has2 kind l) b.slots)

  -- every step is as its counts say
  follows_step : (b : State R) (c : Call R K1 K2) → WellFormed kind b → Follows (step kind b c) (t_step kind (totals b) c)
  follows_step b (insert r) s = follows_insert (has1 kind (kind.key1 r)) (has2 kind (kind.key2 r)) r b s.linked
  follows_step b (overwrite r) s = follows_overwrite (has1 kind (kind.key1 r)) (has2 kind (kind.key2 r)) r b s.linked (s.once1 (kind.key1 r)) (s.once2 (kind.key2 r))
  follows_step b (replace r) s = follows_replace (has1 kind (kind.key1 r)) (has2 kind (kind.key2 r)) r b s.linked (s.once1 (kind.key1 r)) (s.once2 (kind.key2 r))
  follows_step b (look1 k) s = follows_look (has1 kind k) b s.linked (s.once1 k)
  follows_step b (look2 k) s = follows_look (has2 kind k) b s.linked (s.once2 k)
  follows_step b (look12 k l) s = follows_look (both (has1 kind k) (has2 kind l)) b s.linked (few_both b k l s)
  follows_step b (remove1 k) s = follows_remove (has1 kind k) b s.linked (s.once1 k)
  follows_step b (remove2 k) s = follows_remove (has2 kind k) b s.linked (s.once2 k)
  follows_step b (remove12 k l) s = follows_remove (both (has1 kind k) (has2 kind l)) b s.linked (few_both b k l s)
  follows_step b (retain p) s = follows_retain p b s.linked
  follows_step b count s = follows_count b s.linked

  pub follows_request : (b : State R) (c : Request R K1 K2) → WellFormed kind b → Follows (respond kind b c).step (t_respond kind (totals b) c)
  follows_request b (made c) s = follows_step b c s
  follows_request b (shrink ws) s = follows_shrink ws b s.linked

-- a key finds at most one slot afterwards: `test` is the test for a key
module _ {R K1 K2 : Type 0} (kind : Kind R K1 K2) (b : State R) (test : R → Bool) (few : tally test b.slots ≤ 1) (joins : (r x : R) → test r ≡ true → test x ≡ true → shares kind r x ≡ true) where
  abbrev Few : TotalStep R → Type 0
  Few ts = ts.left.counts test ≤ 1

  few_take : (r : R) (t : Bool) → test r ≡ t → tally (shares kind r) b.slots ≡ 0 → one t + tally test b.slots ≤ 1
  few_take r true e z = omega (arith, tally_mono test (shares kind r) (λ x ex. joins r x e ex) b.slots)
  few_take r false e z = omega (arith, few)

  few_oust : (r : R) (t : Bool) → test r ≡ t → one t + tally (both (unless (shares kind r)) test) b.slots ≤ 1
  few_oust r true e = omega (
    arith,
    tally_mono (both (unless (shares kind r)) test) (both (unless (shares kind r)) (shares kind r))
        (λ x h. let p = and_parts (not (shares kind r x)) (test x) h in and_from (not (shares kind r x)) (shares kind r x) p.0 (joins r x e p.1)) b.slots,
    tally_never (both (unless (shares kind r)) (shares kind r)) (λ x. not_and (shares kind r x)) b.slots,
  )
  few_oust r false e = omega (arith, few, tally_split (shares kind r) test b.slots)

  few_admit : (r : R) → tally (shares kind r) b.slots ≡ 0 → Few (t_admit r (totals b))
  few_admit r z = cond_both (leb b.capacity (standing b)) _ _ Few (λ _. few) (λ _. few_take r (test r) refl z)

  few_look : (m : R → Bool) → Few (t_look m (totals b))
  few_look m = cond_both (eqb (tally m b.slots) 0) _ _ Few (λ _. few) (λ _. few)

  few_remove : (m : R → Bool) → Few (t_remove m (totals b))
  few_remove m = cond_both (eqb (tally m b.slots) 0) _ _ Few (λ _. few) (λ _. omega (arith, few, tally_split m test b.slots))

  few_step : (c : Call R K1 K2) → Few (t_step kind (totals b) c)
  few_step (insert r) = cond_both (eqb (tally (shares kind r) b.slots) 0) _ _ Few (λ e. few_admit r (eqb-true (tally (shares kind r) b.slots) 0 e)) (λ _. few)
  few_step (overwrite r) = cond_both (eqb (tally (shares kind r) b.slots) 0) _ _ Few (λ e. few_admit r (eqb-true (tally (shares kind r) b.slots) 0 e)) (λ _. few_oust r (test r) refl)
  few_step (replace r) = cond_both (eqb (tally (shares kind r) b.slots) 0) _ _ Few (λ _. few) (λ _. few_oust r (test r) refl)
  few_step (look1 k) = few_look (has1 kind k)
  few_step (look2 l) = few_look (has2 kind l)
  few_step (look12 k l) = few_look (both (has1 kind k) (has2 kind l))
  few_step (remove1 k) = few_remove (has1 kind k)
  few_step (remove2 l) = few_remove (has2 kind l)
  few_step (remove12 k l) = few_remove (both (has1 kind k) (has2 kind l))
  few_step (retain p) = omega (arith, few, tally_split p test b.slots)
  few_step count = few

  few_request : (c : Request R K1 K2) → Few (t_respond kind (totals b) c)
  few_request (made c) = few_step c
  few_request (shrink ws) = cond_both (eqb (standing b) (length b.slots)) _ _ Few (λ _. few) (λ _. cond_both (ltb (length ws) (length b.slots)) _ _ Few (λ _. few) (λ _. few))

module _ {R K1 K2 : Type 0} (kind : Kind R K1 K2) (law : Lawful kind) where
  -- two records that have one key share a key
  joins1 : (k : K1) (r x : R) → has1 kind k r ≡ true → has1 kind k x ≡ true → shares kind r x ≡ true
  joins1 k r x er ex = or_left (has1 kind (kind.key1 r) x) (has2 kind (kind.key2 r) x) (law.trans1 (kind.key1 r) k (kind.key1 x) (law.sym1 k (kind.key1 r) er) ex)

  joins2 : (k : K2) (r x : R) → has2 kind k r ≡ true → has2 kind k x ≡ true → shares kind r x ≡ true
  joins2 k r x er ex = or_right (has1 kind (kind.key1 r) x) (has2 kind (kind.key2 r) x) (law.trans2 (kind.key2 r) k (kind.key2 x) (law.sym2 k (kind.key2 r) er) ex)

  pub well_step : (s : State R) (c : Request R K1 K2) → WellFormed kind s → WellFormed kind (respond kind s c).step.after
  well_step s c w =
      let h = follows_request kind s c w in
      record {
        linked = h.linked;
        once1 = λ k. omega (arith, h.counts (has1 kind k), few_request kind s (has1 kind k) (w.once1 k) (joins1 k) c);
        once2 = λ k. omega (arith, h.counts (has2 kind k), few_request kind s (has2 kind k) (w.once2 k) (joins2 k) c);
      }

  pub well_fresh : (c : ℕ) → c ≤ 4096 → WellFormed kind (fresh c)
  well_fresh c h = record { linked = record { free = []; chain = refl; whole = refl; within = omega arith; small = h }; once1 = λ k. omega arith; once2 = λ k. omega arith }

  pub well_left : (s : State R) (cs : List (Request R K1 K2)) → WellFormed kind s → WellFormed kind (left kind s cs)
  well_left s [] w = w
  well_left s (c ∷ cs) w = well_left (respond kind s c).step.after cs (well_step s c w)
