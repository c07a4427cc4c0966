-- A crossed run is like the run itself: their counts take the same steps.
use Rattle.std.proofs.Common.{◌≡◌, ℕ, zero, suc, ◌≤◌, Bool, true, false, cond, ◌&&◌, ◌||◌, eqb, ltb, leb, List, [], ◌∷◌, map, length, Some, sym, refl, ap, ◌∙◌, subst}
use mathlib.Core.Path.{fun_ext}
use Rattle.std.specs.List.{slice_get}
use Rattle.base.proofs.Options.{none_some, some_same}
use Rattle.item.specs.declared.crossed.Crossed.{Crossed}
use Rattle.item.specs.Kinds.{Kind}
use Rattle.item_set.specs.Slots.{anyone}
use Rattle.item_set.specs.States.{State, fresh}
use Rattle.model.specs.Answers.{Step}
use Rattle.model.specs.Model.{Call, insert, overwrite, replace, look1, look2, look12, remove1, remove2, remove12, retain, count, either, both, has1, has2, shares, WellFormed}
use Rattle.model.specs.Shrinking.{ScratchStep}
use Rattle.traces.specs.Runs.{Request, made, shrink, respond, Entry, entered, run}
use Rattle.traces.specs.Laws.{crossed, over, inside, cross_call, cross, Alike}
use Rattle.traces.proofs.Lawful.{Lawful}
use Rattle.traces.proofs.Tallies.{times_standing}
use Rattle.traces.proofs.Totals.{Totals, TotalStep, totals, t_admit, t_insert, t_overwrite, t_replace, t_look, t_remove, t_step, t_respond, Follows}
use Rattle.traces.proofs.Keeping.{follows_request, well_step, well_fresh}
use Rattle.traces.proofs.Steps.{lasts_shrink}

or_comm : (a b : Bool) → (a || b) ≡ (b || a)
or_comm true true = refl
or_comm true false = refl
or_comm false true = refl
or_comm false false = refl

and_comm : (a b : Bool) → (a && b) ≡ (b && a)
and_comm true true = refl
and_comm true false = refl
and_comm false true = refl
and_comm false false = refl

pub lawful_crossed : {R K1 K2 : Type 0} (kind : Kind R K1 K2) → Lawful kind → Lawful (crossed kind)
lawful_crossed kind law = record { refl1 = law.refl2; refl2 = law.refl1; sym1 = law.sym2; sym2 = law.sym1; trans1 = law.trans2; trans2 = law.trans1 }

-- the counts of crossed records, by tests of what is inside
abbrev uncross : {R : Type 0} → Totals (Crossed R) → Totals R
uncross t = record { counts = λ q. t.counts (inside q); size = t.size; room = t.room }

abbrev uncrossed : {R : Type 0} → TotalStep (Crossed R) → TotalStep R
uncrossed t = record { left = uncross t.left; refusal = t.refusal; count = t.count; shows = λ q. t.shows (inside q) }

module _ {R : Type 0} where
  uncross_cond : (t : Bool) (x y : TotalStep (Crossed R)) (u v : TotalStep R) → u ≡ uncrossed x → v ≡ uncrossed y → cond t u v ≡ uncrossed (cond t x y)
  uncross_cond true x y u v e f = e
  uncross_cond false x y u v e f = f

  uncross_admit : (t : Totals (Crossed R)) (r : R) → t_admit r (uncross t) ≡ uncrossed (t_admit (over r) t)
  uncross_admit t r = uncross_cond (leb t.room (t.counts anyone)) _ _ _ _ refl refl

  uncross_insert : (t : Totals (Crossed R)) (m : R → Bool) (r : R) → t_insert m r (uncross t) ≡ uncrossed (t_insert (inside m) (over r) t)
  uncross_insert t m r = uncross_cond (eqb (t.counts (inside m)) 0) _ _ _ _ (uncross_admit t r) refl

  uncross_overwrite : (t : Totals (Crossed R)) (m : R → Bool) (r : R) → t_overwrite m r (uncross t) ≡ uncrossed (t_overwrite (inside m) (over r) t)
  uncross_overwrite t m r = uncross_cond (eqb (t.counts (inside m)) 0) _ _ _ _ (uncross_admit t r) refl

  uncross_replace : (t : Totals (Crossed R)) (m : R → Bool) (r : R) → t_replace m r (uncross t) ≡ uncrossed (t_replace (inside m) (over r) t)
  uncross_replace t m r = uncross_cond (eqb (t.counts (inside m)) 0) _ _ _ _ refl refl

  uncross_look : (t : Totals (Crossed R)) (m : R → Bool) → t_look m (uncross t) ≡ uncrossed (t_look (inside m) t)
  uncross_look t m = uncross_cond (eqb (t.counts (inside m)) 0) _ _ _ _ refl refl

  uncross_remove : (t : Totals (Crossed R)) (m : R → Bool) → t_remove m (uncross t) ≡ uncrossed (t_remove (inside m) t)
  uncross_remove t m = uncross_cond (eqb (t.counts (inside m)) 0) _ _ _ _ refl refl

-- the counts do not tell which key is the first
module _ {R K1 K2 : Type 0} (kind : Kind R K1 K2) where
  abbrev shares_back : R → R → Bool
  shares_back r = either (has2 kind (kind.key2 r)) (has1 kind (kind.key1 r))

  swapped : (r : R) → shares kind r ≡ shares_back r
  swapped r = fun_ext (λ x. or_comm (has1 kind (kind.key1 r) x) (has2 kind (kind.key2 r) x))

  both_back : (k : K1) (l : K2) → both (has1 kind k) (has2 kind l) ≡ both (has2 kind l) (has1 kind k)
  both_back k l = fun_ext (λ x. and_comm (has1 kind k x) (has2 kind l x))

  cross_step : (t : Totals (Crossed R)) (c : Call R K1 K2) → t_step kind (uncross t) c ≡ uncrossed (t_step (crossed kind) t (cross_call c))
  cross_step t (insert r) = ap (λ (m : R → Bool). t_insert m r (uncross t)) (swapped r) ∙ uncross_insert t (shares_back r) r
  cross_step t (overwrite r) = ap (λ (m : R → Bool). t_overwrite m r (uncross t)) (swapped r) ∙ uncross_overwrite t (shares_back r) r
  cross_step t (replace r) = ap (λ (m : R → Bool). t_replace m r (uncross t)) (swapped r) ∙ uncross_replace t (shares_back r) r
  cross_step t (look1 k) = uncross_look t (has1 kind k)
  cross_step t (look2 k) = uncross_look t (has2 kind k)
  cross_step t (look12 k l) = ap (λ (m : R → Bool). t_look m (uncross t)) (both_back k l) ∙ uncross_look t (both (has2 kind l) (has1 kind k))
  cross_step t (remove1 k) = uncross_remove t (has1 kind k)
  cross_step t (remove2 k) = uncross_remove t (has2 kind k)
  cross_step t (remove12 k l) = ap (λ (m : R → Bool). t_remove m (uncross t)) (both_back k l) ∙ uncross_remove t (both (has2 kind l) (has1 kind k))
  cross_step t (retain p) = refl
  cross_step t count = refl

  cross_request : (t : Totals (Crossed R)) (c : Request R K1 K2) → t_respond kind (uncross t) c ≡ uncrossed (t_respond (crossed kind) t (cross c))
  cross_request t (made c) = cross_step t c
  cross_request t (shrink ws) = uncross_cond (eqb (t.counts anyone) t.size) _ _ _ _ refl (uncross_cond (ltb (length ws) t.size) _ _ _ _ refl refl)

  -- nor does a scratch that comes to another length
  cross_lasts : (c : Request R K1 K2) (a : State R) (b : State (Crossed R)) → length (respond kind a c).scratch ≡ length (respond (crossed kind) b (cross c)).scratch
  cross_lasts (made c) a b = refl
  cross_lasts (shrink ws) a b = lasts_shrink ws a ∙ sym (lasts_shrink ws b)

-- the totals that a step leaves
totals_after : {R : Type 0} (st : Step R) (ts : TotalStep R) → Follows st ts → totals st.after ≡ ts.left
totals_after st ts h = λ i. record { counts = λ q. h.counts q i; size = h.size i; room = h.room i }

alike_of : {R : Type 0} (x : ScratchStep R) (y : ScratchStep (Crossed R)) (tx : TotalStep R) (ty : TotalStep (Crossed R)) → Follows x.step tx → Follows y.step ty → tx ≡ uncrossed ty → length x.scratch ≡ length y.scratch → Alike (entered x) (entered y)
alike_of {R} x y tx ty hx hy e long = record {
  refusals = hx.refusal ∙ ap (λ (t : TotalStep R). t.refusal) e ∙ sym hy.refusal;
  counts = hx.count ∙ ap (λ (t : TotalStep R). t.count) e ∙ sym hy.count;
  records = λ q. hx.shows q ∙ ap (λ (t : TotalStep R). t.shows q) e ∙ sym (hy.shows (inside q));
  scratches = long;
  standing = λ q. times_standing q x.step.after.slots ∙ hx.counts q ∙ ap (λ (t : TotalStep R). t.left.counts q) e ∙ sym (hy.counts (inside q)) ∙ sym (times_standing (inside q) y.step.after.slots);
}

module _ {R K1 K2 : Type 0} (kind : Kind R K1 K2) (law : Lawful kind) where
  -- one step from states whose counts are the same: the entries are alike, and the counts stay the same
  alike_step : (c : Request R K1 K2) (a : State R) (b : State (Crossed R)) → WellFormed kind a → WellFormed (crossed kind) b → totals a ≡ uncross (totals b) →
      Alike (entered (respond kind a c)) (entered (respond (crossed kind) b (cross c))) × (totals (respond kind a c).step.after ≡ uncross (totals (respond (crossed kind) b (cross c)).step.after))
  alike_step c a b wa wb e =
      let ha = follows_request kind a c wa in
      let hb = follows_request (crossed kind) b (cross c) wb in
      let f : t_respond kind (totals a) c ≡ uncrossed (t_respond (crossed kind) (totals b) (cross c)) = ap (λ (t : Totals R). t_respond kind t c) e ∙ cross_request kind (totals b) c in
      (alike_of _ _ _ _ ha hb f (cross_lasts kind c a b), totals_after _ _ ha ∙ ap (λ (t : TotalStep R). t.left) f ∙ ap uncross (sym (totals_after _ _ hb)))

  alike_run : (cs : List (Request R K1 K2)) (a : State R) (b : State (Crossed R)) → WellFormed kind a → WellFormed (crossed kind) b → totals a ≡ uncross (totals b) →
      (n : ℕ) (x : Entry R) (y : Entry (Crossed R)) → slice_get (run kind a cs) n ≡ Some x → slice_get (run (crossed kind) b (map cross cs)) n ≡ Some y → Alike x y
  alike_run [] a b wa wb e n x y ex ey = absurd (none_some ex)
  alike_run (c ∷ cs) a b wa wb e zero x y ex ey =
      subst (λ (z : Entry R). Alike z y) (some_same ex) (subst (λ (z : Entry (Crossed R)). Alike (entered (respond kind a c)) z) (some_same ey) (alike_step c a b wa wb e).0)
  alike_run (c ∷ cs) a b wa wb e (suc n) x y ex ey =
      alike_run cs (respond kind a c).step.after (respond (crossed kind) b (cross c)).step.after (well_step kind law a c wa) (well_step (crossed kind) (lawful_crossed kind law) b (cross c) wb) (alike_step c a b wa wb e).1 n x y ex ey

  pub alike_fresh : (c : ℕ) → c ≤ 4096 → (cs : List (Request R K1 K2)) (n : ℕ) (x : Entry R) (y : Entry (Crossed R)) → slice_get (run kind (fresh c) cs) n ≡ Some x → slice_get (run (crossed kind) (fresh c) (map cross cs)) n ≡ Some y → Alike x y
  alike_fresh c l cs = alike_run cs (fresh c) (fresh c) (well_fresh kind law c l) (well_fresh (crossed kind) (lawful_crossed kind law) c l) refl
