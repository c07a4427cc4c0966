-- Runs agree: nothing is lost, duplicates are refused exactly when they are due, and the three runs of a trace are alike.
use Rattle.std.proofs.Common.{◌≡◌, ℕ, ◌≤◌, Bool, true, false, cond, eqb, leb, List, [], map, take, Some, Decides, sym, refl, ap, ◌∙◌, subst, inl, inr, arith}
use lib.ListN.{length-map}
use Rattle.std.specs.List.{slice_get}
use Rattle.std.proofs.lemmas.Bool.{eqb-false, ne_eqb, both_ways, cases_eq, cond_both, or_left, or_right, or_cases}
use Rattle.base.proofs.Options.{some_same}
use Rattle.item.specs.declared.crossed.Crossed.{Crossed}
use Rattle.item.specs.Kinds.{Kind}
use Rattle.item_set.specs.Slots.{tally, shown, anyone}
use Rattle.item_set.specs.States.{State, fresh, standing}
use Rattle.item_set.proofs.Tally.{tally_mono}
use Rattle.model.specs.Answers.{Step, goes, refused}
use Rattle.model.specs.Model.{insert, has1, has2, shares, admitting, step, WellFormed}
use Rattle.traces.specs.Runs.{Request, made, respond, Entry, entered, run, left}
use Rattle.traces.specs.Laws.{stood, Among, Balanced, Shares, Kept, AllAlike, crossed, cross, Agreed}
use Rattle.traces.proofs.Lawful.{Lawful}
use Rattle.traces.proofs.Tallies.{times_standing}
use Rattle.traces.proofs.Keeping.{well_fresh, well_left}
use Rattle.traces.proofs.Crossing.{lawful_crossed, alike_fresh}
use Rattle.traces.proofs.Balances.{balanced_run}
use Rattle.traces.proofs.Entries.{among_counted, passing, length_run, take_run, stood_run, nth_run}

-- a record stands at most once
module _ {R K1 K2 : Type 0} (kind : Kind R K1 K2) (law : Lawful kind) (same : R → R → Bool) (tells : (a b : R) → Decides (same a b) (a ≡ b)) (s : State R) (w : WellFormed kind s) (r : R) where
  stands_once : Among r (shown anyone s.slots) → tally (same r) s.slots ≡ 1
  stands_once a =
      omega (
        arith,
        w.once1 (kind.key1 r),
        times_standing (same r) s.slots,
        among_counted (same r) (shown anyone s.slots) r a ((tells r r).1 refl),
        tally_mono (same r) (has1 kind (kind.key1 r)) (λ x e. subst (λ (y : R). kind.same1 (kind.key1 r) (kind.key1 y) ≡ true) ((tells r x).0 e) (law.refl1 (kind.key1 r))) s.slots,
      )

  absent : (Among r (shown anyone s.slots) → ⊥) → tally (same r) s.slots ≡ 0
  absent no_one =
      elim (cases_eq (tally (same r) s.slots) 0) [
        | inl z ↦ z
        | inr n ↦
            let p = passing (same r) (shown anyone s.slots) (omega (arith, times_standing (same r) s.slots)) in
            absurd (no_one (subst (λ (y : R). Among y (shown anyone s.slots)) (sym ((tells r p.0).0 p.2)) p.1))
      ]

-- an insert is refused as a duplicate exactly when a standing record has an equal key
module _ {R K1 K2 : Type 0} (kind : Kind R K1 K2) (s : State R) (r : R) where
  not_duplicate : eqb (admitting s r).answer.refusal 1 ≡ true → ⊥
  not_duplicate = cond_both (leb s.capacity (standing s)) _ _ (λ (st : Step R). eqb st.answer.refusal 1 ≡ true → ⊥) (λ _ e. both_ways false refl e) (λ _ e. both_ways false refl e)

  duplicate_by : (t : Bool) (rs : List R) → eqb (tally (shares kind r) s.slots) 0 ≡ t → eqb (cond t (admitting s r) (goes s (refused 1 rs))).answer.refusal 1 ≡ true → 1 ≤ tally (shares kind r) s.slots
  duplicate_by true rs e f = absurd (not_duplicate f)
  duplicate_by false rs e f = let n = eqb-false (tally (shares kind r) s.slots) 0 e in omega arith

  shares_some : 1 ≤ tally (shares kind r) s.slots → Shares kind r (shown anyone s.slots)
  shares_some h =
      let p = passing (shares kind r) (shown anyone s.slots) (omega (arith, times_standing (shares kind r) s.slots)) in
      (p.0, p.1, or_cases (has1 kind (kind.key1 r) p.0) (has2 kind (kind.key2 r) p.0) p.2)

  some_shares : Shares kind r (shown anyone s.slots) → 1 ≤ tally (shares kind r) s.slots
  some_shares (x, a, h) =
      let e : shares kind r x ≡ true = elim h [ inl e ↦ or_left (has1 kind (kind.key1 r) x) (has2 kind (kind.key2 r) x) e | inr e ↦ or_right (has1 kind (kind.key1 r) x) (has2 kind (kind.key2 r) x) e ] in
      omega (arith, times_standing (shares kind r) s.slots, among_counted (shares kind r) (shown anyone s.slots) x a e)

  duplicate : Decides (eqb (step kind s (insert r)).answer.refusal 1) (Shares kind r (shown anyone s.slots))
  duplicate = (
    (λ e. shares_some (duplicate_by (eqb (tally (shares kind r) s.slots) 0) _ refl e)),
    (λ h. let some = some_shares h in rw (ne_eqb (tally (shares kind r) s.slots) 0 (omega arith)) refl),
  )

module _ {R K1 K2 : Type 0} (kind : Kind R K1 K2) (law : Lawful kind) (c : ℕ) (most : c ≤ 4096) where
  well_at : (cs : List (Request R K1 K2)) → WellFormed kind (left kind (fresh c) cs)
  well_at cs = well_left kind law (fresh c) cs (well_fresh kind law c most)

  -- what stands after a run from no records
  stood_at : (cs : List (Request R K1 K2)) → stood [] (run kind (fresh c) cs) ≡ shown anyone (left kind (fresh c) cs).slots
  stood_at cs = stood_run kind (fresh c) cs

  balanced_at : (same : R → R → Bool) → ((a b : R) → Decides (same a b) (a ≡ b)) → (r : R) (cs : List (Request R K1 K2)) → Balanced same r cs (run kind (fresh c) cs)
  balanced_at same tells r cs =
      let s = left kind (fresh c) cs in
      let even = balanced_run kind law (same r) cs (fresh c) (well_fresh kind law c most) in
      record {
        stands = λ a. omega (arith, stands_once kind law same tells s (well_at cs) r (subst (Among r) (stood_at cs) a));
        gone = λ n. omega (arith, absent kind law same tells s (well_at cs) r (λ a. n (subst (Among r) (sym (stood_at cs)) a)));
      }

  duplicate_at : (trace : List (Request R K1 K2)) (n : ℕ) (r : R) (e : Entry R) → slice_get trace n ≡ Some (made (insert r)) → slice_get (run kind (fresh c) trace) n ≡ Some e → Decides (eqb e.answer.refusal 1) (Shares kind r (stood [] (take n (run kind (fresh c) trace))))
  duplicate_at trace n r e ec ee =
      let s : State R = left kind (fresh c) (take n trace) in
      let here : entered (respond kind s (made (insert r))) ≡ e = some_same (sym (nth_run kind (fresh c) trace n (made (insert r)) ec) ∙ ee) in
      let then : stood [] (take n (run kind (fresh c) trace)) ≡ shown anyone s.slots = ap (stood []) (take_run kind n (fresh c) trace) ∙ stood_at (take n trace) in
      subst (λ (xs : List R). Decides (eqb e.answer.refusal 1) (Shares kind r xs)) (sym then)
      (subst (λ (x : Entry R). Decides (eqb x.answer.refusal 1) (Shares kind r (shown anyone s.slots))) here (duplicate kind s r))

  pub kept : (trace : List (Request R K1 K2)) → Kept kind trace (run kind (fresh c) trace)
  kept trace = record {
    each = length_run kind (fresh c) trace;
    balanced = λ same tells r n. subst (Balanced same r (take n trace)) (sym (take_run kind n (fresh c) trace)) (balanced_at same tells r (take n trace));
    duplicates = duplicate_at trace;
  }

  pub all_alike : (trace : List (Request R K1 K2)) → AllAlike (run kind (fresh c) trace) (run (crossed kind) (fresh c) (map cross trace))
  all_alike trace = record {
    lengths = length_run kind (fresh c) trace ∙ sym (length_run (crossed kind) (fresh c) (map cross trace) ∙ length-map trace cross);
    entries = alike_fresh kind law c most trace;
  }

pub agreed : {R K1 K2 : Type 0} (kind : Kind R K1 K2) → Lawful kind → (c : ℕ) → c ≤ 4096 → (trace : List (Request R K1 K2)) (first second : List (Entry R)) (mirror : List (Entry (Crossed R)))
    → first ≡ run kind (fresh c) trace → second ≡ run kind (fresh c) trace → mirror ≡ run (crossed kind) (fresh c) (map cross trace)
    → Agreed kind c trace first second mirror
agreed {R} kind law c most trace first second mirror e1 e2 e3 = record {
  model = e1;
  crossed_model = e3;
  same = e2 ∙ sym e1;
  alike = subst (λ (x : List (Entry R)). AllAlike x mirror) (sym e1) (subst (AllAlike (run kind (fresh c) trace)) (sym e3) (all_alike kind law c most trace));
  kept = subst (Kept kind trace) (sym e1) (kept kind law c most trace);
  kept_second = subst (Kept kind trace) (sym e2) (kept kind law c most trace);
  kept_crossed = subst (Kept (crossed kind) (map cross trace)) (sym e3) (kept (crossed kind) (lawful_crossed kind law) c most (map cross trace));
}
