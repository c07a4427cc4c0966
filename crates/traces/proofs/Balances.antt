-- What a request takes in, hands back and rejects makes up the difference between what stood before it and what stands after it.
use Rattle.std.proofs.Common.{◌≡◌, ℕ, ◌+◌, Bool, true, false, cond, eqb, ltb, leb, List, [], ◌∷◌, length, refl, ap, ◌∙◌, arith}
use Rattle.std.proofs.lemmas.Bool.{cond_both}
use Rattle.base.specs.Counting.{one, times}
use Rattle.item.specs.Kinds.{Kind}
use Rattle.item_set.specs.Slots.{tally, shown, anyone}
use Rattle.item_set.specs.States.{State, standing}
use Rattle.model.specs.Answers.{Step}
use Rattle.model.specs.Model.{Call, insert, overwrite, replace, look1, look2, look12, remove1, remove2, remove12, retain, count, both, has1, has2, shares, WellFormed}
use Rattle.traces.specs.Runs.{Request, made, shrink, respond, run, left}
use Rattle.traces.specs.Laws.{by_call, accepted, took, taken_in, gave, handed_back, refuses, rejected}
use Rattle.traces.proofs.Lawful.{Lawful}
use Rattle.traces.proofs.Tallies.{unless, tally_split, times_append, times_standing, times_failing}
use Rattle.traces.proofs.Totals.{TotalStep, totals, t_admit, t_insert, t_overwrite, t_replace, t_look, t_remove, t_shrink, t_step, t_respond, Follows}
use Rattle.traces.proofs.Keeping.{follows_request, well_step}

-- one call, counted by a test q
module _ {R K1 K2 : Type 0} (kind : Kind R K1 K2) (b : State R) (q : R → Bool) where
  abbrev comes : R → TotalStep R → ℕ
  comes r ts = cond (eqb ts.refusal 0) (one (q r)) 0

  accepted_is : (r : R) (t : Bool) → times q (cond t (r ∷ []) []) ≡ cond t (one (q r)) 0
  accepted_is r true = omega arith
  accepted_is r false = refl

  -- a record comes in, and what is answered goes, or one of the two, or neither
  abbrev Trades : R → TotalStep R → Type 0
  Trades r ts = comes r ts + tally q b.slots ≡ ts.left.counts q + ts.shows q

  abbrev Comes : R → TotalStep R → Type 0
  Comes r ts = comes r ts + tally q b.slots ≡ ts.left.counts q

  abbrev Goes : TotalStep R → Type 0
  Goes ts = tally q b.slots ≡ ts.left.counts q + ts.shows q

  abbrev Stays : TotalStep R → Type 0
  Stays ts = tally q b.slots ≡ ts.left.counts q

  comes_admit : (r : R) → Comes r (t_admit r (totals b))
  comes_admit r = cond_both (leb b.capacity (standing b)) _ _ (Comes r) (λ _. omega arith) (λ _. refl)

  comes_insert : (m : R → Bool) (r : R) → Comes r (t_insert m r (totals b))
  comes_insert m r = cond_both (eqb (tally m b.slots) 0) _ _ (Comes r) (λ _. comes_admit r) (λ _. omega arith)

  trades_admit : (r : R) → Trades r (t_admit r (totals b))
  trades_admit r = cond_both (leb b.capacity (standing b)) _ _ (Trades r) (λ _. omega arith) (λ _. omega arith)

  trades_overwrite : (m : R → Bool) (r : R) → Trades r (t_overwrite m r (totals b))
  trades_overwrite m r = cond_both (eqb (tally m b.slots) 0) _ _ (Trades r) (λ _. trades_admit r) (λ _. omega (arith, tally_split m q b.slots))

  trades_replace : (m : R → Bool) (r : R) → Trades r (t_replace m r (totals b))
  trades_replace m r = cond_both (eqb (tally m b.slots) 0) _ _ (Trades r) (λ _. omega arith) (λ _. omega (arith, tally_split m q b.slots))

  stays_look : (m : R → Bool) → Stays (t_look m (totals b))
  stays_look m = cond_both (eqb (tally m b.slots) 0) _ _ Stays (λ _. refl) (λ _. refl)

  goes_remove : (m : R → Bool) → Goes (t_remove m (totals b))
  goes_remove m = cond_both (eqb (tally m b.slots) 0) _ _ Goes (λ _. omega arith) (λ _. omega (arith, tally_split m q b.slots))

  stays_shrink : (n : ℕ) → Stays (t_shrink n (totals b))
  stays_shrink n = cond_both (eqb (standing b) (length b.slots)) _ _ Stays (λ _. refl) (λ _. cond_both (ltb n (length b.slots)) _ _ Stays (λ _. refl) (λ _. refl))

  abbrev Balance : Call R K1 K2 → Step R → Type 0
  Balance c st = times q (took c st.answer) + tally q b.slots ≡ tally q st.after.slots + times q (gave c st.answer) + times q (refuses c (shown anyone b.slots))

  takes_in : (r : R) (st : Step R) (ts : TotalStep R) → Follows st ts → times q (accepted r st.answer) ≡ comes r ts
  takes_in r st ts h = accepted_is r (eqb st.answer.refusal 0) ∙ ap (λ (n : ℕ). cond (eqb n 0) (one (q r)) 0) h.refusal

  balance : (c : Call R K1 K2) (st : Step R) → Follows st (t_step kind (totals b) c) → Balance c st
  balance (insert r) st h = omega (arith, takes_in r st _ h, h.counts q, comes_insert (shares kind r) r)
  balance (overwrite r) st h = omega (arith, takes_in r st _ h, h.counts q, h.shows q, trades_overwrite (shares kind r) r)
  balance (replace r) st h = omega (arith, takes_in r st _ h, h.counts q, h.shows q, trades_replace (shares kind r) r)
  balance (look1 k) st h = omega (arith, h.counts q, stays_look (has1 kind k))
  balance (look2 k) st h = omega (arith, h.counts q, stays_look (has2 kind k))
  balance (look12 k l) st h = omega (arith, h.counts q, stays_look (both (has1 kind k) (has2 kind l)))
  balance (remove1 k) st h = omega (arith, h.counts q, h.shows q, goes_remove (has1 kind k))
  balance (remove2 k) st h = omega (arith, h.counts q, h.shows q, goes_remove (has2 kind k))
  balance (remove12 k l) st h = omega (arith, h.counts q, h.shows q, goes_remove (both (has1 kind k) (has2 kind l)))
  balance (retain p) st h = omega (arith, h.counts q, times_failing p q (shown anyone b.slots), times_standing (both (unless p) q) b.slots, tally_split p q b.slots)
  balance count st h = omega (arith, h.counts q)

  -- or one shrink
  abbrev takes : Request R K1 K2 → Step R → List R
  takes c st = by_call (λ d. took d st.answer) c

  abbrev gives : Request R K1 K2 → Step R → List R
  gives c st = by_call (λ d. gave d st.answer) c

  abbrev rejects : Request R K1 K2 → List R
  rejects c = by_call (λ d. refuses d (shown anyone b.slots)) c

  balance_request : (c : Request R K1 K2) (st : Step R) → Follows st (t_respond kind (totals b) c) → times q (takes c st) + tally q b.slots ≡ tally q st.after.slots + times q (gives c st) + times q (rejects c)
  balance_request (made c) st h = balance c st h
  balance_request (shrink ws) st h = omega (arith, h.counts q, stays_shrink (length ws))

-- and a trace
module _ {R K1 K2 : Type 0} (kind : Kind R K1 K2) (law : Lawful kind) (q : R → Bool) where
  pub balanced_run : (cs : List (Request R K1 K2)) (s : State R) → WellFormed kind s →
      times q (taken_in cs (run kind s cs)) + tally q s.slots ≡ tally q (left kind s cs).slots + times q (handed_back cs (run kind s cs)) + times q (rejected (shown anyone s.slots) cs (run kind s cs))
  balanced_run [] s w = omega arith
  balanced_run (c ∷ cs) s w =
      let st = (respond kind s c).step in
      let t = st.after in
      omega (
        arith,
        balance_request kind s q c st (follows_request kind s c w),
        balanced_run cs t (well_step kind law s c w),
        times_append q (takes kind s q c st) (taken_in cs (run kind t cs)),
        times_append q (gives kind s q c st) (handed_back cs (run kind t cs)),
        times_append q (rejects kind s q c) (rejected (shown anyone t.slots) cs (run kind t cs)),
      )
