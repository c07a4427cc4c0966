-- A state by its counts alone: how many standing records pass each test, how many slots there are, and the capacity;
-- and one step of it for each request. It has no slot numbers and no order, so that the two keys are alike to it.
use Rattle.std.proofs.Common.{◌≡◌, ℕ, ◌+◌, Bool, cond, eqb, ltb, leb, length}
use Rattle.base.specs.Counting.{one, times}
use Rattle.item.specs.Kinds.{Kind}
use Rattle.item_set.specs.Slots.{tally, anyone}
use Rattle.item_set.specs.States.{State}
use Rattle.item_set.specs.Chains.{Linked}
use Rattle.model.specs.Answers.{Step}
use Rattle.model.specs.Model.{Call, insert, overwrite, replace, look1, look2, look12, remove1, remove2, remove12, retain, count, both, has1, has2, shares}
use Rattle.traces.specs.Runs.{Request, made, shrink}
use Rattle.traces.proofs.Tallies.{unless}

pub record Totals (R : Type 0) : Type 0 where
  pub counts : (R → Bool) → ℕ
  pub size : ℕ
  pub room : ℕ

-- what a step leaves, and of its answer the refusal, the count, and how many records pass each test
pub record TotalStep (R : Type 0) : Type 0 where
  pub left : Totals R
  pub refusal : ℕ
  pub count : ℕ
  pub shows : (R → Bool) → ℕ

module _ {R : Type 0} where
  abbrev pub totals : State R → Totals R
  totals s = record { counts = λ q. tally q s.slots; size = length s.slots; room = s.capacity }

  abbrev pub total_step : Totals R → ℕ → ℕ → ((R → Bool) → ℕ) → TotalStep R
  total_step t e n f = record { left = t; refusal = e; count = n; shows = f }

  abbrev pub nothing : (R → Bool) → ℕ
  nothing q = 0

  abbrev pub t_take : R → Totals R → Totals R
  t_take r t = record { counts = λ q. one (q r) + t.counts q; size = cond (eqb (t.counts anyone) t.size) (t.size + 1) t.size; room = t.room }

  -- those that pass m are gone
  abbrev pub t_drop : (R → Bool) → Totals R → Totals R
  t_drop m t = record { counts = λ q. t.counts (both (unless m) q); size = t.size; room = t.room }

  -- and r has come in their place
  abbrev pub t_oust : (R → Bool) → R → Totals R → Totals R
  t_oust m r t = record { counts = λ q. one (q r) + t.counts (both (unless m) q); size = t.size; room = t.room }

  abbrev pub t_admit : R → Totals R → TotalStep R
  t_admit r t = cond (leb t.room (t.counts anyone)) (total_step t 2 0 nothing) (total_step (t_take r t) 0 0 nothing)

  abbrev pub t_insert : (R → Bool) → R → Totals R → TotalStep R
  t_insert m r t = cond (eqb (t.counts m) 0) (t_admit r t) (total_step t 1 0 (λ q. one (q r) + t.counts (both m q)))

  abbrev pub t_displace : (R → Bool) → R → Totals R → TotalStep R
  t_displace m r t = total_step (t_oust m r t) 0 0 (λ q. t.counts (both m q))

  abbrev pub t_overwrite : (R → Bool) → R → Totals R → TotalStep R
  t_overwrite m r t = cond (eqb (t.counts m) 0) (t_admit r t) (t_displace m r t)

  abbrev pub t_replace : (R → Bool) → R → Totals R → TotalStep R
  t_replace m r t = cond (eqb (t.counts m) 0) (total_step t 3 0 nothing) (t_displace m r t)

  abbrev pub t_look : (R → Bool) → Totals R → TotalStep R
  t_look m t = cond (eqb (t.counts m) 0) (total_step t 3 0 nothing) (total_step t 0 0 (λ q. t.counts (both m q)))

  abbrev pub t_remove : (R → Bool) → Totals R → TotalStep R
  t_remove m t = cond (eqb (t.counts m) 0) (total_step t 3 0 nothing) (total_step (t_drop m t) 0 0 (λ q. t.counts (both m q)))

  abbrev pub t_retain : (R → Bool) → Totals R → TotalStep R
  t_retain p t = total_step (record { counts = λ q. t.counts (both p q); size = t.size; room = t.room }) 0 (t.counts (both p anyone)) nothing

  abbrev pub t_shrink : ℕ → Totals R → TotalStep R
  t_shrink n t =
      cond (eqb (t.counts anyone) t.size) (total_step t 0 t.size nothing)
      (cond (ltb n t.size) (total_step t 7 0 nothing)
      (total_step (record { counts = t.counts; size = t.counts anyone; room = t.room }) 0 (t.counts anyone) nothing))

  abbrev pub t_count : Totals R → TotalStep R
  t_count t = total_step t 0 (t.counts anyone) nothing

  -- a step of the model is as the counts say
  pub record Follows (st : Step R) (ts : TotalStep R) : Type 0 where
    pub linked : Linked st.after
    pub counts : (q : R → Bool) → tally q st.after.slots ≡ ts.left.counts q
    pub size : length st.after.slots ≡ ts.left.size
    pub room : st.after.capacity ≡ ts.left.room
    pub refusal : st.answer.refusal ≡ ts.refusal
    pub count : st.answer.count ≡ ts.count
    pub shows : (q : R → Bool) → times q st.answer.records ≡ ts.shows q

module _ {R K1 K2 : Type 0} (kind : Kind R K1 K2) where
  abbrev pub t_step : Totals R → Call R K1 K2 → TotalStep R
  t_step t (insert r) = t_insert (shares kind r) r t
  t_step t (overwrite r) = t_overwrite (shares kind r) r t
  t_step t (replace r) = t_replace (shares kind r) r t
  t_step t (look1 k) = t_look (has1 kind k) t
  t_step t (look2 k) = t_look (has2 kind k) t
  t_step t (look12 k l) = t_look (both (has1 kind k) (has2 kind l)) t
  t_step t (remove1 k) = t_remove (has1 kind k) t
  t_step t (remove2 k) = t_remove (has2 kind k) t
  t_step t (remove12 k l) = t_remove (both (has1 kind k) (has2 kind l)) t
  t_step t (retain p) = t_retain p t
  t_step t count = t_count t

  abbrev pub t_respond : Totals R → Request R K1 K2 → TotalStep R
  t_respond t (made c) = t_step t c
  t_respond t (shrink ws) = t_shrink (length ws) t
