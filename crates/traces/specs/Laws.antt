-- What holds of every run, told from its trace and its log alone.
use Rattle.std.specs.Prelude.{◌≡◌, ℕ, ◌+◌, Bool, true, cond, ◌⊎◌, List, [], ◌∷◌, ◌++◌, map, length, take, Some, Decides, ◌==◌}
use Rattle.std.specs.List.{slice_get}
use Rattle.base.specs.Counting.{times}
use Rattle.item.specs.declared.crossed.Crossed.{Crossed}
use Rattle.item.specs.Kinds.{Kind}
use Rattle.item_set.specs.States.{fresh}
use Rattle.model.specs.Answers.{Answer}
use Rattle.model.specs.Model.{Call, insert, overwrite, replace, look1, look2, look12, remove1, remove2, remove12, retain, count}
use Rattle.traces.specs.Runs.{Request, made, shrink, Entry, run}

-- the records that stand after the entries of a log, where `before` stood at its beginning
abbrev pub stood : {R : Type 0} → List R → List (Entry R) → List R
stood before [] = before
stood before (e ∷ es) = stood e.standing es

-- a record is among those listed
abbrev pub Among : {R : Type 0} → R → List R → Type 0
Among r xs = (i : ℕ) × (slice_get xs i ≡ Some r)

-- what a call adds to a list of records; a shrink adds none
abbrev pub by_call : {R K1 K2 : Type 0} → (Call R K1 K2 → List R) → Request R K1 K2 → List R
by_call f (made c) = f c
by_call f (shrink ws) = []

-- taken in: accepted by insert, overwrite or replace
abbrev pub accepted : {R : Type 0} → R → Answer R → List R
accepted r a = cond (a.refusal == 0) (r ∷ []) []

abbrev pub took : {R K1 K2 : Type 0} → Call R K1 K2 → Answer R → List R
took (insert r) a = accepted r a
took (overwrite r) a = accepted r a
took (replace r) a = accepted r a
took (look1 k) a = []
took (look2 k) a = []
took (look12 k l) a = []
took (remove1 k) a = []
took (remove2 k) a = []
took (remove12 k l) a = []
took (retain p) a = []
took count a = []

abbrev pub taken_in : {R K1 K2 : Type 0} → List (Request R K1 K2) → List (Entry R) → List R
taken_in [] es = []
taken_in (c ∷ cs) [] = []
taken_in (c ∷ cs) (e ∷ es) = by_call (λ d. took d e.answer) c ++ taken_in cs es

-- handed back: displaced by overwrite or replace, or removed
abbrev pub gave : {R K1 K2 : Type 0} → Call R K1 K2 → Answer R → List R
gave (insert r) a = []
gave (overwrite r) a = a.records
gave (replace r) a = a.records
gave (look1 k) a = []
gave (look2 k) a = []
gave (look12 k l) a = []
gave (remove1 k) a = a.records
gave (remove2 k) a = a.records
gave (remove12 k l) a = a.records
gave (retain p) a = []
gave count a = []

abbrev pub handed_back : {R K1 K2 : Type 0} → List (Request R K1 K2) → List (Entry R) → List R
handed_back [] es = []
handed_back (c ∷ cs) [] = []
handed_back (c ∷ cs) (e ∷ es) = by_call (λ d. gave d e.answer) c ++ handed_back cs es

-- rejected: standing at a retain whose predicate says no
abbrev pub failing : {R : Type 0} → (R → Bool) → List R → List R
failing p [] = []
failing p (r ∷ rs) = cond (p r) (failing p rs) (r ∷ failing p rs)

abbrev pub refuses : {R K1 K2 : Type 0} → Call R K1 K2 → List R → List R
refuses (insert r) before = []
refuses (overwrite r) before = []
refuses (replace r) before = []
refuses (look1 k) before = []
refuses (look2 k) before = []
refuses (look12 k l) before = []
refuses (remove1 k) before = []
refuses (remove2 k) before = []
refuses (remove12 k l) before = []
refuses (retain p) before = failing p before
refuses count before = []

abbrev pub rejected : {R K1 K2 : Type 0} → List R → List (Request R K1 K2) → List (Entry R) → List R
rejected before [] es = []
rejected before (c ∷ cs) [] = []
rejected before (c ∷ cs) (e ∷ es) = by_call (λ d. refuses d before) c ++ rejected e.standing cs es

-- A record was taken in as often as it was handed back or rejected, and once more exactly if it stands. `same` is any test
-- that tells whether two whole records are equal.
pub record Balanced {R K1 K2 : Type 0} (same : R → R → Bool) (r : R) (trace : List (Request R K1 K2)) (log : List (Entry R)) : Type 0 where
  pub stands : Among r (stood [] log) → times (same r) (taken_in trace log) ≡ times (same r) (handed_back trace log) + times (same r) (rejected [] trace log) + 1
  pub gone : (Among r (stood [] log) → ⊥) → times (same r) (taken_in trace log) ≡ times (same r) (handed_back trace log) + times (same r) (rejected [] trace log)

module _ {R K1 K2 : Type 0} (kind : Kind R K1 K2) where
  -- a listed record has an equal key 1 or an equal key 2
  abbrev pub Shares : R → List R → Type 0
  Shares r xs = (x : R) × Among x xs × ((kind.same1 (kind.key1 r) (kind.key1 x) ≡ true) ⊎ (kind.same2 (kind.key2 r) (kind.key2 x) ≡ true))

  -- What holds of one run that began with no records. There is an entry for each request. After each of them (the first n,
  -- for every n) each record is balanced: none is lost, and none appears from nowhere. An insert is refused as a duplicate
  -- exactly when a standing record has an equal key 1 or key 2.
  pub record Kept (trace : List (Request R K1 K2)) (log : List (Entry R)) : Type 0 where
    pub each : length log ≡ length trace
    pub balanced : (same : R → R → Bool) → ((a b : R) → Decides (same a b) (a ≡ b)) → (r : R) (n : ℕ) → Balanced same r (take n trace) (take n log)
    pub duplicates : (n : ℕ) (r : R) (e : Entry R) → slice_get trace n ≡ Some (made (insert r)) → slice_get log n ≡ Some e → Decides (e.answer.refusal == 1) (Shares r (stood [] (take n log)))

-- the crossed kind: the same record, with its two keys exchanged
abbrev pub crossed : {R K1 K2 : Type 0} → Kind R K1 K2 → Kind (Crossed R) K2 K1
crossed kind = record { key1 = λ x. kind.key2 x.inner; key2 = λ x. kind.key1 x.inner; same1 = kind.same2; same2 = kind.same1 }

abbrev pub over : {R : Type 0} → R → Crossed R
over r = record { inner = r }

abbrev pub inside : {R : Type 0} → (R → Bool) → Crossed R → Bool
inside q x = q x.inner

-- the crossed call: its record is crossed, its keys are exchanged, and its predicate judges the record inside
abbrev pub cross_call : {R K1 K2 : Type 0} → Call R K1 K2 → Call (Crossed R) K2 K1
cross_call (insert r) = insert (over r)
cross_call (overwrite r) = overwrite (over r)
cross_call (replace r) = replace (over r)
cross_call (look1 k) = look2 k
cross_call (look2 k) = look1 k
cross_call (look12 k l) = look12 l k
cross_call (remove1 k) = remove2 k
cross_call (remove2 k) = remove1 k
cross_call (remove12 k l) = remove12 l k
cross_call (retain p) = retain (inside p)
cross_call count = count

-- a crossed request: a shrink brings the same scratch
abbrev pub cross : {R K1 K2 : Type 0} → Request R K1 K2 → Request (Crossed R) K2 K1
cross (made c) = made (cross_call c)
cross (shrink ws) = shrink ws

-- the same records, each as often, where a crossed record is read as the one inside
abbrev pub SameInside : {R : Type 0} → List R → List (Crossed R) → Type 0
SameInside {R} xs ys = (q : R → Bool) → times q xs ≡ times (inside q) ys

-- alike but for slot numbers, what a scratch holds, and the order of records
pub record Alike {R : Type 0} (a : Entry R) (b : Entry (Crossed R)) : Type 0 where
  pub refusals : a.answer.refusal ≡ b.answer.refusal
  pub counts : a.answer.count ≡ b.answer.count
  pub records : SameInside a.answer.records b.answer.records
  pub scratches : length a.scratch ≡ length b.scratch
  pub standing : SameInside a.standing b.standing

pub record AllAlike {R : Type 0} (log : List (Entry R)) (mirror : List (Entry (Crossed R))) : Type 0 where
  pub lengths : length log ≡ length mirror
  pub entries : (n : ℕ) (a : Entry R) (b : Entry (Crossed R)) → slice_get log n ≡ Some a → slice_get mirror n ≡ Some b → Alike a b

-- What holds of one trace run three times, each time on a map of its own that may hold c records: twice as it stands, and
-- once crossed on a map of the crossed kind.
pub record Agreed {R K1 K2 : Type 0} (kind : Kind R K1 K2) (c : ℕ) (trace : List (Request R K1 K2)) (first second : List (Entry R)) (mirror : List (Entry (Crossed R))) : Type 0 where
  -- every answer is the reference model's, and so are the scratch and what stands after it
  pub model : first ≡ run kind (fresh c) trace
  pub crossed_model : mirror ≡ run (crossed kind) (fresh c) (map cross trace)
  -- whatever memory, tables and hashes: all alike, down to slot numbers, what a scratch holds, and the order of
  -- records
  pub same : second ≡ first
  -- with the keys crossed: alike but for slot numbers, what a scratch holds, and the order of records
  pub alike : AllAlike first mirror
  -- in each of them nothing is lost, and duplicates are refused exactly when they are due
  pub kept : Kept kind trace first
  pub kept_second : Kept kind trace second
  pub kept_crossed : Kept (crossed kind) (map cross trace) mirror
