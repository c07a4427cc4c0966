-- The entries of a run, and the records that are listed in them.
use Rattle.std.proofs.Common.{◌≡◌, ℕ, zero, suc, ◌+◌, ◌≤◌, Bool, true, false, List, [], ◌∷◌, length, take, Some, refl, ap, ◌∙◌, arith}
use Rattle.std.specs.List.{slice_get}
use Rattle.base.specs.Counting.{one, times}
use Rattle.base.proofs.Options.{none_some, some_same}
use Rattle.item.specs.Kinds.{Kind}
use Rattle.item_set.specs.Slots.{shown, anyone}
use Rattle.item_set.specs.States.{State}
use Rattle.traces.specs.Runs.{Request, respond, Entry, entered, run, left}
use Rattle.traces.specs.Laws.{stood, Among}

module _ {R : Type 0} (m : R → Bool) where
  nth_counted : (rs : List R) (i : ℕ) (x : R) → slice_get rs i ≡ Some x → m x ≡ true → 1 ≤ times m rs
  nth_counted [] i x e h = absurd (none_some e)
  nth_counted (r ∷ rs) zero x e h = omega (arith, ap one (ap m (some_same e) ∙ h))
  nth_counted (r ∷ rs) (suc i) x e h = omega (arith, nth_counted rs i x e h)

  -- a listed record that passes a test is counted
  pub among_counted : (rs : List R) (x : R) → Among x rs → m x ≡ true → 1 ≤ times m rs
  among_counted rs x a h = nth_counted rs a.0 x a.1 h

  -- and where one is counted, one is listed that passes
  abbrev pub Passing : List R → Type 0
  Passing rs = (x : R) × Among x rs × (m x ≡ true)

  passing_by : (r : R) (rs : List R) (t : Bool) → m r ≡ t → 1 ≤ one t + times m rs → (1 ≤ times m rs → Passing rs) → Passing (r ∷ rs)
  passing_by r rs true e h later = (r, (0, refl), e)
  passing_by r rs false e h later = let p = later (omega arith) in (p.0, (suc p.1.0, p.1.1), p.2)

  pub passing : (rs : List R) → 1 ≤ times m rs → Passing rs
  passing [] h = absurd (omega arith)
  passing (r ∷ rs) h = passing_by r rs (m r) refl h (passing rs)

module _ {R K1 K2 : Type 0} (kind : Kind R K1 K2) where
  pub length_run : (s : State R) (cs : List (Request R K1 K2)) → length (run kind s cs) ≡ length cs
  length_run s [] = refl
  length_run s (c ∷ cs) = ap suc (length_run (respond kind s c).step.after cs)

  -- the first entries are those of the first requests
  pub take_run : (n : ℕ) (s : State R) (cs : List (Request R K1 K2)) → take n (run kind s cs) ≡ run kind s (take n cs)
  take_run zero s cs = refl
  take_run (suc n) s [] = refl
  take_run (suc n) s (c ∷ cs) = ap (λ (es : List (Entry R)). entered (respond kind s c) ∷ es) (take_run n (respond kind s c).step.after cs)

  -- the last entry lists what stands in the state that is left
  pub stood_run : (s : State R) (cs : List (Request R K1 K2)) → stood (shown anyone s.slots) (run kind s cs) ≡ shown anyone (left kind s cs).slots
  stood_run s [] = refl
  stood_run s (c ∷ cs) = stood_run (respond kind s c).step.after cs

  -- an entry is that of its request, made on what the requests before it left
  pub nth_run : (s : State R) (cs : List (Request R K1 K2)) (n : ℕ) (c : Request R K1 K2) → slice_get cs n ≡ Some c → slice_get (run kind s cs) n ≡ Some (entered (respond kind (left kind s (take n cs)) c))
  nth_run s [] n c e = absurd (none_some e)
  nth_run s (d ∷ cs) zero c e = ap (λ (x : Request R K1 K2). Some (entered (respond kind s x))) (some_same e)
  nth_run s (d ∷ cs) (suc n) c e = nth_run (respond kind s d).step.after cs n c e
