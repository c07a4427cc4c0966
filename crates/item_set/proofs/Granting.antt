-- What the answer of a set tells of its state.
use Rattle.std.proofs.Common.{◌≡◌, ℕ, ◌<◌, ◌≤◌, ◌⊎◌, Some, Option, sym, ap, ◌∙◌, inl, inr}
use Rattle.std.proofs.lemmas.Bool.{cases_lt, le-leb, lt-leb}
use Rattle.base.proofs.Options.{none_some, some_same}
use Rattle.item_set.specs.Slots.{at, held}
use Rattle.item_set.specs.States.{State, standing, taken, takes, freed, exchanged, growing, freeing, removing, swapping, replacing}

module _ {R : Type 0} where
  -- a slot was taken: there was room
  pub growing_some : (s t : State R) (v : R) (n : ℕ) → ◌≡◌ {A = Option ℕ × State R} (Some n, t) (growing s v) → (standing s < s.capacity) × (n ≡ takes s) × (t ≡ taken s v)
  growing_some s t v n e = go (cases_lt (standing s) s.capacity)
    where
      go : (standing s < s.capacity) ⊎ (s.capacity ≤ standing s) → (standing s < s.capacity) × (n ≡ takes s) × (t ≡ taken s v)
      go (inl l) = let q = rw (lt-leb s.capacity (standing s) l) at e in (l, some_same (ap (λ p. p.0) q), ap (λ p. p.1) q)
      go (inr l) = let q = rw (le-leb s.capacity (standing s) l) at e in absurd (none_some (sym (ap (λ p. p.0) q)))

  -- a record was taken out
  pub removing_held : (s t : State R) (i : ℕ) (x : R) (o : Option R) → held (at s.slots i) ≡ Some x → ◌≡◌ {A = Option R × State R} (o, t) (removing s i) → (o ≡ Some x) × (t ≡ freed s i)
  removing_held s t i x o h e = let q = e ∙ ap (freeing s i) h in (ap (λ p. p.0) q, ap (λ p. p.1) q)

  -- a record was exchanged
  pub replacing_held : (s t : State R) (i : ℕ) (x v : R) (o : Option R) → held (at s.slots i) ≡ Some x → ◌≡◌ {A = Option R × State R} (o, t) (replacing s i v) → (o ≡ Some x) × (t ≡ exchanged s i v)
  replacing_held s t i x v o h e = let q = e ∙ ap (swapping s i v) h in (ap (λ p. p.0) q, ap (λ p. p.1) q)
