-- A walk over a memory's cells for a candidate: at place i, `drop i` of the cells is ahead.
use Rattle.std.proofs.Common.{◌≡◌, ℕ, suc, ◌+◌, ◌<◌, ◌≤◌, cond, eqb, List, ◌∷◌, drop, length, Some, None, slice_get, sym, ap, ◌∙◌}
use Rattle.std.proofs.lemmas.Bool.{eq-eqb, ne_eqb}
use Rattle.std.proofs.lemmas.List.{at_drop_more, drop_all}
use Rattle.hash_table.specs.Cells.{pairs_of, empty_cell, cell_at}
use Rattle.hash_table.specs.Pairs.{slots_of, candidate}
use Rattle.hash_table.specs.declared.index.HashedIndex.{HashedIndex}

-- candidate k is ahead, as candidate j
abbrev pub Ahead : ℕ → ℕ → ℕ → ℕ → List HashedIndex → Type 0
Ahead h k j i xs = candidate (pairs_of (drop i xs)) h j ≡ candidate (pairs_of xs) h k

module _ (xs : List HashedIndex) (i h k j : ℕ) (w : Ahead h k j i xs) where
  -- where x was read
  module _ (x : HashedIndex) (l : i < length xs) (e : x ≡ cell_at xs i) where
    step : slots_of h (pairs_of (drop i xs)) ≡ cond (eqb x.hash h) (x.slot ∷ slots_of h (pairs_of (drop (i + 1) xs))) (slots_of h (pairs_of (drop (i + 1) xs)))
    step =
        at_drop_more (λ cs. slots_of h (pairs_of cs)) xs i empty_cell l
        ∙ ap (λ c. slots_of h (pairs_of (c ∷ drop (i + 1) xs))) (sym e)

    has : x.hash ≡ h → slots_of h (pairs_of (drop i xs)) ≡ x.slot ∷ slots_of h (pairs_of (drop (i + 1) xs))
    has s = let t = eq-eqb x.hash h s in step ∙ rw t

    pub here : x.hash ≡ h → j ≡ 0 → Some x.slot ≡ candidate (pairs_of xs) h k
    here s z = sym (ap (λ l. slice_get l 0) (has s)) ∙ sym (ap (candidate (pairs_of (drop i xs)) h) z) ∙ w

    pub next : (m : ℕ) → x.hash ≡ h → j ≡ suc m → Ahead h k m (i + 1) xs
    next m s z = sym (ap (λ l. slice_get l (suc m)) (has s)) ∙ sym (ap (candidate (pairs_of (drop i xs)) h) z) ∙ w

    pub past : (m : ℕ) → (x.hash ≡ h → ⊥) → j ≡ m → Ahead h k m (i + 1) xs
    past m s z =
        let t = ne_eqb x.hash h s in
        sym (ap (λ l. slice_get l m) (step ∙ rw t)) ∙ sym (ap (candidate (pairs_of (drop i xs)) h) z) ∙ w

  -- past the last place nothing is ahead
  pub ends : length xs ≤ i → None ≡ candidate (pairs_of xs) h k
  ends l = sym (ap (λ cs. candidate (pairs_of cs) h j) (drop_all i xs l)) ∙ w
