-- What the cells are while their slots are changed one by one, and what the pairs are in the end.
use Rattle.std.proofs.Common.{◌≡◌, ℕ, ◌+◌, ◌<◌, ◌≤◌, Bool, true, false, cond, ◌&&◌, eqb, List, [], ◌∷◌, ◌++◌, map, length, take, drop, set, sym, refl, ap, ◌∙◌, subst, arith}
use Rattle.std.proofs.lemmas.List.Edits.{map_over_more}
use Rattle.std.proofs.lemmas.List.{length-append, length-map, length-take, length-drop, get_or_default, take_all, drop_all, append-nil}
use Rattle.std.proofs.lemmas.List.Elements.{All-map, All-head, All-tail}
use Rattle.base.specs.Counting.{one, times}
use Rattle.hash_table.specs.Cells.{pair_of, pairs_of, empty_cell, cell_at, held, holding, AllHeld, cell_moved, moving}
use Rattle.hash_table.specs.Pairs.{new_slot, homeless, moved, remapping}
use Rattle.hash_table.specs.declared.index.HashedIndex.{HashedIndex}

-- the slots of the first i cells are changed
abbrev pub Moved : List ℕ → ℕ → List HashedIndex → List HashedIndex → Type 0
Moved places i xs ys = ys ≡ map (cell_moved places) (take i xs) ++ drop i xs

abbrev with_slot : HashedIndex → ℕ → HashedIndex
with_slot x s = record { hash = x.hash; slot = s; mark = x.mark }

module _ (places : List ℕ) (i : ℕ) (xs ys : List HashedIndex) (w : Moved places i xs ys) where
  pub moved_more : (zs : List HashedIndex) (x : HashedIndex) (s : ℕ) → i < length xs → x ≡ cell_at ys i → s ≡ new_slot places x.slot
      → zs ≡ set ys i (record { hash = x.hash; slot = s; mark = x.mark }) → Moved places (i + 1) xs zs
  moved_more zs x s l is is-s put =
      let long : length ys ≡ length xs = ap length w ∙ simp (length-append, length-map, length-take, length-drop) (omega arith) in
      put
      ∙ ap (λ t. set ys i (with_slot x t)) is-s
      ∙ map_over_more (cell_moved places) xs ys i x l w (is ∙ get_or_default ys i empty_cell x (omega arith))

  pub moved_all : length xs ≤ i → ys ≡ map (cell_moved places) xs
  moved_all l =
      let f = cell_moved places in
      w
      ∙ ap (λ zs. map f zs ++ drop i xs) (take_all i xs l)
      ∙ ap (λ zs. map f xs ++ zs) (drop_all i xs l)
      ∙ append-nil (map f xs)

-- where every cell holds a pair, a pair stands as often as in the cells
times_held : (q : ℕ × ℕ → Bool) (xs : List HashedIndex) → AllHeld xs → times (holding q) xs ≡ times q (pairs_of xs)
times_held q [] all = refl
times_held q (x ∷ xs) all =
    let a : held x ≡ true = All-head (λ c. held c ≡ true) x xs all in
    let b : one (holding q x) ≡ one (q (pair_of x)) = ap (λ t. one (t && q (pair_of x))) a in
    let r = times_held q xs (All-tail (λ c. held c ≡ true) x xs all) in
    omega arith

pairs_moved : (places : List ℕ) (xs : List HashedIndex) → pairs_of (map (cell_moved places) xs) ≡ map (moved places) (pairs_of xs)
pairs_moved places [] = refl
pairs_moved places (x ∷ xs) = ap (λ ps. moved places (pair_of x) ∷ ps) (pairs_moved places xs)

-- where the pairs that a table sees in its cells are those of the held ones, they go as the cells do
pub remapped_by : (view : List HashedIndex → List (ℕ × ℕ)) (Good : List HashedIndex → Type 0) (places : List ℕ) (code : ℕ) (xs ys : List HashedIndex)
    → times (holding (homeless places)) xs ≡ times (homeless places) (view xs) → view (map (cell_moved places) xs) ≡ map (moved places) (view xs)
    → Good xs → Good (map (cell_moved places) xs) → ◌≡◌ {A = ℕ × List HashedIndex} (code, ys) (moving places xs)
    → Good ys × ◌≡◌ {A = ℕ × List (ℕ × ℕ)} (code, view ys) (remapping places (view xs))
remapped_by view Good places code xs ys count move good good_moved step = by (eqb (times (holding (homeless places)) xs) 0) step (ap (λ n. eqb n 0) count)
  where
    by : (b : Bool) → ◌≡◌ {A = ℕ × List HashedIndex} (code, ys) (cond b (0, map (cell_moved places) xs) (11, xs)) → b ≡ eqb (times (homeless places) (view xs)) 0
        → Good ys × ◌≡◌ {A = ℕ × List (ℕ × ℕ)} (code, view ys) (remapping places (view xs))
    by true w t = (
      subst Good (sym (ap (λ p. p.1) w)) good_moved,
      ap (λ p. (p.0, view p.1)) w ∙ ap (λ ps. (0, ps)) move ∙ ap (λ b. cond b (0, map (moved places) (view xs)) (11, view xs)) t,
    )
    by false w t = (
      subst Good (sym (ap (λ p. p.1) w)) good,
      ap (λ p. (p.0, view p.1)) w ∙ ap (λ b. cond b (0, map (moved places) (view xs)) (11, view xs)) t,
    )

-- those of cells that are all held
pub remapped : (places : List ℕ) (code : ℕ) (xs ys : List HashedIndex) → AllHeld xs → ◌≡◌ {A = ℕ × List HashedIndex} (code, ys) (moving places xs)
    → AllHeld ys × ◌≡◌ {A = ℕ × List (ℕ × ℕ)} (code, pairs_of ys) (remapping places (pairs_of xs))
remapped places code xs ys all step =
    remapped_by pairs_of AllHeld places code xs ys (times_held (homeless places) xs all) (pairs_moved places xs) all (All-map (λ c. held c ≡ true) (cell_moved places) xs all) step
