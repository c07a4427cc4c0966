-- What the calls of a table leave.
use Rattle.std.proofs.Common.{◌≡◌, ℕ, ◌+◌, ◌-◌, ◌%◌, ◌<◌, List, ◌∷◌, map, length, set, sym, refl, ap, ◌∙◌, subst, mod-lt, arith}
use Rattle.std.proofs.lemmas.List.{length-map}
use Rattle.hash_table.specs.Cells.{cell_moved, moving}
use Rattle.hash_table.specs.Pairs.{homeless, moved, remapping}
use Rattle.hash_table.specs.declared.index.HashedIndex.{HashedIndex}
use Rattle.hash_table.specs.declared.index.Mark.TheVariants.{Occupied}
use Rattle.hash_table.proofs.Moving.{remapped_by}
use Rattle.base.specs.Counting.{one, Same}
use Rattle.probing_table.specs.Marks.{removed_cell}
use Rattle.probing_table.specs.Probed.{probed, LaidBut, Tidied, Sound, Free, Stands}
use Rattle.probing_table.proofs.Counting.{same_length}
use Rattle.probing_table.proofs.Rounds.{spot_lt}
use Rattle.probing_table.proofs.Listing.{times_probed, probed_moved}
use Rattle.probing_table.proofs.Writing.{laid_added, laid_removed, laid_moved, pairs_added, pairs_out}

abbrev pair_cell : ℕ → ℕ → HashedIndex
pair_cell h s = record { hash = h; slot = s; mark = Occupied }

-- n cells before, and n' after
module _ (n n' : ℕ) (xs : List HashedIndex) (count h s i : ℕ) where
  -- the pair is put at the first free place on its way
  pub added : (ys : List HashedIndex) → n' ≡ n → ys ≡ set xs i (pair_cell h s) → Free n xs h i → count < n - 1 → Sound n xs count
      → Sound n' ys (count + 1) × Same (probed n' ys) ((h, s) ∷ probed n xs)
  added ys e put free less ok =
      let c = pair_cell h s in
      let len = ok.0.0 in
      let lt_i : i < n = subst (λ z. z < n) (sym free.2) (spot_lt n (h % n) free.0 (mod-lt h (omega arith)) free.1) in
      let more : Same (probed n (set xs i c)) ((h, s) ∷ probed n xs) = pairs_added n xs i c len lt_i free.3 refl in
      let long = same_length (probed n (set xs i c)) ((h, s) ∷ probed n xs) more in
      subst
      (λ m. Sound m ys (count + 1) × Same (probed m ys) ((h, s) ∷ probed n xs))
      (sym e)
      (subst
      (λ l. Sound n l (count + 1) × Same (probed n l) ((h, s) ∷ probed n xs))
      (sym put)
      ((laid_added n xs i c len lt_i ok.0 free refl, omega (arith, ok.1), omega arith), more))

  -- the pair's cell is removed
  pub emptied : (ys : List HashedIndex) → n' ≡ n → ys ≡ set xs i removed_cell → Stands n xs h s i → Sound n xs count → LaidBut i n' ys
  emptied ys e put stands ok =
      subst (λ k. LaidBut i k ys) (sym e) (subst (λ l. LaidBut i n l) (sym put) (laid_removed n xs i removed_cell ok.0.0 stands.0 ok.0 refl refl))

  -- and the cells are tidied from there
  pub taken : (m count' : ℕ) (ys zs : List HashedIndex) → m ≡ n → n' ≡ m → ys ≡ set xs i removed_cell → Tidied m ys zs → Stands n xs h s i
      → count' ≡ count - 1 → Sound n xs count → Sound n' zs count' × Same (probed n xs) ((h, s) ∷ probed n' zs)
  taken m count' ys zs e e' put tidied (lt_i, has, is) less ok =
      let tidy : Tidied n (set xs i removed_cell) zs = subst (λ l. Tidied n l zs) put (subst (λ k. Tidied k ys zs) e tidied) in
      let out = pairs_out n xs i removed_cell ok.0.0 lt_i has refl in
      let same : Same (probed n xs) ((h, s) ∷ probed n zs) =
      λ q. let a = out q in let b = ap (λ p. one (q p)) is in let d = tidy.1 q in omega arith
      in
      let long = same_length (probed n xs) ((h, s) ∷ probed n zs) same in
      subst
      (λ k. Sound k zs count' × Same (probed n xs) ((h, s) ∷ probed k zs))
      (sym (e' ∙ e))
      ((tidy.0, omega (arith, ok.1), omega (arith, ok.2)), same)

-- the slots of all cells are changed, or nothing is
pub remapped : (places : List ℕ) (n n' code count : ℕ) (xs ys : List HashedIndex) → n' ≡ n → Sound n xs count → ◌≡◌ {A = ℕ × List HashedIndex} (code, ys) (moving places xs)
    → Sound n' ys count × ◌≡◌ {A = ℕ × List (ℕ × ℕ)} (code, probed n' ys) (remapping places (probed n xs))
remapped places n n' code count xs ys e ok step =
    let ps : probed n (map (cell_moved places) xs) ≡ map (moved places) (probed n xs) = probed_moved places n xs in
    let long = ap length ps ∙ length-map (probed n xs) (moved places) in
    subst
    (λ k. Sound k ys count × ◌≡◌ {A = ℕ × List (ℕ × ℕ)} (code, probed k ys) (remapping places (probed n xs)))
    (sym e)
    (remapped_by
    (probed n)
    (λ zs. Sound n zs count)
    places
    code
    xs
    ys
    (sym (times_probed n xs ok.0.0 (homeless places)))
    ps
    ok
    (laid_moved places n xs ok.0, omega (arith, ok.1), omega (arith, ok.2))
    step)
