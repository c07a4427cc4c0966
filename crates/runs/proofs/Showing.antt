-- The standing records, slot after slot.
use Rattle.std.proofs.Common.{◌≡◌, ℕ, zero, suc, ◌+◌, List, ◌∷◌, length, drop, Option, sym, refl, ap, ◌∙◌, arith}
use Rattle.std.proofs.lemmas.List.{drop_more, drop_all}
use Rattle.std.specs.List.{filter_map, range_with_len}
use Rattle.base.specs.Counting.{sentinel}
use Rattle.item_set.specs.declared.slot.ItemSlot.{ItemSlot}
use Rattle.item_set.specs.declared.slot.ItemSlot.TheVariants.{Occupied, Vacant}
use Rattle.item_set.specs.Slots.{anyone, at, held, shown}

module _ {R : Type 0} where
  shown_first : (h : ℕ → Option R) (i : ℕ) (rest : List ℕ) (x : ItemSlot R) (xs : List (ItemSlot R)) → h i ≡ held x → filter_map h rest ≡ shown anyone xs → filter_map h (i ∷ rest) ≡ shown anyone (x ∷ xs)
  shown_first h i rest (Occupied r) xs e k = rw e (ap (λ t. r ∷ t) k)
  shown_first h i rest (Vacant n) xs e k = rw e k

  -- the slots from a number on show what they hold
  pub shown_from : (xs : List (ItemSlot R)) (n i : ℕ) → length xs ≡ i + n → filter_map (λ j. held (at xs j)) (range_with_len i n) ≡ shown anyone (drop i xs)
  shown_from xs zero i e = sym (ap (shown anyone) (drop_all i xs (omega arith)))
  shown_from xs (suc n) i e =
      shown_first (λ j. held (at xs j)) i (range_with_len (i + 1) n) (at xs i) (drop (i + 1) xs) refl (shown_from xs n (i + 1) (omega arith))
      ∙ sym (ap (shown anyone) (drop_more xs i (Vacant sentinel) (omega arith)))
