-- Two codes of three letters each are the same exactly where each letter is the same, by its place.
use Rattle.std.proofs.Common.{◌≡◌, ℕ, ◌&&◌, List, [], ◌∷◌, length, arith, ◌==◌, slice_index_or}
use Rattle.std.proofs.Math.Bool.{and-true}
use Rattle.std.proofs.lemmas.Grind.{common_steps}
use lib.Pointwise.{pointwise}
use Rattle.kinds.specs.Currencies.{same_letters, same_by_place}
use Rattle.kinds.specs.declared.currency.Letters.{Letters}

lists : (xs ys : List ℕ) → length xs ≡ 3 → length ys ≡ 3
    → pointwise ◌==◌ xs ys ≡ (slice_index_or xs 0 0 == slice_index_or ys 0 0 && (slice_index_or xs 1 0 == slice_index_or ys 1 0 && slice_index_or xs 2 0 == slice_index_or ys 2 0))
lists (a ∷ b ∷ c ∷ []) (x ∷ y ∷ z ∷ []) p q = grind (arith, common_steps, and-true)
lists [] ys p q = absurd (omega (arith, p))
lists (a ∷ []) ys p q = absurd (omega (arith, p))
lists (a ∷ b ∷ []) ys p q = absurd (omega (arith, p))
lists (a ∷ b ∷ c ∷ _ ∷ _) ys p q = absurd (omega (arith, p))
lists (a ∷ b ∷ c ∷ []) [] p q = absurd (omega (arith, q))
lists (a ∷ b ∷ c ∷ []) (x ∷ []) p q = absurd (omega (arith, q))
lists (a ∷ b ∷ c ∷ []) (x ∷ y ∷ []) p q = absurd (omega (arith, q))
lists (a ∷ b ∷ c ∷ []) (x ∷ y ∷ z ∷ _ ∷ _) p q = absurd (omega (arith, q))

pub places : (a b : Letters) → length a.bytes ≡ 3 → length b.bytes ≡ 3 → same_letters a b ≡ same_by_place a b
places a b p q = lists a.bytes b.bytes p q
