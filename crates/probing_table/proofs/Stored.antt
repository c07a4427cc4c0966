-- What a memory holds after a call whose answer is not looked at.
use Rattle.std.proofs.Common.{◌≡◌, ℕ, ◌+◌, ◌<◌, List, [], ◌∷◌, ◌++◌, length, replicate, Ok, Err, Result, ap, ◌∙◌, arith}
use Rattle.std.proofs.lemmas.List.{length-replicate, replicate_more}
use Rattle.memory.specs.declared.StorageRefusal.{StorageRefusal}
use Rattle.memory.specs.Refusals.{code}
use Rattle.memory.specs.Stored.{pushing}
use Rattle.memory.proofs.Storing.{push_cases}

module _ {X : Type 0} where
  -- one more of the same, where there is room
  pub pushed : {U : Type 0} (r : Result U StorageRefusal) (room i : ℕ) (xs ys : List X) (x : X) → ◌≡◌ {A = ℕ × List X} (code r, ys) (pushing room xs x)
      → xs ≡ replicate i x → i < room → ys ≡ replicate (i + 1) x
  pushed {U} (Ok u) room i xs ys x e is l = (push_cases (Ok u) room xs ys x e).1 ∙ ap (λ t. t ++ x ∷ []) is ∙ replicate_more i x
  pushed {U} (Err d) room i xs ys x e is l =
      let p : (length xs ≡ room) × (ys ≡ xs) = push_cases {U = U} (Err d) room xs ys x e in
      let n = ap length is ∙ length-replicate i x in
      absurd (omega arith)
