-- What the answers of a memory tell, for implementations (an answer is the one defined) and for callers (what it shows).
use Rattle.std.proofs.Common.{◌≡◌, ℕ, zero, suc, ◌<◌, ◌≤◌, List, [], ◌∷◌, ◌++◌, length, get_or, set, Result, arith, MatchResult, sym, ◌∙◌, Ok, Err}
use Rattle.std.proofs.lemmas.List.{get_or_past, get_or_default}
use Rattle.std.specs.Result.{result_unwrap_or}
use Rattle.memory.specs.declared.StorageRefusal.{StorageRefusal}
use Rattle.memory.specs.Refusals.{number, code, given}
use Rattle.memory.specs.Stored.{reading, writing, pushing}

-- no refusal has the number 0
pub refused : (e : StorageRefusal) → number e ≡ 0 → ⊥
refused e q = grind arith

module _ {X : Type 0} where
  -- implementations
  pub reading_at : (xs : List X) (i : ℕ) (x : X) → i < length xs → x ≡ get_or xs i x → ◌≡◌ {A = ℕ × List X} (0, x ∷ []) (reading xs i)
  reading_at [] i x l e = grind arith
  reading_at (y ∷ xs) zero x l e = grind arith
  reading_at (y ∷ xs) (suc i) x l e = grind (arith, reading_at xs i x)

  pub reading_past : (xs : List X) (i : ℕ) → length xs ≤ i → ◌≡◌ {A = ℕ × List X} (9, []) (reading xs i)
  reading_past [] i l = grind arith
  reading_past (y ∷ xs) zero l = grind arith
  reading_past (y ∷ xs) (suc i) l = grind (arith, reading_past xs i)

  -- callers
  pub read_cases : (r : Result X StorageRefusal) (xs : List X) (i : ℕ) → ◌≡◌ {A = ℕ × List X} (code r, given r) (reading xs i) → MatchResult r (λ x. (i < length xs) × (x ≡ get_or xs i x)) (λ e. length xs ≤ i)
  read_cases r [] i q = grind (arith, refused)
  read_cases r (y ∷ xs) zero q = grind (arith, refused)
  read_cases r (y ∷ xs) (suc i) q = grind (arith, read_cases r xs i q)

  -- what is read, or in the place of a refusal a given element
  pub read_or : (d : X) (r : Result X StorageRefusal) (xs : List X) (i : ℕ) → ◌≡◌ {A = ℕ × List X} (code r, given r) (reading xs i) → result_unwrap_or r d ≡ get_or xs i d
  read_or d (Ok x) xs i e = let found = read_cases (Ok x) xs i e in found.1 ∙ get_or_default xs i x d found.0
  read_or d (Err f) xs i e = sym (get_or_past xs i d (read_cases (Err f) xs i e))

  pub write_cases : {U : Type 0} (r : Result U StorageRefusal) (xs ys : List X) (i : ℕ) (x : X) → ◌≡◌ {A = ℕ × List X} (code r, ys) (writing xs i x) → MatchResult r (λ _. (i < length xs) × (ys ≡ set xs i x)) (λ _. (length xs ≤ i) × (ys ≡ xs))
  write_cases r xs ys i x q = grind (arith, refused)

  pub push_cases : {U : Type 0} (r : Result U StorageRefusal) (room : ℕ) (xs ys : List X) (x : X) → ◌≡◌ {A = ℕ × List X} (code r, ys) (pushing room xs x) → MatchResult r (λ _. (length xs ≡ room → ⊥) × (ys ≡ xs ++ x ∷ [])) (λ _. (length xs ≡ room) × (ys ≡ xs))
  push_cases r room xs ys x q = grind (arith, refused)
