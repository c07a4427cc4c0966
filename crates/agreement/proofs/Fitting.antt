-- Parts that have room for a number of records give a map that may hold as many.
use Rattle.std.proofs.Common.{◌≡◌, ℕ, ◌≤◌, min, ap, ◌∙◌, arith}
use Rattle.indexed_items.specs.Items.{least}
use Rattle.agreement.specs.Rooms.{common}

pub fits : (n room first second : ℕ) → n ≤ 4096 → n ≤ min room (min first second) → least n room first second ≡ n
fits n room first second most within = omega arith

pub common_of : (n wanted : ℕ) {a a' b b' c c' : ℕ} → n ≡ common wanted a b c → a ≡ a' → b ≡ b' → c ≡ c' → n ≡ common wanted a' b' c'
common_of n wanted {a} {a'} {b} {b'} {c} {c'} is p q r = is ∙ ap (λ x. common wanted x b c) p ∙ ap (λ x. common wanted a' x c) q ∙ ap (common wanted a' b') r

module _ (n wanted a b c : ℕ) (is : n ≡ common wanted a b c) where
  pub within_most : n ≤ 4096
  within_most = omega arith

  pub within_first : n ≤ a
  within_first = omega arith

  pub within_second : n ≤ b
  within_second = omega arith

  pub within_third : n ≤ c
  within_third = omega arith
