-- What the laws of its two key kinds say of a record kind.
use Rattle.std.proofs.Common.{◌≡◌, true}
use Rattle.item.specs.Kinds.{Kind}

-- equality of keys is an equivalence
pub record Lawful {R K1 K2 : Type 0} (kind : Kind R K1 K2) : Type 0 where
  pub refl1 : (a : K1) → kind.same1 a a ≡ true
  pub refl2 : (a : K2) → kind.same2 a a ≡ true
  pub sym1 : (a b : K1) → kind.same1 a b ≡ true → kind.same1 b a ≡ true
  pub sym2 : (a b : K2) → kind.same2 a b ≡ true → kind.same2 b a ≡ true
  pub trans1 : (a b c : K1) → kind.same1 a b ≡ true → kind.same1 b c ≡ true → kind.same1 a c ≡ true
  pub trans2 : (a b c : K2) → kind.same2 a b ≡ true → kind.same2 b c ≡ true → kind.same2 a c ≡ true
