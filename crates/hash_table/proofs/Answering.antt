-- What `remove` answers, by what it took out.
use Rattle.std.proofs.Common.{◌≡◌, ℕ, true, false, eqb, List, ◌∷◌, refl, ap, arith}
use Rattle.std.proofs.lemmas.Bool.{eq-eqb, ne_eqb, and_from}
use Rattle.base.specs.Counting.{one, times, Same}
use Rattle.hash_table.specs.Pairs.{is_pair, removing}

is_pair_same : (h s : ℕ) → is_pair h s (h, s) ≡ true
is_pair_same h s = and_from (eqb h h) (eqb s s) (eq-eqb h h refl) (eq-eqb s s refl)

pub removing_one : (ps : List (ℕ × ℕ)) (h s : ℕ) (qs : List (ℕ × ℕ)) → Same ps ((h, s) ∷ qs) → 0 ≡ removing ps h s
removing_one ps h s qs same =
    let a : times (is_pair h s) ps ≡ times (is_pair h s) ((h, s) ∷ qs) = same (is_pair h s) in
    let b = ap one (is_pair_same h s) in
    let t : eqb (times (is_pair h s) ps) 0 ≡ false = ne_eqb (times (is_pair h s) ps) 0 (λ z. omega arith) in
    rw t
