-- What compacting a set comes to.
use Rattle.std.specs.Prelude.{ℕ, cond, List, ◌++◌, length, drop, Some, None, Option, ◌==◌, nat_lt}
use Rattle.item_set.specs.declared.remap.IndexRemap.{IndexRemap}
use Rattle.item_set.specs.declared.remap.IndexRemap.TheVariants.{Identity, Permuted}
use Rattle.item_set.specs.States.{State, standing, moves, packed}

-- how the slots moved, or none where the scratch is too short; the state afterwards; and the scratch
pub record Compacted (R : Type 0) : Type 0 where
  pub remap : Option IndexRemap
  pub after : State R
  pub scratch : List ℕ

abbrev pub compacts : {R : Type 0} → Option IndexRemap → State R → List ℕ → Compacted R
compacts o s ws = record { remap = o; after = s; scratch = ws }

-- the scratch once place i is the new slot of slot i, or the sentinel for a vacant one; later places stay
abbrev pub noted : {R : Type 0} → State R → List ℕ → List ℕ
noted s ws = moves 0 s.slots ++ drop (length s.slots) ws

abbrev pub compacting : {R : Type 0} → State R → List ℕ → Compacted R
compacting s ws =
    cond (standing s == length s.slots) (compacts (Some Identity) s ws)
    (cond (nat_lt (length ws) (length s.slots)) (compacts None s ws) (compacts (Some Permuted) (packed s) (noted s ws)))
