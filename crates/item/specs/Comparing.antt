-- What it means that two records have the same keys.
use Rattle.std.specs.Prelude.{Bool, ◌&&◌}
use Rattle.item.specs.Kinds.{Kind}

-- both keys of one record equal those of the other
abbrev pub same_keys : {R K1 K2 : Type 0} → Kind R K1 K2 → R → R → Bool
same_keys kind a b = kind.same1 (kind.key1 a) (kind.key1 b) && kind.same2 (kind.key2 a) (kind.key2 b)
