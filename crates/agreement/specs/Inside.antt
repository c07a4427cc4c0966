-- What a predicate says of a crossed record: what it says of the record inside.
use Rattle.std.specs.Prelude.{Bool}
use Rattle.item.specs.declared.crossed.Crossed.{Crossed}
use Rattle.item.specs.declared.predicate.Inside.{Inside}

abbrev pub keeps_inside : {T P : Type 0} → (P → T → Bool) → Inside P → Crossed T → Bool
keeps_inside keeps p x = keeps p.predicate x.inner
