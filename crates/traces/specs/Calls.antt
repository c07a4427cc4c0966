-- What the calls of a trace ask of the reference model.
use Rattle.std.specs.Prelude.{Bool, List, map, vec_items}
use Rattle.model.specs.Model.{insert, overwrite, replace, look1, look2, look12, remove1, remove2, remove12, retain, count}
use Rattle.traces.specs.declared.Call.{Call}
use Rattle.traces.specs.declared.Call.TheVariants.{Insert, Overwrite, Replace, Get1, Get2, GetUnique, Remove1, Remove2, RemoveUnique, Retain, Shrink, Len}
use Rattle.traces.specs.Runs.{Request, made, shrink}

-- `keeps` is what a predicate says of a record
module _ {T K1 K2 P : Type 0} (keeps : P → T → Bool) where
  abbrev pub request_of : Call T K1 K2 P → Request T K1 K2
  request_of (Insert r) = made (insert r)
  request_of (Overwrite r) = made (overwrite r)
  request_of (Replace r) = made (replace r)
  request_of (Get1 k) = made (look1 k)
  request_of (Get2 l) = made (look2 l)
  request_of (GetUnique k l) = made (look12 k l)
  request_of (Remove1 k) = made (remove1 k)
  request_of (Remove2 l) = made (remove2 l)
  request_of (RemoveUnique k l) = made (remove12 k l)
  request_of (Retain p) = made (retain (keeps p))
  request_of (Shrink ws) = shrink (vec_items ws)
  request_of Len = made count

  abbrev pub trace_of : List (Call T K1 K2 P) → List (Request T K1 K2)
  trace_of calls = map request_of calls
