-- What a call and its answer are shown as.
use Rattle.std.specs.Prelude.{ℕ, List, ◌++◌, Ok, Err, Some, None, codes, decimal, Option, Result}
use Rattle.model.specs.declared.Duplicates.{Duplicates}
use Rattle.model.specs.declared.Duplicates.TheVariants as duplicates
use Rattle.model.specs.declared.MapRefusal.{MapRefusal}
use Rattle.model.specs.declared.MapRefusal.TheVariants.{Duplicate, Full, NotThere}
use Rattle.model.specs.declared.Overwritten.{Overwritten}
use Rattle.worked_cases.specs.Pairs.{pair_text}
use Rattle.worked_cases.specs.declared.Pair.{Pair}
use Rattle.cases.specs.declared.call.Call.{Call}
use Rattle.cases.specs.declared.call.Call.TheVariants.{Insert, Overwrite}

abbrev pub call_text : Call Pair → List ℕ
call_text (Insert p) = codes "insert " ++ pair_text p
call_text (Overwrite p) = codes "overwrite " ++ pair_text p

-- a slot, and what was displaced
abbrev pub placed_text : ℕ → Option (Duplicates Pair) → List ℕ
placed_text i None = codes "slot " ++ decimal i
placed_text i (Some (duplicates.One a)) = codes "slot " ++ (decimal i ++ (codes ", displaced " ++ pair_text a))
placed_text i (Some (duplicates.Two a b)) = codes "slot " ++ (decimal i ++ (codes ", displaced " ++ (pair_text a ++ (codes ", " ++ pair_text b))))

abbrev pub sharing_text : Duplicates Pair → List ℕ
sharing_text (duplicates.One a) = codes "refused 1, shares a key with " ++ pair_text a
sharing_text (duplicates.Two a b) = codes "refused 1, shares a key with " ++ (pair_text a ++ (codes ", " ++ pair_text b))

-- a refusal, with its number
abbrev pub refused_text : MapRefusal Pair → List ℕ
refused_text (Duplicate d) = sharing_text d.duplicates
refused_text Full = codes "refused 2, full"
refused_text NotThere = codes "refused 3, not there"

abbrev pub answer_text : Result (Overwritten Pair) (MapRefusal Pair) → List ℕ
answer_text (Ok o) = placed_text o.slot o.displaced
answer_text (Err e) = refused_text e
