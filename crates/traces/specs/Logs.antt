-- What the events of a run tell: number and values for every case of an answer, and the records that stand.
use Rattle.std.specs.Prelude.{List, map, vec_items}
use Rattle.model.specs.Answers.{Answer, counted}
use Rattle.model.specs.Shrinking.{shrunk}
use Rattle.model.specs.Told.{inserted, overwritten, looked}
use Rattle.traces.specs.declared.Outcome.{Outcome}
use Rattle.traces.specs.declared.Outcome.TheVariants.{Inserted, Overwritten, Found, Counted, Shrunk}
use Rattle.traces.specs.declared.Event.{Event}
use Rattle.traces.specs.Runs.{Entry}

abbrev pub outcome_of : {T : Type 0} → Outcome T → Answer T
outcome_of (Inserted r) = inserted r
outcome_of (Overwritten r) = overwritten r
outcome_of (Found r) = looked r
outcome_of (Counted n) = counted n
outcome_of (Shrunk r) = shrunk r

abbrev pub entry_of : {T : Type 0} → Event T → Entry T
entry_of e = record { answer = outcome_of e.outcome; scratch = vec_items e.scratch; standing = vec_items e.standing }

abbrev pub log_of : {T : Type 0} → List (Event T) → List (Entry T)
log_of es = map entry_of es
