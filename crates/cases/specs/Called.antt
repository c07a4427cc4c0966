-- The model's call for a call of the program.
use Rattle.model.specs.Model as model
use Rattle.cases.specs.declared.call.Call.{Call}
use Rattle.cases.specs.declared.call.Call.TheVariants.{Insert, Overwrite}

abbrev pub called : {R K1 K2 : Type 0} → Call R → model.Call R K1 K2
called (Insert r) = model.insert r
called (Overwrite r) = model.overwrite r
