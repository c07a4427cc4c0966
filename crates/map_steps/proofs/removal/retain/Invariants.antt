use Rattle.std.proofs.Common.{◌≡◌}
use Rattle.model.specs.Model.{retained}
use Rattle.map_steps.proofs.removal.retain.Given as goal

-- the slots so far are judged
abbrev pub invariant-loop-slot : goal.invariant-loop-slot
invariant-loop-slot g l = l.items.records ≡ retained (g.Q.Predicate.keeps l.predicate) l.initial.items.records l.slot
