-- What a search finds stands in its slot.
use Rattle.std.proofs.Common.{◌≡◌, Bool, Some, None, Option, ap}
use Rattle.item_set.specs.Slots.{held}
use Rattle.item_set.specs.States.{State}
use Rattle.model.specs.declared.Found.{Found}
use Rattle.model.specs.Model.{find}
use Rattle.model.proofs.Sharing.{Tells, tells}
use Rattle.indexed_items.specs.Overwriting.{Standing}

module _ {R : Type 0} (p : R → Bool) (s : State R) where
  by_tells : (o : Option (Found R)) → Tells p s.slots o → Standing s o
  by_tells None t = tt
  by_tells (Some f) t = ap held t.1

  pub standing_found : (o : Option (Found R)) → o ≡ find p 0 s.slots → Standing s o
  standing_found o e = by_tells o (tells p s.slots o e)
