-- The totals that a balance is.
use Rattle.std.specs.Prelude.{vec_items}
use Rattle.agree.specs.Totals.{Totals}
use Rattle.agree.specs.declared.balance.Balance.TheInside.{Inside}

abbrev pub totals_of : Inside → Totals
totals_of b = record { taken = b.taken; handed = b.handed; rejected = b.rejected; standing = vec_items b.standing }
