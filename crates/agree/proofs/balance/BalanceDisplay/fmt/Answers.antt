-- The pieces in their order, with what the verdict and the length are.
use Rattle.std.proofs.Common.{rules, ◌≡◌, length, vec_items}
use Rattle.agree.proofs.balance.BalanceDisplay.fmt.Goals as goal

pub returns-clause-writes : goal.returns-clause-writes
returns-clause-writes g c =
    let said = c.verdict-verdict.ensures in
    let long : length (vec_items c.self.inside.standing) ≡ c.len-standing.result = search rules in
    rw (← said, ← c.self.view_is, long) (search rules)
