-- The chain counts those that the law lists.
use Rattle.std.proofs.Common.{rules, ◌≡◌, not, sym, ◌∙◌, count_by}
use Rattle.agree.specs.Totals.{at_least}
use Rattle.agree.proofs.Counted.{count_failing}
use Rattle.agree.proofs.balance.rejects.Goals as goal

pub returns : goal.returns
returns c =
    let test = at_least c.args.predicate.now in
    let counted : c.count.result ≡ count_by (λ r. not (test r)) c.args.records.now = search rules in
    counted ∙ sym (count_failing test c.args.records.now)
