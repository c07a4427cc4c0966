-- What the chain counts is what `times` counts.
use Rattle.std.proofs.Common.{rules, ◌≡◌, sym, ◌∙◌, count_by}
use Rattle.agree.specs.Likeness.{same_pair}
use Rattle.agree.proofs.Counted.{times_count}
use Rattle.agree.proofs.comparing.times.Goals as goal

pub returns : goal.returns
returns c =
    let counted : c.count.result ≡ count_by (same_pair c.args.pair.now) c.args.xs.now = search rules in
    counted ∙ sym (times_count (same_pair c.args.pair.now) c.args.xs.now)
