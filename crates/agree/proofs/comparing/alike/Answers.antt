-- The derived comparison decides whether the entries are the same.
use Rattle.std.proofs.Common.{rules, ◌≡◌}
use Rattle.std.proofs.lemmas.Bool.Decides.{Decides-at}
use Rattle.agree.proofs.Equality.{same_told, told_decides}
use Rattle.agree.proofs.comparing.alike.Goals as goal

pub returns : goal.returns
returns c =
    let a = c.args.first.now in
    let b = c.args.second.now in
    let tested : c.eq.result ≡ same_told a b = search rules in
    Decides-at c.eq.result (same_told a b) tested (told_decides a b)
