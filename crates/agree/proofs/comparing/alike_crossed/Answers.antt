-- The tests that the program makes decide whether the law holds.
use Rattle.std.proofs.Common.{rules, ◌≡◌}
use Rattle.std.proofs.lemmas.Bool.Decides.{Decides-at}
use Rattle.agree.proofs.Likely.{alike_test, alike_decides}
use Rattle.agree.proofs.comparing.alike_crossed.Goals as goal

pub returns-then-len : goal.returns-then-len
returns-then-len c =
    let a = c.args.first.now in
    let b = c.args.crossed.now in
    let tested : c.same_pairs-then-len.result ≡ alike_test a b = search rules in
    Decides-at c.same_pairs-then-len.result (alike_test a b) tested (alike_decides a b)

pub returns-else-len : goal.returns-else-len
returns-else-len c =
    let a = c.args.first.now in
    let b = c.args.crossed.now in
    let tested : c.if-same_pairs.value ≡ alike_test a b = search rules in
    Decides-at c.if-same_pairs.value (alike_test a b) tested (alike_decides a b)
