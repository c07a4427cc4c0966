-- Where the lists are as long, it is the chain that decides.
use Rattle.std.proofs.Common.{rules, tests, ◌≡◌, Bool, ◌&&◌, sym, ◌∙◌, ap}
use Rattle.std.proofs.lemmas.Bool.{eq-eqb}
use Rattle.std.proofs.lemmas.Iterator.{YieldsList-from_slice}
use Rattle.std.proofs.lemmas.Iterator.Search.{all_from_yields_List}
use Rattle.std.specs.List.{list_all}
use Rattle.agree.specs.Likeness.{as_often}
use Rattle.agree.proofs.comparing.same_pairs.Goals as goal

pub returns-then-xs-ys : goal.returns-then-xs-ys
returns-then-xs-ys c =
    let often = as_often c.args.xs.now c.args.ys.now in
    let every = list_all often c.args.xs.now in
    let told : c.all.result ≡ every =
    all_from_yields_List often _ _ c.all.result c.all.ensures.ran (YieldsList-from_slice c.args.xs.now cc) (λ x b q k. search (rules, tests))
    in
    told ∙ sym (ap (λ (b : Bool). b && every) (eq-eqb _ _ c.if-xs-ys.true))
