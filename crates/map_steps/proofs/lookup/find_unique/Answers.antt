use Rattle.std.proofs.Common.{rules}
use Rattle.item.specs.Kinds.{kind_of}
use Rattle.model.specs.Model.{has1, has2}
use Rattle.map_steps.proofs.Narrowing.{narrowed}
use Rattle.map_steps.proofs.lookup.find_unique.Goals as goal

pub returns : goal.returns
returns g c =
    let kind = kind_of g.T.BiHashItem g.T.K1.Key g.T.K2.Key in
    let well = c.find1.ensures.well in
    narrowed (has1 kind c.args.key1.now) (has2 kind c.args.key2.now) c.args.items.now.records.slots (well.once1 _) (well.once2 _) _
    (λ f b gives. search (rules)) c.find1.result c.filter.result c.find1.ensures.answer c.filter.ensures
