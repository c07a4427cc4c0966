use Rattle.std.proofs.Common.{ap, ◌∙◌}
use Rattle.item.specs.Kinds.{kind_of}
use Rattle.model.specs.Model.{has1, has2, find}
use Rattle.model.proofs.Sharing.{shares_in_order}
use Rattle.indexed_items.proofs.IndexedItems.sharing.Goals as goal

pub returns : goal.returns
returns g c =
    let kind = kind_of g.T.BiHashItem g.T.K1.Key g.T.K2.Key in
    let value = c.args.value.now in
    let xs = c.args.self.now.records.slots in
    let well = c.find1.ensures.well in
    c.in_order.ensures
    ∙ shares_in_order (has1 kind (kind.key1 value)) (has2 kind (kind.key2 value)) xs (well.once1 _) (well.once2 _) _ _
    (c.find1.ensures.answer ∙ ap (λ k. find (has1 kind k) 0 xs) c.key1.ensures)
    (c.find2.ensures ∙ ap (λ k. find (has2 kind k) 0 xs) c.key2.ensures)
