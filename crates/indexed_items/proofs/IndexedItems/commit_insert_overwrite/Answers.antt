use Rattle.std.proofs.Common.{ap}
use Rattle.item.specs.Kinds.{kind_of}
use Rattle.model.specs.Model.{has1, has2}
use Rattle.indexed_items.proofs.Committing.{apart_by}
use Rattle.indexed_items.proofs.IndexedItems.commit_insert_overwrite.Goals as goal

pub insert_with_hashes-requires-clause-apart : goal.insert_with_hashes-requires-clause-apart
insert_with_hashes-requires-clause-apart g c =
    let kind = kind_of g.T.BiHashItem g.T.K1.Key g.T.K2.Key in
    let value = c.args.value in
    let e = c.requires.prepared in
    apart_by (has1 kind (kind.key1 value)) (has2 kind (kind.key2 value)) c.args.self.now.records c.displace-displaced.new.self.records (c.requires.well.once1 _) (c.requires.well.once2 _)
    (c.displace-displaced.ensures.state value (ap (λ x. x.first) e) (ap (λ x. x.second) e))
