use Rattle.std.proofs.Common.{ap, ◌∙◌}
use Rattle.item.specs.Kinds.{kind_of}
use Rattle.model.specs.Answers.{goes}
use Rattle.model.specs.Model.{has1, has2}
use Rattle.model.specs.Told.{overwritten}
use Rattle.indexed_items.proofs.Answering.{overwritten_committed}
use Rattle.indexed_items.proofs.Overwriting.{overwriting_commits}
use Rattle.indexed_items.proofs.IndexedItems.insert_overwrite.Goals as goal

pub returns : goal.returns
returns g c =
    let kind = kind_of g.T.BiHashItem g.T.K1.Key g.T.K2.Key in
    let value = c.args.value in
    ap (λ x. goes c.commit_insert_overwrite.new.self.records (overwritten x)) c.ok_or.ensures.value
    ∙ ap (goes c.commit_insert_overwrite.new.self.records) (overwritten_committed c.commit_insert_overwrite.result) ∙ c.commit_insert_overwrite.ensures
    ∙ overwriting_commits (has1 kind (kind.key1 value)) (has2 kind (kind.key2 value)) value c.args.self.now.records c.prepare_insert_overwrite-prepared.ensures.well.linked
