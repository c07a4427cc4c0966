use Rattle.std.proofs.Common.{sym, ap, ◌∙◌}
use Rattle.item.specs.Kinds.{kind_of}
use Rattle.model.specs.Answers.{goes}
use Rattle.model.specs.Model.{has1, has2}
use Rattle.model.specs.Told.{shared, inserted}
use Rattle.model.proofs.Inserting.{none_share, inserting_shared}
use Rattle.indexed_items.proofs.Answering.{inserting_apart}
use Rattle.indexed_items.proofs.IndexedItems.insert.Goals as goal

-- a record shares a key
pub returns-in-Some : goal.returns-in-Some
returns-in-Some g c =
    let kind = kind_of g.T.BiHashItem g.T.K1.Key g.T.K2.Key in
    let value = c.args.value in
    inserting_shared (has1 kind (kind.key1 value)) (has2 kind (kind.key2 value)) value c.args.self.now.records c.in-Some.duplicates (sym (ap shared c.in-Some.is) ∙ c.sharing.ensures)

-- none does
pub insert_with_hashes-requires-clause-apart : goal.insert_with_hashes-requires-clause-apart
insert_with_hashes-requires-clause-apart g c =
    let kind = kind_of g.T.BiHashItem g.T.K1.Key g.T.K2.Key in
    let value = c.args.value in
    none_share (has1 kind (kind.key1 value)) (has2 kind (kind.key2 value)) value c.args.self.now.records (sym (ap shared c.in_default.is) ∙ c.sharing.ensures)

pub returns : goal.returns
returns g c =
    let kind = kind_of g.T.BiHashItem g.T.K1.Key g.T.K2.Key in
    let value = c.args.value in
    let p = has1 kind (kind.key1 value) in
    let q = has2 kind (kind.key2 value) in
    let before = c.args.self.now.records in
    let none = none_share p q value before (sym (ap shared c.in_default.is) ∙ c.sharing.ensures) in
    ap (λ x. goes c.insert_with_hashes.new.self.records (inserted x)) c.ok_or.ensures.value
    ∙ inserting_apart p q value before _ c.insert_with_hashes.result none c.insert_with_hashes.ensures
