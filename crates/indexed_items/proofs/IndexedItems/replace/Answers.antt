use Rattle.std.proofs.Common.{sym, ap, ◌∙◌}
use Rattle.item.specs.Kinds.{kind_of}
use Rattle.item_set.specs.Slots.{held}
use Rattle.model.specs.Model.{has1, has2, find}
use Rattle.model.proofs.Sharing.{tells}
use Rattle.indexed_items.proofs.Substituting.{has_second, substituting_none, substituting_both, substituting_first, substituting_second, substituting_two}
use Rattle.indexed_items.proofs.IndexedItems.replace.Goals.{in_default-via-in-None+in_default, in_default-via-in-Some-Some+else-found-other, in_default-via-in-Some+in_default}
use Rattle.indexed_items.proofs.IndexedItems.replace.Goals as goal

pub exchange-requires-clause-stands : goal.exchange-requires-clause-stands
exchange-requires-clause-stands g c =
    let kind = kind_of g.T.BiHashItem g.T.K1.Key g.T.K2.Key in
    let value = c.args.value in
    let slots = c.args.self.now.records.slots in
    let a = c.find1-first.ensures.answer ∙ ap (λ k. find (has1 kind k) 0 slots) c.key1.ensures in
    ap held (tells (has1 kind (kind.key1 value)) slots _ (sym c.in-Some-Some.is-0 ∙ a)).1

pub exchange-requires-clause-first : goal.exchange-requires-clause-first
exchange-requires-clause-first g c =
    let kind = kind_of g.T.BiHashItem g.T.K1.Key g.T.K2.Key in
    let value = c.args.value in
    let slots = c.args.self.now.records.slots in
    let a = c.find1-first.ensures.answer ∙ ap (λ k. find (has1 kind k) 0 slots) c.key1.ensures in
    (tells (has1 kind (kind.key1 value)) slots _ (sym c.in-Some-Some.is-0 ∙ a)).2

pub exchange-requires-clause-second : goal.exchange-requires-clause-second
exchange-requires-clause-second g c =
    let kind = kind_of g.T.BiHashItem g.T.K1.Key g.T.K2.Key in
    let value = c.args.value in
    let before = c.args.self.now.records in
    let a = c.find1-first.ensures.answer ∙ ap (λ k. find (has1 kind k) 0 before.slots) c.key1.ensures in
    let b = c.find2-second.ensures ∙ ap (λ k. find (has2 kind k) 0 before.slots) c.key2.ensures in
    has_second (has1 kind (kind.key1 value)) (has2 kind (kind.key2 value)) before c.in-Some-Some.found c.in-Some-Some.other c.if-found-other.true
    (sym c.in-Some-Some.is-0 ∙ a) (sym c.in-Some-Some.is-1 ∙ b)

pub returns-in-None-None : goal.returns-in-None-None
returns-in-None-None g c =
    let kind = kind_of g.T.BiHashItem g.T.K1.Key g.T.K2.Key in
    let value = c.args.value in
    let before = c.args.self.now.records in
    let a = c.find1-first.ensures.answer ∙ ap (λ k. find (has1 kind k) 0 before.slots) c.key1.ensures in
    let b = c.find2-second.ensures ∙ ap (λ k. find (has2 kind k) 0 before.slots) c.key2.ensures in
    substituting_none (has1 kind (kind.key1 value)) (has2 kind (kind.key2 value)) value before (sym c.in-None-None.is-0 ∙ a) (sym c.in-None-None.is-1 ∙ b)

pub returns-in-Some-Some : goal.returns-in-Some-Some
returns-in-Some-Some g c =
    let kind = kind_of g.T.BiHashItem g.T.K1.Key g.T.K2.Key in
    let value = c.args.value in
    let before = c.args.self.now.records in
    let well = c.find1-first.ensures.well in
    let a = c.find1-first.ensures.answer ∙ ap (λ k. find (has1 kind k) 0 before.slots) c.key1.ensures in
    let b = c.find2-second.ensures ∙ ap (λ k. find (has2 kind k) 0 before.slots) c.key2.ensures in
    substituting_both (has1 kind (kind.key1 value)) (has2 kind (kind.key2 value)) before c.in-Some-Some.found c.in-Some-Some.other c.if-found-other.true
    (sym c.in-Some-Some.is-0 ∙ a) (sym c.in-Some-Some.is-1 ∙ b) value c.exchange.new.self.records (well.once1 _) (well.once2 _) c.exchange.ensures.state

pub returns-in_default : goal.returns-in_default
returns-in_default g c =
    let kind = kind_of g.T.BiHashItem g.T.K1.Key g.T.K2.Key in
    let value = c.args.value in
    let p = has1 kind (kind.key1 value) in
    let q = has2 kind (kind.key2 value) in
    let before = c.args.self.now.records in
    let well = c.find1-first.ensures.well in
    let a = c.find1-first.ensures.answer ∙ ap (λ k. find (has1 kind k) 0 before.slots) c.key1.ensures in
    let b = c.find2-second.ensures ∙ ap (λ k. find (has2 kind k) 0 before.slots) c.key2.ensures in
    c.insert_overwrite.ensures ∙ elim c.in_default.branch [
      | in_default-via-in-None+in_default w ↦ substituting_second p q value before w.in_default.field-0-1 (sym w.in_default.is-0 ∙ a) (sym w.in_default.is-1 ∙ b)
      | in_default-via-in-Some-Some+else-found-other w ↦
          substituting_two p q value before (well.once1 _) (well.once2 _) w.in-Some-Some.found w.in-Some-Some.other w.if-found-other.false (sym w.in-Some-Some.is-0 ∙ a) (sym w.in-Some-Some.is-1 ∙ b)
      | in_default-via-in-Some+in_default w ↦ substituting_first p q value before w.in_default.field-0-0 (sym w.in_default.is-0 ∙ a) (sym w.in_default.is-1 ∙ b)
    ]
