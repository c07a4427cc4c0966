use Rattle.std.proofs.Common.{◌+◌, drop, sym, ap, ◌∙◌}
use Rattle.std.proofs.lemmas.List.{at_drop_more, at_drop_all}
use Rattle.item.specs.Kinds.{kind_of}
use Rattle.model.specs.Model.{step, insert}
use Rattle.field_service.specs.Read.{all_inserted}
use Rattle.field_service.proofs.insert_all.Goals as goal

pub loop-row-preserved : goal.loop-row-preserved
loop-row-preserved g c =
    let kind = kind_of g.T.BiHashItem g.T.K1.Key g.T.K2.Key in
    let before = c.loop-row.map in
    let row = c.row-item.result in
    let i = c.loop-row.row-index in
    let rows = c.args.rows.now in
    ap (λ t. all_inserted kind t (drop (i + 1) rows)) (ap (λ t. t.after) c.insert.ensures ∙ ap (λ r. (step kind before (insert r)).after) c.row-item.is)
    ∙ sym (at_drop_more (all_inserted kind before) rows i row c.loop-row-test.true) ∙ c.loop-row.invariant

pub returns : goal.returns
returns g c =
    let kind = kind_of g.T.BiHashItem g.T.K1.Key g.T.K2.Key in
    sym (at_drop_all (all_inserted kind c.loop-row.map) c.args.rows.now c.loop-row.row-index c.loop-row-test.false) ∙ c.loop-row.invariant
