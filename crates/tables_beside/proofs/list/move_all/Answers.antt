use Rattle.std.proofs.Common.{rules, ℕ, ◌∙◌, ap, set, get_or}
use Rattle.std.proofs.lemmas.List.Edits.{map_over_more}
use Rattle.hash_table.specs.Pairs.{moved}
use Rattle.tables_beside.proofs.list.move_all.Goals as goal

pub loop-pair-preserved : goal.loop-pair-preserved
loop-pair-preserved c =
    let x : ℕ × ℕ = get_or c.loop-pair.pairs c.loop-pair.pair-index (0, 0) in
    ap (λ s. set c.loop-pair.pairs c.loop-pair.pair-index (x.0, s)) c.new_place-pair.ensures
    ∙ map_over_more (moved c.args.places.now) c.args.pairs.now c.loop-pair.pairs c.loop-pair.pair-index x (search rules) c.loop-pair.invariant (search rules)
