use Rattle.std.proofs.Common.{rules, ◌∙◌, ap, map}
use Rattle.hash_table.specs.Pairs.{moved}
use Rattle.tables_beside.proofs.Listed.{remapping_in_place}
use Rattle.tables_beside.proofs.list.List.remap.Goals as goal

pub returns : goal.returns
returns c =
    let e = c.move_all.ensures ∙ ap (map (moved c.args.places.now)) c.as_mut_slice.ensures.value in
    let none = rw (← c.self.view_is) at c.if-any_homeless.ensures in
    rw (← c.self.view_is)
    (remapping_in_place c.args.places.now c.self.inside.pairs.items c.move_all.new.pairs c.self.inside.pairs.len e (search rules) none)
