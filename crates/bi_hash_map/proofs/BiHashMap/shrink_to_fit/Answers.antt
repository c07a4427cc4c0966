use Rattle.std.proofs.Common.{ap}
use Rattle.bi_hash_map.proofs.Shrinking.{shrunk_some}
use Rattle.bi_hash_map.proofs.BiHashMap.shrink_to_fit.Goals as goal

pub returns : goal.returns
returns g c =
    rw (← c.self.view_is)
    (shrunk_some c.self.inside.items.records c.compact.new.self.records c.args.scratch.now c.compact.new.scratch c.in_ok-ok_or.field-0 c.len.result
    (rw c.in_ok-ok_or.ensures.ok_part at c.compact.ensures) (ap (λ x. x.answer.count) c.len.ensures))
