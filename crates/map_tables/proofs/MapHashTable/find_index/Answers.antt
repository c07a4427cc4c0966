use Rattle.std.proofs.Common.{sym, ap, ◌∙◌, arith}
use Rattle.model.specs.Model.{has}
use Rattle.map_tables.proofs.Searching.{passed_more, empty_fails, other_fails, found_nowhere, found_no_more, found_here}
use Rattle.item_set.specs.Slots.{at}
use Rattle.map_tables.proofs.MapHashTable.find_index.Goals as goal
use Rattle.map_tables.proofs.MapHashTable.find_index.Goals.{in-Some+else-equals, in_default}

-- the candidates end, and none of them has the key
pub returns-in_err-slot : goal.returns-in_err-slot
returns-in_err-slot g c s =
    let h = c.args.hasher.now in
    c.from_residual.ensures ∙ found_no_more g.S.Side.part g.S.K.Key.same (λ k. g.H.WordHash.hashed h (g.S.K.Key.words k)) (λ a b e. ap (g.H.WordHash.hashed h) (g.met.S.K.Key.alike a b e))
    c.args.key.now c.args.items.now.slots (g.A.HashTable.pairs c.args.self.now.items) c.compute_hash-hash.result c.loop-k.k
    s.indexed.pairs c.compute_hash-hash.ensures (sym (c.in_err-slot.was) ∙ c.candidate.ensures) c.loop-k.invariant

pub returns-then-equals : goal.returns-then-equals
returns-then-equals g c s =
    found_here (has g.S.Side.part g.S.K.Key.same c.args.key.now) c.args.items.now.slots c.in_ok-slot.slot c.in-Some.item _ _
    c.get.ensures c.in-Some.is (c.equals.ensures ∙ ap (g.S.K.Key.same c.args.key.now) c.part.ensures) c.if-equals.true (s.once c.args.key.now)

pub loop-k-preserved : goal.loop-k-preserved
loop-k-preserved g c =
    let q = has g.S.Side.part g.S.K.Key.same c.args.key.now in
    let xs = c.args.items.now.slots in
    passed_more q xs (g.A.HashTable.pairs c.args.self.now.items) c.compute_hash-hash.result c.loop-k.k c.in_ok-slot.slot
    c.loop-k.invariant (sym (c.in_ok-slot.was) ∙ c.candidate.ensures)
    (elim c.match-get.branch [
      | in-Some+else-equals w ↦ other_fails q (at xs c.in_ok-slot.slot) _ w.in-Some.item _ c.get.ensures w.in-Some.is (w.equals.ensures ∙ ap (g.S.K.Key.same c.args.key.now) w.part.ensures) w.if-equals.false
      | in_default w ↦ empty_fails q (at xs c.in_ok-slot.slot) _ c.get.ensures w.in_default.is
    ])

-- all candidates were looked at
pub returns : goal.returns
returns g c s =
    let h = c.args.hasher.now in
    found_nowhere g.S.Side.part g.S.K.Key.same (λ k. g.H.WordHash.hashed h (g.S.K.Key.words k)) (λ a b e. ap (g.H.WordHash.hashed h) (g.met.S.K.Key.alike a b e))
    c.args.key.now c.args.items.now.slots (g.A.HashTable.pairs c.args.self.now.items) c.compute_hash-hash.result c.loop-k.k
    s.indexed.pairs c.compute_hash-hash.ensures (omega (arith, c.len-k-end.ensures.count)) c.loop-k.invariant
