use Rattle.std.proofs.Common.{◌-◌, ap, arith}
use Rattle.hash_table.specs.Cells.{pairs_of}
use Rattle.hash_table.specs.Pairs.{candidate}
use Rattle.hash_table.proofs.Walking.{here, next, past, ends}
use Rattle.hash_table.proofs.linear.candidate_in.Goals as goal
use Rattle.hash_table.proofs.linear.candidate_in.Goals.{then-cell-hash+else-seen-k, else-cell-hash}

pub loop-i-init : goal.loop-i-init
loop-i-init g c = (
  omega arith,
  ap (candidate (pairs_of (g.M.Memory.items c.args.memory.now)) c.args.hash) (omega arith),
)

pub returns-then-seen-k : goal.returns-then-seen-k
returns-then-seen-k g c =
    here
    (g.M.Memory.items c.args.memory.now)
    c.loop-i.i
    c.args.hash
    c.args.k
    (c.args.k - c.loop-i.seen)
    c.loop-i.invariant.1
    c.at-cell.result
    (omega arith)
    c.at-cell.ensures
    c.if-cell-hash.true
    (omega arith)

pub loop-i-preserved : goal.loop-i-preserved
loop-i-preserved g c =
    let xs = g.M.Memory.items c.args.memory.now in
    let i = c.loop-i.i in
    let h = c.args.hash in
    let k = c.args.k in
    let left = k - c.loop-i.seen in
    let left_After = k - c.if-cell-hash.seen in
    elim
    c.if-cell-hash.branch [
      | then-cell-hash+else-seen-k w ↦ (
        omega (arith, w.seen-is),
        next xs i h k left c.loop-i.invariant.1 c.at-cell.result (omega arith) c.at-cell.ensures left_After w.if-cell-hash.true (omega (arith, w.seen-is)),
      )
      | else-cell-hash w ↦ (
        omega (arith, w.seen-is),
        past xs i h k left c.loop-i.invariant.1 c.at-cell.result (omega arith) c.at-cell.ensures left_After w.if-cell-hash.false (omega (arith, w.seen-is)),
      )
    ]

pub returns : goal.returns
returns g c =
    ends (g.M.Memory.items c.args.memory.now) c.loop-i.i c.args.hash c.args.k (c.args.k - c.loop-i.seen) c.loop-i.invariant.1 (omega arith)
