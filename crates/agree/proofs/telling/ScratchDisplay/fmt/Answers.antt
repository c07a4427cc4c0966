-- The numbers as std writes them.
use Rattle.std.proofs.Common.{rules, []}
use Rattle.agree.proofs.Written.{items_written}
use Rattle.agree.proofs.telling.ScratchDisplay.fmt.Goals as goal

pub returns-clause-writes : goal.returns-clause-writes
returns-clause-writes g c =
    let said = rw (items_written [] c.args.self.now.0.now) at c.write.ensures.writes in
    search rules
