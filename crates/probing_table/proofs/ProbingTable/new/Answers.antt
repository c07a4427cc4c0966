use Rattle.std.proofs.Common.{ℕ, ◌-◌, List, ◌≡◌}
use Rattle.hash_table.specs.Tables.{Table}
use Rattle.probing_table.proofs.Writing.{filled}
use Rattle.probing_table.proofs.ProbingTable.new.Goals as goal

pub invariant_of-result : goal.invariant_of-result
invariant_of-result g c = (filled (g.M.Memory.room c.args.memory) _ _ c.fill.ensures.room c.fill.ensures.items).0

-- a table by its two parts
by_parts : (ps qs : List (ℕ × ℕ)) (m n : ℕ) → ps ≡ qs → m ≡ n → ◌≡◌ {A = Table} (record { pairs = ps; room = m - 1 }) (record { pairs = qs; room = n - 1 })
by_parts ps qs m n e f = cc

pub returns : goal.returns
returns g c = by_parts _ _ _ _ (filled (g.M.Memory.room c.args.memory) _ _ c.fill.ensures.room c.fill.ensures.items).1 c.fill.ensures.room
