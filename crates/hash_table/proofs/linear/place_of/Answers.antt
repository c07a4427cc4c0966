use Rattle.std.proofs.Common.{◌≡◌, true, false, rules, tests}
use Rattle.std.proofs.lemmas.Iterator.{first_from_Range}
use Rattle.hash_table.specs.Cells.{pair_of, cell_at}
use Rattle.hash_table.specs.Pairs.{is_pair}
use Rattle.hash_table.proofs.Celled.{place_found}
use Rattle.hash_table.proofs.linear.place_of.Goals as goal

pub returns : goal.returns
returns g c =
    let xs = g.M.Memory.items c.args.memory.now in
    let h = c.args.hash in
    let s = c.args.slot in
    place_found h s xs c.len.result c.find.result c.len.ensures.count
    (first_from_Range _ _ _ _ (λ i. is_pair h s (pair_of (cell_at xs i)) ≡ true) (λ i. is_pair h s (pair_of (cell_at xs i)) ≡ false) c.find.ensures.ran (λ x q k. search (rules, tests)) (λ x q k. search (rules, tests)))
