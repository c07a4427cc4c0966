use Rattle.std.proofs.Common.{sym, subst}
use Rattle.indexed_items.specs.Overwriting.{AllHashed}
use Rattle.indexed_items.proofs.Committing.{first_hashed, first_freed, second_hashed, second_freed, in_both}
use Rattle.indexed_items.proofs.IndexedItems.displace.Goals as goal

pub remove_prepared-first-requires : goal.remove_prepared-first-requires
remove_prepared-first-requires g c =
    first_hashed g.T.BiHashItem g.T.K1.Key g.T.K2.Key g.P.Hasher.WordHash c.args.self.now.hasher c.args.self.now.records c.requires.prepared.0 c.args.first c.requires.prepared.1

pub remove_prepared-second-requires : goal.remove_prepared-second-requires
remove_prepared-second-requires g c =
    let before = c.args.self.now in
    let v = c.requires.prepared.0 in
    let one = first_freed g.T.BiHashItem g.T.K1.Key g.T.K2.Key g.P.Hasher.WordHash before.hasher before.records v c.args.first _ _ c.requires.prepared.1 c.remove_prepared-first.ensures.step in
    let two = second_hashed g.T.BiHashItem g.T.K1.Key g.T.K2.Key g.P.Hasher.WordHash before.hasher before.records v c.args.second (c.requires.well.once2 _) c.requires.prepared.2 in
    subst (λ h. AllHashed g.T.BiHashItem g.T.K1.Key g.T.K2.Key g.P.Hasher.WordHash h c.remove_prepared-first.new.self.records c.args.second) (sym c.remove_prepared-first.ensures.hasher)
    (subst (λ s. AllHashed g.T.BiHashItem g.T.K1.Key g.T.K2.Key g.P.Hasher.WordHash before.hasher s c.args.second) (sym one.1) two)

pub returns-clause-answer : goal.returns-clause-answer
returns-clause-answer g c v e f =
    let before = c.args.self.now in
    let one = first_freed g.T.BiHashItem g.T.K1.Key g.T.K2.Key g.P.Hasher.WordHash before.hasher before.records v c.args.first _ _ e c.remove_prepared-first.ensures.step in
    let two = second_freed g.T.BiHashItem g.T.K1.Key g.T.K2.Key g.P.Hasher.WordHash before.hasher before.records v c.args.second _ _ _ (c.requires.well.once2 _) f one.1 c.remove_prepared-second.ensures.step in
    in_both c.remove_prepared-first.result c.remove_prepared-second.result one.0 two.0 c.in_turn.ensures

pub returns-clause-state : goal.returns-clause-state
returns-clause-state g c v e f =
    let before = c.args.self.now in
    let one = first_freed g.T.BiHashItem g.T.K1.Key g.T.K2.Key g.P.Hasher.WordHash before.hasher before.records v c.args.first _ _ e c.remove_prepared-first.ensures.step in
    let two = second_freed g.T.BiHashItem g.T.K1.Key g.T.K2.Key g.P.Hasher.WordHash before.hasher before.records v c.args.second _ _ _ (c.requires.well.once2 _) f one.1 c.remove_prepared-second.ensures.step in
    two.1
