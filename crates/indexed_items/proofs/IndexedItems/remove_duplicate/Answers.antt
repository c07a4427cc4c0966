use Rattle.std.proofs.Common.{Some}
use Rattle.item.specs.Kinds.{kind_of}
use Rattle.item_set.specs.Slots.{at}
use Rattle.item_set.proofs.Granting.{removing_held}
use Rattle.item_set.proofs.Holding.{occupied, occupied_within}
use Rattle.map_tables.specs.Due.{key_hash}
use Rattle.map_tables.proofs.Indexing.{indexed_freed}
use Rattle.model.proofs.Keeping.{well_freed}
use Rattle.indexed_items.proofs.Keeping.{did, first_hash, not_missing, removing_some, second_hash, sound_by}
use Rattle.indexed_items.proofs.IndexedItems.remove_duplicate.Goals as goal

-- the record that stood in the slot has its pair in both tables
pair1 : (g : _) (c : goal.After-from_residual-in_err-ok g) → ⊥
pair1 g c =
    let state = c.self.inside.tables.state in
    let before = c.self.inside.items in
    let i = c.args.duplicate.index in
    let x = c.in_ok-removed.removed in
    let there = removing_some before c.remove.new.self i x c.in_ok-removed.ensures.step in
    not_missing c.remove_prehashed.result g.P.First.HashTable (key_hash g.P.Hasher.WordHash state g.T.K1.Key g.T.BiHashItem.first)
    before c.remove.new.self c.self.inside.tables.k1_to_item.items c.self.invariant.first
    x _ i c.in_ok-removed.ensures.step (first_hash g.T.BiHashItem g.T.K1.Key g.T.K2.Key g.P.Hasher.WordHash state x c.args.duplicate.hashes ((rw (← c.self.view_is) at c.requires) x there)) c.in_err-ok.ensures.value c.remove_prehashed.ensures.code

pub invariant_of-self-in_err-ok : goal.invariant_of-self-in_err-ok
invariant_of-self-in_err-ok g c = absurd (pair1 g c)

pub returns-in_err-ok-clause-step : goal.returns-in_err-ok-clause-step
returns-in_err-ok-clause-step g c = absurd (pair1 g c)

pair2 : (g : _) (c : goal.After-from_residual-in_err-ok-2 g) → ⊥
pair2 g c =
    let state = c.self.inside.tables.state in
    let before = c.self.inside.items in
    let i = c.args.duplicate.index in
    let x = c.in_ok-removed.removed in
    let there = removing_some before c.remove.new.self i x c.in_ok-removed.ensures.step in
    not_missing c.remove_prehashed-2.result g.P.Second.HashTable (key_hash g.P.Hasher.WordHash state g.T.K2.Key g.T.BiHashItem.second)
    before c.remove.new.self c.self.inside.tables.k2_to_item.items c.self.invariant.second
    x _ i c.in_ok-removed.ensures.step (second_hash g.T.BiHashItem g.T.K1.Key g.T.K2.Key g.P.Hasher.WordHash state x c.args.duplicate.hashes ((rw (← c.self.view_is) at c.requires) x there)) c.in_err-ok-2.ensures.value c.remove_prehashed-2.ensures.code

pub invariant_of-self-in_err-ok-2 : goal.invariant_of-self-in_err-ok-2
invariant_of-self-in_err-ok-2 g c = absurd (pair2 g c)

pub returns-in_err-ok-2-clause-step : goal.returns-in_err-ok-2-clause-step
returns-in_err-ok-2-clause-step g c = absurd (pair2 g c)

pub invariant_of-self-2 : goal.invariant_of-self-2
invariant_of-self-2 g c =
    let kind = kind_of g.T.BiHashItem g.T.K1.Key g.T.K2.Key in
    let state = c.self.inside.tables.state in
    let before = c.self.inside.items in
    let i = c.args.duplicate.index in
    let x = c.in_ok-removed.removed in
    let s = c.self.invariant in
    let there = removing_some before c.remove.new.self i x c.in_ok-removed.ensures.step in
    let e = (rw (← c.self.view_is) at c.requires) x there in
    let o = occupied (at before.slots i) x there in
    let l = occupied_within before.slots i x o in
    sound_by g.T.BiHashItem g.T.K1.Key g.T.K2.Key g.P.Hasher.WordHash g.P.First.HashTable g.P.Second.HashTable
    c.remove.new.self _ _ (removing_held before c.remove.new.self i x (Some x) there c.in_ok-removed.ensures.step).1 (well_freed kind before i x l o s.well)
    (indexed_freed g.P.First.HashTable (key_hash g.P.Hasher.WordHash state g.T.K1.Key g.T.BiHashItem.first) before c.self.inside.tables.k1_to_item.items c.remove_prehashed.new.self.items x _ i l o s.first (first_hash g.T.BiHashItem g.T.K1.Key g.T.K2.Key g.P.Hasher.WordHash state x c.args.duplicate.hashes e)
    c.remove_prehashed.ensures.room (did c.remove_prehashed.result _ _ _ c.in_ok-ok.ensures.value c.remove_prehashed.ensures.pairs))
    (indexed_freed g.P.Second.HashTable (key_hash g.P.Hasher.WordHash state g.T.K2.Key g.T.BiHashItem.second) before c.self.inside.tables.k2_to_item.items c.remove_prehashed-2.new.self.items x _ i l o s.second (second_hash g.T.BiHashItem g.T.K1.Key g.T.K2.Key g.P.Hasher.WordHash state x c.args.duplicate.hashes e)
    c.remove_prehashed-2.ensures.room (did c.remove_prehashed-2.result _ _ _ c.in_ok-ok-2.ensures.value c.remove_prehashed-2.ensures.pairs))
