use Rattle.std.proofs.Common.{ℕ, List, Some, sym, ap, ◌∙◌}
use Rattle.hash_table.specs.Pairs.{remapping}
use Rattle.item.specs.Kinds.{kind_of}
use Rattle.item_set.specs.Compacting.{compacts}
use Rattle.item_set.proofs.Packing.{compacting_permuted}
use Rattle.map_tables.specs.Due.{key_hash}
use Rattle.map_tables.proofs.Moving.{indexed_packed}
use Rattle.model.proofs.Keeping.{well_packed}
use Rattle.indexed_items.proofs.Keeping.{sound_by}
use Rattle.indexed_items.proofs.IndexedItems.compact.Goals as goal

-- the slots moved, and both tables with them
pub invariant_of-self-in-Permuted : goal.invariant_of-self-in-Permuted
invariant_of-self-in-Permuted g c =
    let state = c.self.inside.tables.state in
    let before = c.self.inside.items in
    let ws = c.args.scratch.now in
    let s = c.self.invariant in
    let did = compacting_permuted before c.compact.new.self ws c.compact.new.scratch (ap (λ o. compacts (Some o) c.compact.new.self c.compact.new.scratch) (sym c.in-Permuted.is) ∙ c.in_ok-remap.ensures.step) in
    sound_by g.T.BiHashItem g.T.K1.Key g.T.K2.Key g.P.Hasher.WordHash g.P.First.HashTable g.P.Second.HashTable
    c.compact.new.self _ _ did.0
    (well_packed (kind_of g.T.BiHashItem g.T.K1.Key g.T.K2.Key) before s.well)
    (indexed_packed g.P.First.HashTable (key_hash g.P.Hasher.WordHash state g.T.K1.Key g.T.BiHashItem.first) before c.self.inside.tables.k1_to_item.items _ ws _
    s.well.linked s.first c.remap_indexes.ensures.room
    (c.remap_indexes.ensures.step ∙ ap (λ (vs : List ℕ). remapping vs (g.P.First.HashTable.pairs c.self.inside.tables.k1_to_item.items)) did.1))
    (indexed_packed g.P.Second.HashTable (key_hash g.P.Hasher.WordHash state g.T.K2.Key g.T.BiHashItem.second) before c.self.inside.tables.k2_to_item.items _ ws _
    s.well.linked s.second c.remap_indexes-in-Permuted.ensures.room
    (c.remap_indexes-in-Permuted.ensures.step ∙ ap (λ (vs : List ℕ). remapping vs (g.P.Second.HashTable.pairs c.self.inside.tables.k2_to_item.items)) did.1))
