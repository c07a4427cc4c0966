use Rattle.std.proofs.Common.{ap}
use Rattle.item.specs.Kinds.{kind_of}
use Rattle.item_set.specs.Slots.{at}
use Rattle.item_set.proofs.Granting.{replacing_held}
use Rattle.item_set.proofs.Holding.{occupied, occupied_within}
use Rattle.map_tables.specs.Due.{key_hash}
use Rattle.map_tables.proofs.Indexing.{indexed_exchanged}
use Rattle.model.proofs.Keeping.{well_exchanged}
use Rattle.indexed_items.proofs.Keeping.{sound_by}
use Rattle.indexed_items.proofs.IndexedItems.exchange.Goals as goal

pub invariant_of-self : goal.invariant_of-self
invariant_of-self g c =
    let kind = kind_of g.T.BiHashItem g.T.K1.Key g.T.K2.Key in
    let state = c.self.inside.tables.state in
    let before = c.self.inside.items in
    let f = c.args.found.now in
    let value = c.args.value in
    let s = c.self.invariant in
    let h = rw (← c.self.view_is) at c.requires.stands in
    let o = occupied (at before.slots f.slot) f.item h in
    let l = occupied_within before.slots f.slot f.item o in
    let swapped = replacing_held before c.replace.new.self f.slot f.item value _ h c.replace.ensures.step in
    sound_by g.T.BiHashItem g.T.K1.Key g.T.K2.Key g.P.Hasher.WordHash g.P.First.HashTable g.P.Second.HashTable
    c.replace.new.self _ c.self.inside.tables swapped.1
    (well_exchanged kind g.met.T.K1.Key.symmetric g.met.T.K1.Key.transitive g.met.T.K2.Key.symmetric g.met.T.K2.Key.transitive before f.slot f.item value l o c.requires.first c.requires.second s.well)
    (indexed_exchanged g.P.First.HashTable (key_hash g.P.Hasher.WordHash state g.T.K1.Key g.T.BiHashItem.first) before _ f.item value f.slot l o (ap (g.P.Hasher.WordHash.hashed state) (g.met.T.K1.Key.alike _ _ c.requires.first)) s.first)
    (indexed_exchanged g.P.Second.HashTable (key_hash g.P.Hasher.WordHash state g.T.K2.Key g.T.BiHashItem.second) before _ f.item value f.slot l o (ap (g.P.Hasher.WordHash.hashed state) (g.met.T.K2.Key.alike _ _ c.requires.second)) s.second)
