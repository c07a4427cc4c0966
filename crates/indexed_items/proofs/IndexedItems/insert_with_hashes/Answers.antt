use Rattle.item.specs.Kinds.{kind_of}
use Rattle.item_set.proofs.Granting.{growing_some}
use Rattle.map_tables.specs.Due.{key_hash}
use Rattle.map_tables.proofs.Indexing.{indexed_taken}
use Rattle.model.proofs.Keeping.{well_taken}
use Rattle.indexed_items.proofs.Keeping.{did, first_hash, not_full, second_hash, sound_by}
use Rattle.indexed_items.proofs.IndexedItems.insert_with_hashes.Goals as goal

-- neither table is full
room1 : (g : _) (c : goal.After-from_residual-in_err-ok g) → ⊥
room1 g c =
    not_full c.insert_prehashed.result g.P.First.HashTable (key_hash g.P.Hasher.WordHash c.self.inside.tables.state g.T.K1.Key g.T.BiHashItem.first)
    c.self.inside.items c.insert.new.self c.self.inside.tables.k1_to_item.items c.self.invariant.first
    c.args.value c.in_ok-slot.slot c.in_ok-slot.ensures.step c.in_err-ok.ensures.value c.insert_prehashed.ensures.code

pub invariant_of-self-in_err-ok : goal.invariant_of-self-in_err-ok
invariant_of-self-in_err-ok g c = absurd (room1 g c)

pub returns-in_err-ok : goal.returns-in_err-ok
returns-in_err-ok g c = absurd (room1 g c)

room2 : (g : _) (c : goal.After-from_residual-in_err-ok-2 g) → ⊥
room2 g c =
    not_full c.insert_prehashed-2.result g.P.Second.HashTable (key_hash g.P.Hasher.WordHash c.self.inside.tables.state g.T.K2.Key g.T.BiHashItem.second)
    c.self.inside.items c.insert.new.self c.self.inside.tables.k2_to_item.items c.self.invariant.second
    c.args.value c.in_ok-slot.slot c.in_ok-slot.ensures.step c.in_err-ok-2.ensures.value c.insert_prehashed-2.ensures.code

pub invariant_of-self-in_err-ok-2 : goal.invariant_of-self-in_err-ok-2
invariant_of-self-in_err-ok-2 g c = absurd (room2 g c)

pub returns-in_err-ok-2 : goal.returns-in_err-ok-2
returns-in_err-ok-2 g c = absurd (room2 g c)

pub invariant_of-self-2 : goal.invariant_of-self-2
invariant_of-self-2 g c =
    let kind = kind_of g.T.BiHashItem g.T.K1.Key g.T.K2.Key in
    let value = c.args.value in
    let state = c.self.inside.tables.state in
    let slot = c.in_ok-slot.slot in
    let before = c.self.inside.items in
    let s = c.self.invariant in
    let e = rw (← c.self.view_is) at c.requires.hashes in
    let grown = growing_some before c.insert.new.self value slot c.in_ok-slot.ensures.step in
    sound_by g.T.BiHashItem g.T.K1.Key g.T.K2.Key g.P.Hasher.WordHash g.P.First.HashTable g.P.Second.HashTable
    c.insert.new.self _ _ grown.2
    (well_taken kind g.met.T.K1.Key.symmetric g.met.T.K1.Key.transitive g.met.T.K2.Key.symmetric g.met.T.K2.Key.transitive before value s.well grown.0 (rw (← c.self.view_is) at c.requires.apart))
    (indexed_taken g.P.First.HashTable (key_hash g.P.Hasher.WordHash state g.T.K1.Key g.T.BiHashItem.first) before _ _ value _ slot
    s.well.linked s.first (first_hash g.T.BiHashItem g.T.K1.Key g.T.K2.Key g.P.Hasher.WordHash state value c.args.hashes e) grown.1
    c.insert_prehashed.ensures.room (did c.insert_prehashed.result _ _ _ c.in_ok-ok.ensures.value c.insert_prehashed.ensures.pairs))
    (indexed_taken g.P.Second.HashTable (key_hash g.P.Hasher.WordHash state g.T.K2.Key g.T.BiHashItem.second) before _ _ value _ slot
    s.well.linked s.second (second_hash g.T.BiHashItem g.T.K1.Key g.T.K2.Key g.P.Hasher.WordHash state value c.args.hashes e) grown.1
    c.insert_prehashed-2.ensures.room (did c.insert_prehashed-2.result _ _ _ c.in_ok-ok-2.ensures.value c.insert_prehashed-2.ensures.pairs))
