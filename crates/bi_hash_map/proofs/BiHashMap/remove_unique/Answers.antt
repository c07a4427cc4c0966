use Rattle.item.specs.Kinds.{kind_of}
use Rattle.model.specs.Model.{both, has1, has2}
use Rattle.bi_hash_map.proofs.Removing.{standing_found}
use Rattle.bi_hash_map.proofs.BiHashMap.remove_unique.Goals as goal

pub remove_found-requires : goal.remove_found-requires
remove_found-requires g c =
    let kind = kind_of g.T.BiHashItem g.T.K1.Key g.T.K2.Key in
    rw (← c.self.view_is) (standing_found (both (has1 kind c.args.key1.now) (has2 kind c.args.key2.now)) c.self.inside.items.records _ c.find_unique-by_both.ensures)
