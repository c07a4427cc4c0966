use Rattle.item.specs.Kinds.{kind_of}
use Rattle.model.specs.Model.{has1}
use Rattle.bi_hash_map.proofs.Removing.{standing_found}
use Rattle.bi_hash_map.proofs.BiHashMap.remove1.Goals as goal

pub remove_found-requires : goal.remove_found-requires
remove_found-requires g c =
    let kind = kind_of g.T.BiHashItem g.T.K1.Key g.T.K2.Key in
    rw (← c.self.view_is) (standing_found (has1 kind c.args.key.now) c.self.inside.items.records _ c.find1-by_first.ensures.answer)
