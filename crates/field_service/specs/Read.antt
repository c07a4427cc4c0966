-- A list of records taken in, and what a record's two keys find.
use Rattle.std.specs.Prelude.{List, [], ◌∷◌}
use Rattle.item.specs.Kinds.{Kind}
use Rattle.item_set.specs.States.{State}
use Rattle.model.specs.Model.{find, has1, has2, step, insert}
use Rattle.field_service.specs.declared.ReadBack.{ReadBack}

module _ {R K1 K2 : Type 0} (kind : Kind R K1 K2) where
  -- the records inserted one after the other, refused ones passed over
  abbrev pub all_inserted : State R → List R → State R
  all_inserted s [] = s
  all_inserted s (r ∷ rs) = all_inserted (step kind s (insert r)).after rs

  -- what the two keys of a record find
  abbrev pub read : State R → R → ReadBack R
  read s r = record { item = r; first = find (has1 kind (kind.key1 r)) 0 s.slots; second = find (has2 kind (kind.key2 r)) 0 s.slots }
