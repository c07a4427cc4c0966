-- What an overwrite prepares and what its commit comes to.
use Rattle.std.specs.Prelude.{◌≡◌, Bool, cond, [], Some, None, Option, nat_le}
use Rattle.std.specs.Option.{option_map}
use Rattle.hashing.specs.declared.WordHash as hasher
use Rattle.item.specs.declared.BiHashItem as item
use Rattle.item.specs.declared.Key as key
use Rattle.item.specs.Kinds.{kind_of}
use Rattle.item_set.specs.Slots.{at, held}
use Rattle.item_set.specs.States.{State, standing, taken, takes, removing}
use Rattle.model.specs.Answers.{Answer, refused, placed, Step, goes}
use Rattle.model.specs.declared.Found.{Found}
use Rattle.model.specs.declared.Overwritten.{Overwritten}
use Rattle.model.specs.Model.{find, has1, has2, cleared, ousted}
use Rattle.model.specs.Told.{another, shared}
use Rattle.indexed_items.specs.Items.{hashes_of, prepared, Stands}
use Rattle.indexed_items.specs.declared.removal.PreparedDuplicate.{PreparedDuplicate}
use Rattle.indexed_items.specs.declared.overwrite.PreparedInsertOverwrite.{PreparedInsertOverwrite}

-- where one was found, it stands there
abbrev pub Standing : {R : Type 0} → State R → Option (Found R) → Type 0
Standing s None = Unit {0}
Standing s (Some f) = Stands s f

-- what a commit comes to: what shares a key is freed, and a slot is taken unless as many stand as may
abbrev pub committing : {R : Type 0} → (R → Bool) → (R → Bool) → R → State R → Step R
committing p q r s =
    cond (nat_le (cleared p q s).capacity (standing (cleared p q s))) (goes (cleared p q s) (refused 2 []))
    (goes (taken (cleared p q s) r) (placed (takes (cleared p q s)) (ousted p q s)))

abbrev pub committed : {R : Type 0} → Option (Overwritten R) → Answer R
committed None = refused 2 []
committed (Some o) = placed o.slot (shared o.displaced)

-- what the removal of a prepared record comes to, if one was prepared
abbrev pub released : {R : Type 0} → State R → Option PreparedDuplicate → Option R × State R
released s None = (None, s)
released s (Some d) = removing s d.index

module _ {T K1 K2 H : Type 0} (i : item.Ghosts T K1 K2) (k1 : key.Ghosts K1) (k2 : key.Ghosts K2) (h : hasher.Ghosts H) where
  -- what is prepared for a new record: the standing records that share a key, and the hashes of its own
  abbrev pub preparing : H → State T → T → PreparedInsertOverwrite
  preparing state s r = record {
    first = option_map (prepared i k1 k2 h state) (find (has1 (kind_of i k1 k2) (i.first r)) 0 s.slots);
    second = option_map (prepared i k1 k2 h state) (another (find (has1 (kind_of i k1 k2) (i.first r)) 0 s.slots) (find (has2 (kind_of i k1 k2) (i.second r)) 0 s.slots));
    hashes = hashes_of i k1 k2 h state r;
  }

  -- the hashes are those of the record in the slot, if one stands there
  abbrev pub Hashed : H → State T → PreparedDuplicate → Type 0
  Hashed state s d = (r : T) → held (at s.slots d.index) ≡ Some r → d.hashes ≡ hashes_of i k1 k2 h state r

  abbrev pub AllHashed : H → State T → Option PreparedDuplicate → Type 0
  AllHashed state s None = Unit {0}
  AllHashed state s (Some d) = Hashed state s d
