-- What an overwrite prepared is what its commit frees.
use Rattle.std.proofs.Common.{◌≡◌, ◌≤◌, Bool, List, ◌++◌, Some, None, Option, sym, refl, ap, ◌∙◌, subst}
use Rattle.std.specs.Option.{option_map}
use Rattle.base.proofs.Options.{some_same}
use Rattle.hashing.specs.declared.WordHash as hasher
use Rattle.item.specs.declared.BiHashItem as item
use Rattle.item.specs.declared.Key as key
use Rattle.item.specs.Kinds.{kind_of}
use Rattle.item_set.specs.Slots.{held, tally}
use Rattle.item_set.specs.States.{State}
use Rattle.item_set.proofs.Granting.{removing_held}
use Rattle.model.specs.declared.Found.{Found}
use Rattle.model.specs.Model.{either, find, freed_at, item_of, has1, has2, without, cleared}
use Rattle.model.specs.Told.{one_of}
use Rattle.model.proofs.Displacing.{another_is, cleared_none}
use Rattle.model.proofs.Sharing.{Tells, tells}
use Rattle.indexed_items.specs.declared.removal.PreparedDuplicate.{PreparedDuplicate}
use Rattle.indexed_items.specs.Items.{hashes_of, prepared}
use Rattle.indexed_items.specs.Overwriting.{Standing, released, preparing, AllHashed}

-- two answers, by what each of them tells
pub in_both : {R : Type 0} {out a b : List R} (x y : Option R) → one_of x ≡ a → one_of y ≡ b → out ≡ one_of x ++ one_of y → out ≡ a ++ b
in_both x y e f h = rw (sym e, sym f) h

-- no record shares a key once both matches are gone
pub apart_by : {R : Type 0} (p q : R → Bool) (s t : State R) → tally p s.slots ≤ 1 → tally q s.slots ≤ 1 → t ≡ cleared p q s → tally (either p q) t.slots ≡ 0
apart_by p q s t few-p few-q e = rw e (cleared_none p q s few-p few-q)

-- what a search finds stands there
module _ {R : Type 0} (p : R → Bool) (s : State R) where
  standing_by : (o : Option (Found R)) → Tells p s.slots o → Standing s o
  standing_by None t = tt
  standing_by (Some f) t = ap held t.1

  standing_found : Standing s (find p 0 s.slots)
  standing_found = standing_by (find p 0 s.slots) (tells p s.slots _ refl)

module _ {T K1 K2 H : Type 0} (i : item.Ghosts T K1 K2) (k1 : key.Ghosts K1) (k2 : key.Ghosts K2) (h : hasher.Ghosts H) (state : H) where
  -- what is prepared of a standing record has its hashes, and its removal frees it
  hashed_by : (s : State T) (o : Option (Found T)) → Standing s o → AllHashed i k1 k2 h state s (option_map (prepared i k1 k2 h state) o)
  hashed_by s None w = tt
  hashed_by s (Some f) w = λ r e. ap (hashes_of i k1 k2 h state) (some_same (sym w ∙ e))

  released_by : (s t : State T) (x : Option T) (o : Option (Found T)) → Standing s o → ◌≡◌ {A = Option T × State T} (x, t) (released s (option_map (prepared i k1 k2 h state) o)) → (one_of x ≡ item_of o) × (t ≡ freed_at s o)
  released_by s t x None w e = (ap (λ p. one_of p.0) e, ap (λ p. p.1) e)
  released_by s t x (Some f) w e = let y = removing_held s t f.slot f.item x w e in (ap one_of y.0, y.1)

  module _ (s : State T) (v : T) where
    abbrev p : T → Bool
    p = has1 (kind_of i k1 k2) (i.first v)

    abbrev q : T → Bool
    q = has2 (kind_of i k1 k2) (i.second v)

    -- the match of the first key
    pub first_hashed : (d : Option PreparedDuplicate) → d ≡ (preparing i k1 k2 h state s v).first → AllHashed i k1 k2 h state s d
    first_hashed d e = subst (AllHashed i k1 k2 h state s) (sym e) (hashed_by s (find p 0 s.slots) (standing_found p s))

    pub first_freed : (d : Option PreparedDuplicate) (x : Option T) (t : State T) → d ≡ (preparing i k1 k2 h state s v).first → ◌≡◌ {A = Option T × State T} (x, t) (released s d) → (one_of x ≡ item_of (find p 0 s.slots)) × (t ≡ without p s)
    first_freed d x t e r = released_by s t x (find p 0 s.slots) (standing_found p s) (r ∙ ap (released s) e)

    -- that of the second, once the first is gone
    second_is : (d : Option PreparedDuplicate) → tally q s.slots ≤ 1 → d ≡ (preparing i k1 k2 h state s v).second → d ≡ option_map (prepared i k1 k2 h state) (find q 0 (without p s).slots)
    second_is d few e = e ∙ ap (option_map (prepared i k1 k2 h state)) (sym (another_is p q s few))

    pub second_hashed : (d : Option PreparedDuplicate) → tally q s.slots ≤ 1 → d ≡ (preparing i k1 k2 h state s v).second → AllHashed i k1 k2 h state (without p s) d
    second_hashed d few e = subst (AllHashed i k1 k2 h state (without p s)) (sym (second_is d few e)) (hashed_by (without p s) (find q 0 (without p s).slots) (standing_found q (without p s)))

    pub second_freed : (d : Option PreparedDuplicate) (x : Option T) (t u : State T) → tally q s.slots ≤ 1 → d ≡ (preparing i k1 k2 h state s v).second → t ≡ without p s → ◌≡◌ {A = Option T × State T} (x, u) (released t d) → (one_of x ≡ item_of (find q 0 (without p s).slots)) × (u ≡ cleared p q s)
    second_freed d x t u few e w r =
        released_by (without p s) u x (find q 0 (without p s).slots) (standing_found q (without p s))
        (r ∙ ap (λ y. released y d) w ∙ ap (released (without p s)) (second_is d few e))
