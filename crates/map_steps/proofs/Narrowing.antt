-- What a search under one key gives, narrowed by a test of the other key.
use Rattle.std.proofs.Common.{◌≡◌, ◌≤◌, Bool, true, false, List, Option, Some, None, MatchOption, sym, ◌∙◌}
use Rattle.std.specs.Bool.{then_some}
use Rattle.item_set.specs.declared.slot.ItemSlot.{ItemSlot}
use Rattle.item_set.specs.Slots.{tally}
use Rattle.model.specs.declared.Found.{Found}
use Rattle.model.specs.Model.{both, find}
use Rattle.model.proofs.Sharing.{Tells, tells, both_none, both_here, both_other}

module _ {R : Type 0} (p q : R → Bool) (xs : List (ItemSlot R)) (few-p : tally p xs ≤ 1) (few-q : tally q xs ≤ 1) where
  by_test : (f : Found R) (b : Bool) → Tells p xs (Some f) → b ≡ q f.item → then_some b f ≡ find (both p q) 0 xs
  by_test f true a e = both_here p q xs few-p few-q f a (sym e)
  by_test f false a e = both_other p q xs few-p few-q f a (sym e)

  pub narrowed : (Gives : Found R → Bool → Type 0) (law : (f : Found R) (b : Bool) → Gives f b → b ≡ q f.item) (found kept : Option (Found R)) → found ≡ find p 0 xs
      → MatchOption found (kept ≡ None) (λ f. (b : Bool) × Gives f b × (kept ≡ then_some b f)) → kept ≡ find (both p q) 0 xs
  narrowed Gives law None kept e none = none ∙ both_none p q xs few-p few-q (tells p xs None e)
  narrowed Gives law (Some f) kept e (b, gives, kept_is) = kept_is ∙ by_test f b (tells p xs (Some f) e) (law f b gives)
