-- What a set of slots means, and when it is well made.
use Rattle.std.specs.Prelude.{◌≡◌, ◌≤◌}
use Rattle.memory.specs.declared.Memory as memory
use Rattle.item_set.specs.declared.slot.ItemSlot.{ItemSlot}
use Rattle.item_set.specs.declared.set.ItemSet.TheInside.{Inside}
use Rattle.item_set.specs.States.{State, standing}
use Rattle.item_set.specs.Chains.{Linked}

module _ {T M : Type 0} (m : memory.Ghosts M (ItemSlot T)) where
  abbrev pub meaning : Inside T M → State T
  meaning s = record { slots = m.items s.items; head = s.free_head; capacity = s.capacity }

  -- the chain is whole, the records are counted, and the memory has room for all that may stand
  pub record Ready (s : Inside T M) : Type 0 where
    pub linked : Linked (meaning s)
    pub counted : s.len ≡ standing (meaning s)
    pub room : s.capacity ≤ m.room s.items
