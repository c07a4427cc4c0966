use Rattle.std.proofs.Common.{◌≡◌, ◌≤◌}
use Rattle.item_set.proofs.Packing.{Packing}
use Rattle.item_set.proofs.set.ItemSet.compact.Given as goal

-- the slots so far are compacted, and all else of the set is as it was
abbrev pub invariant-loop-slot : goal.invariant-loop-slot
invariant-loop-slot g l = record {
  most : l.free ≤ l.slot;
  len : l.self-inside.len ≡ l.initial.self-inside.len;
  capacity : l.self-inside.capacity ≡ l.initial.self-inside.capacity;
  room : g.M.Memory.room l.self-inside.items ≡ g.M.Memory.room l.initial.self-inside.items;
  packing : Packing (g.M.Memory.items l.initial.self-inside.items) l.initial.scratch l.slot (g.M.Memory.items l.self-inside.items) l.scratch l.free;
}
