-- Pairs of a hash and a slot: what a table holds, in an order of its own, and what its calls answer.
use Rattle.std.specs.Prelude.{ℕ, Bool, cond, ◌&&◌, List, [], ◌∷◌, map, length, Option, ◌==◌, slice_index_or}
use Rattle.std.specs.List.{slice_get}
use Rattle.base.specs.Counting.{sentinel, times}

-- the slots of the pairs that have the hash, in the table's order
abbrev pub slots_of : ℕ → List (ℕ × ℕ) → List ℕ
slots_of h [] = []
slots_of h (p ∷ ps) = cond (p.0 == h) (p.1 ∷ slots_of h ps) (slots_of h ps)

-- candidate k of a hash, from 0, or none
abbrev pub candidate : List (ℕ × ℕ) → ℕ → ℕ → Option ℕ
candidate ps h k = slice_get (slots_of h ps) k

abbrev pub is_pair : ℕ → ℕ → ℕ × ℕ → Bool
is_pair h s p = p.0 == h && p.1 == s

-- 8 exactly where as many pairs stand as there is room
abbrev pub adding : ℕ → List (ℕ × ℕ) → ℕ
adding room ps = cond (length ps == room) 8 0

-- 10 exactly where no such pair stands
abbrev pub removing : List (ℕ × ℕ) → ℕ → ℕ → ℕ
removing ps h s = cond (times (is_pair h s) ps == 0) 10 0

-- where a slot goes: its place in the list, and the sentinel past the list
abbrev pub new_slot : List ℕ → ℕ → ℕ
new_slot places s = slice_index_or places s sentinel

abbrev pub homeless : List ℕ → ℕ × ℕ → Bool
homeless places p = new_slot places p.1 == sentinel

abbrev pub moved : List ℕ → ℕ × ℕ → ℕ × ℕ
moved places p = (p.0, new_slot places p.1)

-- every slot moved, or 11 and nothing done where one has no new place
abbrev pub remapping : List ℕ → List (ℕ × ℕ) → ℕ × List (ℕ × ℕ)
remapping places ps = cond (times (homeless places) ps == 0) (0, map (moved places) ps) (11, ps)
