-- What the cells of a probing table hold, and how they have to lie. There are n cells. The home of a hash is the hash
-- modulo n: a probe reads from there on, and round.
use Rattle.std.specs.Prelude.{◌≡◌, ℕ, zero, suc, ◌+◌, ◌-◌, ◌%◌, ◌<◌, ◌≤◌, Bool, true, false, cond, ◌&&◌, List, [], ◌∷◌, ◌++◌, length, take, drop, ◌==◌, ◌≢◌, nat_lt}
use Rattle.hash_table.specs.Cells.{pair_of, held, cell_at}
use Rattle.hash_table.specs.Pairs.{is_pair}
use Rattle.hash_table.specs.declared.index.HashedIndex.{HashedIndex}
use Rattle.base.specs.Counting.{times, Same}
use Rattle.probing_table.specs.Marks.{vacant, removed, answers}

-- the place j steps on from p
abbrev pub spot : ℕ → ℕ → ℕ → ℕ
spot n p j = cond (nat_lt (p + j) n) (p + j) (p + j - n)

-- the cell that step j of a probe from p reads
abbrev pub met : ℕ → List HashedIndex → ℕ → ℕ → HashedIndex
met n xs p j = cell_at xs (spot n p j)

-- all cells, in the order of a probe from p
abbrev pub rotated : List HashedIndex → ℕ → List HashedIndex
rotated xs p = drop p xs ++ take p xs

-- the pairs of the cells that pass
abbrev pub kept : (HashedIndex → Bool) → List HashedIndex → List (ℕ × ℕ)
kept t [] = []
kept t (c ∷ cs) = cond (t c) (pair_of c ∷ kept t cs) (kept t cs)

abbrev pub at_home : ℕ → ℕ → HashedIndex → Bool
at_home n p c = held c && c.hash % n == p

-- the pairs of the first m homes: home after home, each as a probe from it meets them
abbrev pub homes : ℕ → List HashedIndex → ℕ → List (ℕ × ℕ)
homes n xs zero = []
homes n xs (suc p) = homes n xs p ++ kept (at_home n p) (rotated xs p)

abbrev pub probed : ℕ → List HashedIndex → List (ℕ × ℕ)
probed n xs = homes n xs n

-- no pair stands behind an empty cell on the way from its home
abbrev pub Reached : ℕ → List HashedIndex → Type 0
Reached n xs = (h j k : ℕ) → j ≤ k → k < n → vacant (met n xs (h % n) j) ≡ true → answers h (met n xs (h % n) k) ≢ true

-- no removed cell stands right before an empty one, at places that pass
abbrev pub TidyWhere : (ℕ → Type 0) → ℕ → List HashedIndex → Type 0
TidyWhere P n xs = (i : ℕ) → i < n → P i → removed (cell_at xs i) ≡ true → vacant (met n xs i 1) ≢ true

-- every cell is there, each pair is found, and removed cells are kept only where a probe may have to pass them
abbrev pub LaidWhere : (ℕ → Type 0) → ℕ → List HashedIndex → Type 0
LaidWhere P n xs = (length xs ≡ n) × Reached n xs × TidyWhere P n xs

abbrev pub Laid : ℕ → List HashedIndex → Type 0
Laid n xs = LaidWhere (λ _. Unit {0}) n xs

-- the same, but for the cell at place b
abbrev pub LaidBut : ℕ → ℕ → List HashedIndex → Type 0
LaidBut b n xs = LaidWhere (λ i. i ≢ b) n xs

-- the cells lie well, and the pairs are the same
abbrev pub Tidied : ℕ → List HashedIndex → List HashedIndex → Type 0
Tidied n xs ys = Laid n ys × Same (probed n ys) (probed n xs)

-- what a table keeps: its count is that of the pairs, and one cell at least has none
abbrev pub Sound : ℕ → List HashedIndex → ℕ → Type 0
Sound n xs count = Laid n xs × (count ≡ length (probed n xs)) × (count ≤ n - 1)

-- every cell has a pair
abbrev pub Full : ℕ → List HashedIndex → Type 0
Full n xs = length (probed n xs) ≡ n

-- the first place without a pair on the way of the hash
abbrev pub Free : ℕ → List HashedIndex → ℕ → ℕ → Type 0
Free n xs h i =
    (j : ℕ) × (j < n) × (i ≡ spot n (h % n) j) × (held (cell_at xs i) ≡ false)
    × ((k : ℕ) → k < j → held (met n xs (h % n) k) ≡ true)

-- no such pair stands in the table
abbrev pub Absent : ℕ → List HashedIndex → ℕ → ℕ → Type 0
Absent n xs h s = times (is_pair h s) (probed n xs) ≡ 0

-- the place has the pair
abbrev pub Stands : ℕ → List HashedIndex → ℕ → ℕ → ℕ → Type 0
Stands n xs h s i = (i < n) × (held (cell_at xs i) ≡ true) × (pair_of (cell_at xs i) ≡ (h, s))
