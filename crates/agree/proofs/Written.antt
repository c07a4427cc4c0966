-- What std writes of a list of numbers.
use Rattle.std.proofs.Common.{◌≡◌, ℕ, List, [], ◌∷◌, Some, Option, codes, decimal, refl, ap}
use Rattle.std.specs.Fmt.{debug_items, ◌++?◌}
use Rattle.agree.specs.Texts.{numbers_behind}

pub items_written : (lead ns : List ℕ) → debug_items (λ n. Some (decimal n)) lead ns ≡ Some (numbers_behind lead ns)
items_written lead [] = refl
items_written lead (n ∷ ns) = ap (λ (o : Option (List ℕ)). Some lead ++? Some (decimal n) ++? o) (items_written (codes ", ") ns)
