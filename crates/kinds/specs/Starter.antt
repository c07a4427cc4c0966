-- The starter list, as ISO 4217 has the codes, numbers and minor units, and the test that its keys are distinct.
use Rattle.std.specs.Prelude.{Bool, true, not, ◌&&◌, List, [], ◌∷◌, ℕ, codes}
use Rattle.kinds.specs.Currencies.{same_letters, same_number, number_of}
use Rattle.kinds.specs.declared.currency.Currency.{Currency}

-- one row: letters, number, minor unit
abbrev pub row : List ℕ → ℕ → ℕ → Currency
row letters number unit = record { letters = record { bytes = letters }; number = number; minor_unit = unit }

abbrev pub starter : List Currency
starter =
    row (codes "EUR") 978 2
    ∷ row (codes "USD") 840 2
    ∷ row (codes "GBP") 826 2
    ∷ row (codes "CHF") 756 2
    ∷ row (codes "SEK") 752 2
    ∷ row (codes "NOK") 578 2
    ∷ row (codes "DKK") 208 2
    ∷ row (codes "PLN") 985 2
    ∷ row (codes "CZK") 203 2
    ∷ row (codes "HUF") 348 2
    ∷ row (codes "ISK") 352 0
    ∷ row (codes "TRY") 949 2
    ∷ row (codes "CAD") 124 2
    ∷ row (codes "JPY") 392 0
    ∷ row (codes "KWD") 414 3
    ∷ row (codes "BHD") 48 3
    ∷ []

-- no row of a list has the letters or the number of this one
abbrev pub clear_of : Currency → List Currency → Bool
clear_of c [] = true
clear_of c (d ∷ rest) =
    not (same_letters c.letters d.letters) && (not (same_number (number_of c) (number_of d)) && clear_of c rest)

-- no two rows share letters or a number
abbrev pub apart : List Currency → Bool
apart [] = true
apart (c ∷ rest) = clear_of c rest && apart rest
