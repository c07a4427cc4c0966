-- The two keys of a currency: when two are equal, and which word is hashed of one.
use Rattle.std.specs.Prelude.{Bool, ◌&&◌, ℕ, ◌+◌, ◌*◌, ◌==◌, slice_index_or}
use lib.Pointwise.{pointwise}
use Rattle.kinds.specs.declared.currency.Letters.{Letters}
use Rattle.kinds.specs.declared.currency.Number.{Number}
use Rattle.kinds.specs.declared.currency.Currency.{Currency}

-- one of the three letters, by its place
abbrev pub code_at : Letters → ℕ → ℕ
code_at l place = slice_index_or l.bytes place 0

-- the letters are the same; by their places too, as `places` of proofs/Letters.antt proves of three letters each
abbrev pub same_letters : Letters → Letters → Bool
same_letters a b = pointwise ◌==◌ a.bytes b.bytes

-- each letter is the same
abbrev pub same_by_place : Letters → Letters → Bool
same_by_place a b = code_at a 0 == code_at b 0 && (code_at a 1 == code_at b 1 && code_at a 2 == code_at b 2)

-- the letters as the digits of a number to the base 256, the first the highest
abbrev pub letters_word : Letters → ℕ
letters_word l = code_at l 0 * 65536 + code_at l 1 * 256 + code_at l 2

abbrev pub same_number : Number → Number → Bool
same_number a b = a.value == b.value

-- a currency's number as a key
abbrev pub number_of : Currency → Number
number_of currency = record { value = currency.number }
