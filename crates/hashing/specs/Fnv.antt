-- FNV-1a with 64 bits, by its published rule: begin at the offset basis; for each byte, exclusive-or it into the hash,
-- and multiply by the prime modulo 2^64.
use Rattle.std.specs.Prelude.{ℕ, ◌*◌, ◌/◌, ◌%◌, ◌^◌, List, [], ◌∷◌, ◌++◌, fold, bit_xor}
use Rattle.hashing.specs.declared.Words.{Words}
use Rattle.hashing.specs.declared.Words.TheVariants.{One, Two, Three}

abbrev pub basis : ℕ
basis = 14695981039346656037

abbrev pub prime : ℕ
prime = 1099511628211

abbrev pub mixed : ℕ → ℕ → ℕ
mixed h b = (bit_xor h b * prime) % 2 ^ 64

abbrev pub fnv1a : List ℕ → ℕ
fnv1a bytes = fold mixed basis bytes

-- the eight bytes of a word, the highest first
abbrev pub octets : ℕ → List ℕ
octets w =
    w / 2 ^ 56 % 256 ∷ w / 2 ^ 48 % 256 ∷ w / 2 ^ 40 % 256 ∷ w / 2 ^ 32 % 256
    ∷ w / 2 ^ 24 % 256 ∷ w / 2 ^ 16 % 256 ∷ w / 2 ^ 8 % 256 ∷ w % 256 ∷ []

-- the words that are hashed, as a list
abbrev pub listed : Words → List ℕ
listed (One a) = a ∷ []
listed (Two a b) = a ∷ b ∷ []
listed (Three a b c) = a ∷ b ∷ c ∷ []

abbrev pub all_octets : List ℕ → List ℕ
all_octets [] = []
all_octets (w ∷ ws) = octets w ++ all_octets ws

-- words are hashed by their bytes
abbrev pub fnv1a_words : Words → ℕ
fnv1a_words ws = fnv1a (all_octets (listed ws))
