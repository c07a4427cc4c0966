-- The linear congruence of 64 bits that the numbers are drawn by.
use Rattle.std.specs.Prelude.{ℕ, ◌+◌, ◌*◌, ◌/◌, ◌%◌, ◌^◌}

abbrev pub following : ℕ → ℕ
following n = (n * 6364136223846793005 + 1442695040888963407) % 2 ^ 64

-- the 31 high bits
abbrev pub high_bits : ℕ → ℕ
high_bits n = n / 2 ^ 33
