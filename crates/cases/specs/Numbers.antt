-- Floats by their bit patterns, for the tables.
use Rattle.std.specs.Prelude.{ℕ}

abbrev pub ∞ : ℕ
∞ = 0x7FF0000000000000

abbrev pub −∞ : ℕ
−∞ = 0xFFF0000000000000

abbrev pub nan_bits : ℕ
nan_bits = 0x7FF8000000000000

abbrev pub one : ℕ
one = 0x3FF0000000000000

abbrev pub two : ℕ
two = 0x4000000000000000

abbrev pub four : ℕ
four = 0x4010000000000000

abbrev pub −one : ℕ
−one = 0xBFF0000000000000

abbrev pub −two : ℕ
−two = 0xC000000000000000

abbrev pub −four : ℕ
−four = 0xC010000000000000
