-- The f64 operations of IEEE 754, each rounded once, by short names, and the constants of document 01. Definitions only.
use Rattle.std.specs.Prelude.{ℕ, List, get_or, T, Float}
use Rattle.std.specs.Float.{nan, binary64}
use Rattle.std.specs.Float.Ieee.{fits, of_bits, add, sub, mul, div}

infixl 65 ◌⊕◌ ◌⊖◌
infixl 70 ◌⊗◌ ◌⊘◌
abbrev pub ◌⊕◌ : Float → Float → Float
x ⊕ y = add binary64 x y

abbrev pub ◌⊖◌ : Float → Float → Float
x ⊖ y = sub binary64 x y

abbrev pub ◌⊗◌ : Float → Float → Float
x ⊗ y = mul binary64 x y

abbrev pub ◌⊘◌ : Float → Float → Float
x ⊘ y = div binary64 x y

-- the element at i; past the end a NaN
abbrev pub at : List Float → ℕ → Float
at l i = get_or l i nan

-- x is a value that an f64 holds; all NaNs are one
abbrev pub Fits : Float → Type 0
Fits x = T (fits binary64 x)

-- ---- constants by their bits, as the code's literals are read: 0, 1, 2, 1e6, the f64s nearest to 1e-9 and 1e-11, and the infinities

abbrev pub 0ᶠ : Float
0ᶠ = of_bits binary64 0

abbrev pub 1ᶠ : Float
1ᶠ = of_bits binary64 0x3FF0000000000000

abbrev pub 2ᶠ : Float
2ᶠ = of_bits binary64 0x4000000000000000

abbrev pub 1e6 : Float
1e6 = of_bits binary64 0x412E848000000000

abbrev pub 1e-9 : Float
1e-9 = of_bits binary64 0x3E112E0BE826D695

abbrev pub 1e-11 : Float
1e-11 = of_bits binary64 0x3DA5FD7FE1796495

abbrev pub ∞ : Float
∞ = of_bits binary64 0x7FF0000000000000

abbrev pub −∞ : Float
−∞ = of_bits binary64 0xFFF0000000000000
