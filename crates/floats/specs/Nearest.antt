-- What it is to be the f64 nearest to a root, in scaled whole numbers. Definitions only. proofs/SquareRoot/Midpoint.antt has the theorems: `nearest`, that `sqrt` is so, and `only`, that no other f64 is.
use Rattle.std.specs.Prelude.{ℕ, ◌+◌, ◌-◌, ◌*◌, ◌^◌, ◌<◌, Float}
use Rattle.std.specs.Float.{nan, inf, fin, binary64}
use Rattle.std.specs.Float.Ieee.{of_bits, to_bits}
use Rattle.floats.specs.Sqrt.{unit_count}

-- a value's magnitude in units of 2 ^ -1074, of which every finite f64 is a whole number, and 0 for a NaN and an infinity
abbrev pub units_of : Float → ℕ
units_of nan = 0
units_of (inf s) = 0
units_of (fin s m e) = unit_count m e

-- the next values up and down from a positive finite r: their patterns are one more and one less
abbrev pub above : Float → Float
above r = of_bits binary64 (to_bits binary64 r + 1)

abbrev pub below : Float → Float
below r = of_bits binary64 (to_bits binary64 r - 1)

-- v lies between the squares of the midpoints from r to its two neighbours. Twice a midpoint is the sum of two values in units of 2 ^ -1074; its square is four times
-- the midpoint's square in units of 2 ^ -2148, of which v is `units_of v * 2 ^ 1074`.
pub record Between (v r : Float) : Type 0 where
  pub low : (units_of (below r) + units_of r) * (units_of (below r) + units_of r) < 4 * (units_of v * 2 ^ 1074)
  pub high : 4 * (units_of v * 2 ^ 1074) < (units_of r + units_of (above r)) * (units_of r + units_of (above r))
