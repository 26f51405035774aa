-- The f64 nearest to an exact row sum. Definitions only. The sum is a whole number of 2 ^ -2148, which `meaning` of accumulator/specs/Accumulators.antt reads off the words.
use Rattle.std.specs.Prelude.{suc, ◌^◌, true, false, cond, ℤ, pos, negsuc, Float}
use Rattle.std.specs.Float.{binary64}
use Rattle.std.specs.Float.Ieee.{round, eq}
use Rattle.floats.specs.Ops.{0ᶠ}

-- v, and +0 where v is a zero of either sign
unfoldable pub plus_zero : Float → Float
plus_zero v = cond (eq v 0ᶠ) 0ᶠ v

-- z units of 2 ^ -2148, rounded once by IEEE 754: to the nearest value, from half way to the one whose last digit is 0, from 2 ^ 1024 - 2 ^ 970 on to an infinity.
-- A zero result is +0, also of a negative z.
unfoldable pub nearest : ℤ → Float
unfolding plus_zero
nearest (pos n) = plus_zero (round binary64 false n (2 ^ 2148))
nearest (negsuc n) = plus_zero (round binary64 true (suc n) (2 ^ 2148))
