-- The square root of an f64, rounded to nearest. Definitions only. That the value is the nearest, and the only such, is stated in specs/Nearest.antt.
use Rattle.std.specs.Prelude.{ℕ, zero, suc, ◌+◌, ◌-◌, ◌*◌, ◌/◌, ◌^◌, true, false, cond, ℤ, leb, Float}
use Rattle.std.specs.Float.{nan, inf, fin}
use Rattle.std.specs.Float.Ieee.{up, down, size, odd}

-- the larger of r and r + 1 whose square is at most n, for an r whose square is
abbrev pub step : ℕ → ℕ → ℕ
step n r = cond (leb ((r + 1) * (r + 1)) n) (r + 1) r

-- the whole part of √n, for an n below 4 ^ d: a digit for each two of n
unfoldable pub whole_root : ℕ → ℕ → ℕ
whole_root zero n = 0
whole_root (suc d) n = step n (2 * whole_root d (n / 4))

-- a finite value's magnitude in units of 2 ^ -1074, the smallest value
abbrev pub unit_count : ℕ → ℤ → ℕ
unit_count m e = m * up e * 2 ^ 1074 / down e

-- The f64 nearest to √w units of 2 ^ -1074, for w of 105 digits or more. √w has (z + 1) / 2 digits, where w has z: 53 are kept and k dropped.
-- The root is found to one digit more, which says whether to round up: √w lies half way between two values for no w that a positive f64 gives.
unfoldable pub nearest_root : ℕ → Float
unfolding whole_root size odd
nearest_root w = let k = (size w + 1) / 2 - 53 in odd 53 false ((whole_root 54 (w / 4 ^ (k - 1)) + 1) / 2) k 1074

-- ±0 and +∞ themselves, NaN and negatives NaN. A positive v of n units of 2 ^ -1074 is n * 2 ^ 1074 units of 2 ^ -2148, whose root is 2 ^ -1074.
unfoldable pub sqrt : Float → Float
unfolding nearest_root
sqrt nan = nan
sqrt (inf false) = inf false
sqrt (inf true) = nan
sqrt (fin s zero e) = fin s zero e
sqrt (fin true (suc m) e) = nan
sqrt (fin false (suc m) e) = nearest_root (unit_count (suc m) e * 2 ^ 1074)
