-- The numbers of the claim are what their names say: 1e6 exactly, 1e-9 the nearest f64, and the infinities.
use Prim.Native.Nat.{◌+◌, ◌*◌, ◌^◌, ◌≤◌, ◌<◌}
use mathlib.Core.Path.{◌≡◌, refl}
use mathlib.Core.Bool.{true, false}
use lib.IntN.{pos, negsuc}
use lib.Dec.{lit≤, lit<}
use lib.Ieee.{inf, fin, of_bits}
use Rattle.floats.specs.Ops.{1e6, 1e-9, ∞, −∞}

-- 15,625 * 2 ^ 6
million : 1e6 ≡ fin false 15625 (pos 6)
unfolding of_bits
million = refl

million-is : 15625 * 2 ^ 6 ≡ 1000000
million-is = refl

-- 4,835,703,278,458,517 / 2 ^ 82
billionth : 1e-9 ≡ fin false 4835703278458517 (negsuc 81)
unfolding of_bits
billionth = refl

-- 53 digits, so the unit is 1 / 2 ^ 82; and it is at most half a unit from 1 / 10 ^ 9, multiplied out by 2 ^ 83 * 10 ^ 9
digits : (2 ^ 52 ≤ 4835703278458517) × (4835703278458517 < 2 ^ 53)
digits = (lit≤ tt, lit< tt)

nearest : (2 * 4835703278458517 * 10 ^ 9 ≤ 2 ^ 83 + 10 ^ 9) × (2 ^ 83 ≤ 2 * 4835703278458517 * 10 ^ 9 + 10 ^ 9)
nearest = (lit≤ tt, lit≤ tt)

infinite : ∞ ≡ inf false
unfolding of_bits
infinite = refl

minus-infinite : −∞ ≡ inf true
unfolding of_bits
minus-infinite = refl
