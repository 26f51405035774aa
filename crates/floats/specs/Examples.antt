-- Worked examples of the float helpers and of the square root, floats by their bit patterns, as one table that the checker computes.
use Rattle.std.specs.Prelude.{◌≡◌, refl, Bool, true, false, ◌&&◌, List, [], ◌∷◌, ℕ, eqb, Option, Some, None, Float}
use Rattle.std.specs.Bool.{beq}
use Rattle.std.specs.Float.{binary64}
use Rattle.std.specs.Float.Ieee.{of_bits, to_bits, add, lt, eq, ne, neg}
use Rattle.floats.specs.Helpers.{clamp, side, larger, abs, nan_test, is_finite}
use Rattle.floats.specs.Sqrt.{sqrt, nearest_root, whole_root}
use Rattle.floats.specs.declared.Side.{Side}
use Rattle.floats.specs.declared.Side.TheVariants.{Low, High}

-- ---- a case: what goes in, and last what must come out

data Case : Type 0 where
  clamps : ℕ → ℕ → ℕ → ℕ → Option Side → Case
  larger_of : ℕ → ℕ → ℕ → Case
  absolute : ℕ → ℕ → Case
  nan_tested finite-test : ℕ → Bool → Case
  root : ℕ → ℕ → Case

-- bits of a float, every NaN as one
abbrev is : Float → ℕ → Bool
is v b = eqb (to_bits binary64 v) b

abbrev d : ℕ → Float
d b = of_bits binary64 b

-- whether two sides are one
abbrev same_side : Option Side → Option Side → Bool
same_side None None = true
same_side (Some Low) (Some Low) = true
same_side (Some High) (Some High) = true
same_side _ _ = false

unfoldable passes : Case → Bool
unfolding clamp side larger abs nan_test is_finite sqrt nearest_root whole_root of_bits to_bits add lt eq ne neg
passes (clamps v lo hi r s) = is (clamp (d v) (d lo) (d hi)) r && same_side (side (d v) (d lo) (d hi)) s
passes (larger_of x y r) = is (larger (d x) (d y)) r
passes (absolute v r) = is (abs (d v)) r
passes (nan_tested v r) = beq (nan_test (d v)) r
passes (finite-test v r) = beq (is_finite (d v)) r
passes (root v r) = is (sqrt (d v)) r

abbrev all : List Case → Bool
all [] = true
all (c ∷ l) = passes c && all l

-- ---- values: 0, 1, 2, 3, the least, the largest subnormal, the least normal and the largest value, infinity, NaN, and what they are with a minus

abbrev zero' : ℕ
zero' = 0

abbrev one : ℕ
one = 0x3FF0000000000000

abbrev two : ℕ
two = 0x4000000000000000

abbrev three : ℕ
three = 0x4008000000000000

abbrev least : ℕ
least = 1

abbrev largest_subnormal : ℕ
largest_subnormal = 0x000FFFFFFFFFFFFF

abbrev least_normal : ℕ
least_normal = 0x0010000000000000

abbrev largest : ℕ
largest = 0x7FEFFFFFFFFFFFFF

abbrev ∞ : ℕ
∞ = 0x7FF0000000000000

abbrev nan_bits : ℕ
nan_bits = 0x7FF8000000000000

abbrev −zero : ℕ
−zero = 0x8000000000000000

abbrev −one : ℕ
−one = 0xBFF0000000000000

abbrev −least : ℕ
−least = 0x8000000000000001

abbrev −largest : ℕ
−largest = 0xFFEFFFFFFFFFFFFF

abbrev −∞ : ℕ
−∞ = 0xFFF0000000000000

cases : List Case
cases =
    -- below, inside, above, on each bound, equal bounds; last the side: a value that equals a bound is not stopped
    clamps one two three two (Some Low) ∷
    clamps two one three two None ∷
    clamps three one two two (Some High) ∷
    clamps one one two one None ∷
    clamps two one two two None ∷
    clamps three two two two (Some High) ∷
    -- inverted bounds: lo is tested first; a NaN value stays; a NaN bound does not bind
    clamps one three two three (Some Low) ∷
    clamps three two one one (Some High) ∷
    clamps nan_bits one two nan_bits None ∷
    clamps three nan_bits two two (Some High) ∷
    clamps one two nan_bits two (Some Low) ∷
    clamps three nan_bits nan_bits three None ∷
    -- infinities and zeros: -0 is not below +0
    clamps −∞ zero' ∞ zero' (Some Low) ∷
    clamps ∞ −∞ ∞ ∞ None ∷
    clamps −zero zero' one −zero None ∷
    clamps zero' −one −zero zero' None ∷
    clamps −least zero' one zero' (Some Low) ∷
    -- just past a bound on either side, a value that is past both, and boxes of one value
    clamps least −one zero' zero' (Some High) ∷
    clamps two three one three (Some Low) ∷
    clamps zero' −zero −zero zero' None ∷
    clamps ∞ one one one (Some High) ∷
    -- the larger of two: order, NaN on either side and on both, zeros in either order, infinities
    larger_of one two two ∷
    larger_of two one two ∷
    larger_of −one one one ∷
    larger_of nan_bits one one ∷
    larger_of one nan_bits one ∷
    larger_of nan_bits −∞ −∞ ∷
    larger_of nan_bits nan_bits nan_bits ∷
    larger_of zero' −zero zero' ∷
    larger_of −zero zero' zero' ∷
    larger_of −zero −zero −zero ∷
    larger_of zero' zero' zero' ∷
    larger_of −least −zero −zero ∷
    larger_of least zero' least ∷
    larger_of ∞ largest ∞ ∷
    larger_of −∞ −largest −largest ∷
    -- absolute value
    absolute −one one ∷
    absolute one one ∷
    absolute −zero zero' ∷
    absolute zero' zero' ∷
    absolute −least least ∷
    absolute −largest largest ∷
    absolute −∞ ∞ ∷
    absolute ∞ ∞ ∷
    absolute nan_bits nan_bits ∷
    -- tests
    nan_tested nan_bits true ∷
    nan_tested 0xFFF0000000000001 true ∷
    nan_tested ∞ false ∷
    nan_tested −∞ false ∷
    nan_tested −zero false ∷
    finite-test nan_bits false ∷
    finite-test ∞ false ∷
    finite-test −∞ false ∷
    finite-test largest true ∷
    finite-test −largest true ∷
    finite-test −zero true ∷
    finite-test least true ∷
    -- square root: document 01's case 12, exact squares, roots that round down and up, the ends of the range, subnormals, zeros, negatives, infinities, NaN
    root least 0x1E60000000000000 ∷
    root one one ∷
    root 0x4010000000000000 two ∷
    root 0x4022000000000000 three ∷
    root 0x4039000000000000 0x4014000000000000 ∷
    root 0x433FFFFFFFFFFFFE 0x4196A09E667F3BCC ∷
    root two 0x3FF6A09E667F3BCD ∷
    root three 0x3FFBB67AE8584CAA ∷
    root 0x3FB999999999999A 0x3FD43D136248490F ∷
    root 0x3FEFFFFFFFFFFFFF 0x3FEFFFFFFFFFFFFF ∷
    root 0x3FF0000000000001 one ∷
    root 0x3FF0000000000002 0x3FF0000000000001 ∷
    root 0x0000000000000002 0x1E66A09E667F3BCD ∷
    root largest_subnormal 0x1FFFFFFFFFFFFFFF ∷
    root least_normal 0x2000000000000000 ∷
    root largest 0x5FEFFFFFFFFFFFFF ∷
    root zero' zero' ∷
    root −zero −zero ∷
    root −one nan_bits ∷
    root −least nan_bits ∷
    root ∞ ∞ ∷
    root −∞ nan_bits ∷
    root nan_bits nan_bits ∷ []

table : all cases ≡ true
unfolding cases passes
table = refl
