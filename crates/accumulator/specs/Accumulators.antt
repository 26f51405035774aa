-- Exact row sums. A Kulisch (long) accumulator holds a whole number of 2 ^ -2148 in 67 words of 64 bits, two's complement. Definitions only; what they mean is claimed in Meaning.antt.
use Rattle.std.specs.Prelude.{ℕ, zero, suc, ◌+◌, ◌-◌, ◌*◌, ◌/◌, ◌%◌, ◌^◌, min, Bool, true, false, cond, ◌&&◌, List, [], ◌∷◌, length, ℤ, pos, negsuc, ◌*ℤ◌, neg_ℤ, leb, ltb, Result, Ok, Err, Float}
use Rattle.std.specs.Float.{nan, inf, fin}
use Rattle.loops.specs.Loops.{turns, every}
use Rattle.floats.specs.Helpers.{is_finite}
use Rattle.floats.specs.Ops.{at}
use Rattle.floats.specs.Sqrt.{unit_count}
use Rattle.accumulator.specs.declared.Accumulator.{Accumulator}
use Rattle.refusals.specs.declared.Refusal.{Refusal}
use Rattle.refusals.specs.declared.Refusal.TheVariants.{NotFinite, ExactFull}

-- ---- numbers in words, the lowest first

-- the number whose digits to the base b are these
unfoldable pub value_in : ℕ → List ℕ → ℕ
value_in b [] = 0
value_in b (w ∷ l) = w + b * value_in b l

-- the last n digits of u to the base b
unfoldable pub digits_in : ℕ → ℕ → ℕ → List ℕ
digits_in b zero u = []
digits_in b (suc n) u = u % b ∷ digits_in b n (u / b)

abbrev pub base : ℕ
base = 18446744073709551616

abbrev pub value : List ℕ → ℕ
value l = value_in base l

abbrev pub words : ℕ → List ℕ
words u = digits_in base 67 u

-- how many numbers 67 words hold, and half of that
unfoldable pub size : ℕ
size = 2 ^ 4288

unfoldable pub half : ℕ
half = 2 ^ 4287

-- ---- whole numbers in two's complement: the one that the words mean, and what stands for one modulo size

unfoldable pub meaning : List ℕ → ℤ
meaning l = cond (ltb (value l) half) (pos (value l)) (neg_ℤ (pos (size - value l)))

unfoldable pub residue : ℤ → ℕ
residue (pos n) = n % size
residue (negsuc n) = size - suc (n % size)

-- -1, 0 or 1
abbrev pub sign_of : ℤ → ℤ
sign_of (pos zero) = pos 0
sign_of (pos (suc n)) = pos 1
sign_of (negsuc n) = negsuc 0

-- ---- terms

abbrev pub signed : Bool → ℕ → ℤ
signed false n = pos n
signed true n = neg_ℤ (pos n)

-- a finite value in units of 2 ^ -1074; NaN and infinities are never asked for
unfoldable pub units : Float → ℤ
units nan = pos 0
units (inf s) = pos 0
units (fin s m e) = signed s (unit_count m e)

-- a free motion and a product in units of 2 ^ -2148
unfoldable pub free_term : Float → ℤ
free_term u = units u *ℤ pos (2 ^ 1074)

unfoldable pub product_term : Float → Float → ℤ
product_term w v = units w *ℤ units v

-- the words after a term is added, modulo size
unfoldable pub added : List ℕ → ℤ → List ℕ
added l t = words ((value l + residue t) % size)

-- ---- states: the words, how many products they hold, and whether they hold a free motion

unfoldable pub EMPTY : Accumulator
EMPTY = record { words = words 0; products = 0; free = false }

-- a term taken
unfoldable pub with_free : Accumulator → Float → Accumulator
with_free a u = record { words = added a.words (free_term u); products = a.products; free = true }

unfoldable pub with_product : Accumulator → Float → Float → Accumulator
with_product a w v = record { words = added a.words (product_term w v); products = a.products + 1; free = a.free }

-- ---- answers: the sum, or why the call is refused

-- full for a second free motion, or a product after 32; then not finite for a value that is NaN or infinite
unfoldable pub add_free : Accumulator → Float → Result Accumulator Refusal
add_free a u = cond a.free (Err ExactFull) (cond (is_finite u) (Ok (with_free a u)) (Err NotFinite))

unfoldable pub add_product : Accumulator → Float → Float → Result Accumulator Refusal
add_product a w v = cond (ltb a.products 32) (cond (is_finite w && is_finite v) (Ok (with_product a w v)) (Err NotFinite)) (Err ExactFull)

-- a call on what the call before it left; where that was refused, its refusal
abbrev pub then : Result Accumulator Refusal → (Accumulator → Result Accumulator Refusal) → Result Accumulator Refusal
then (Ok a) call = call a
then (Err r) call = Err r

-- ---- a whole row: the free motion u, then the products of w and nu for j rising, over the shorter of the two

unfoldable pub shorter : List Float → List Float → ℕ
shorter w nu = min (length w) (length nu)

unfoldable pub both_finite : List Float → List Float → ℕ → Bool
both_finite w nu j = is_finite (at w j) && is_finite (at nu j)

unfoldable pub row_sum : Float → List Float → List Float → ℕ → Accumulator
row_sum u w nu k = turns k (with_free EMPTY u) λ j a. with_product a (at w j) (at nu j)

-- full for more than 32 products, then not finite for a value used that is NaN or infinite
unfoldable pub row : Float → List Float → List Float → Result Accumulator Refusal
row u w nu =
    let n = shorter w nu in
    cond (leb n 32) (cond (is_finite u && every (both_finite w nu) n) (Ok (row_sum u w nu n)) (Err NotFinite)) (Err ExactFull)
