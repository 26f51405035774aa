-- A row of three terms, 2 ^ 53, 1 and -2 ^ 53, in its six orders. Rounded one after another they come to 0 in two orders and to 1 in the others, so rounded row sums have no law like
-- that of Law.antt. Summed exactly they come to 1 in every order and grouping.
use Rattle.std.specs.Prelude.{ℕ, ◌≡◌, refl, Bool, true, ◌&&◌, List, [], ◌∷◌, eqb, Float}
use Rattle.std.specs.Float.{binary64}
use Rattle.std.specs.Float.Ieee.{round, add, eq, lt, of_bits, to_bits}
use Rattle.std.specs.Result.{result_unwrap_or}
use Rattle.floats.specs.Ops.{◌⊕◌, 0ᶠ, 1ᶠ}
use Rattle.floats.specs.Helpers.{is_finite}
use Rattle.accumulator.specs.Accumulators.{value_in, digits_in, size, half, meaning, residue, units, product_term, added, EMPTY, with_product, add_product}
use Rattle.accumulator.specs.Joins.{joinable, joined, join}
use Rattle.nearest.specs.ToNearest.{plus_zero, nearest}
use Rattle.exact_law.specs.Law as law
use Rattle.exact_law.specs.Law.{Sum, made}

abbrev big : Float
big = of_bits binary64 0x4340000000000000

abbrev less : Float
less = of_bits binary64 0xC340000000000000

-- three terms in an order, and the bits of their rounded sum
pub record Row : Type 0 where
  pub first : Float
  pub second : Float
  pub third : Float
  pub rounded : ℕ

abbrev row : Float → Float → Float → ℕ → Row
row x y z b = record { first = x; second = y; third = z; rounded = b }

orders : List Row
orders =
    row big 1ᶠ less 0x0000000000000000 ∷
    row big less 1ᶠ 0x3FF0000000000000 ∷
    row 1ᶠ big less 0x0000000000000000 ∷
    row 1ᶠ less big 0x3FF0000000000000 ∷
    row less big 1ᶠ 0x3FF0000000000000 ∷
    row less 1ᶠ big 0x3FF0000000000000 ∷ []

-- one after another, and the last two joined to the first
abbrev in_turn : Row → Sum
in_turn r = law.with_product (law.with_product (law.with_product law.empty r.first 1ᶠ) r.second 1ᶠ) r.third 1ᶠ

abbrev joined_last : Row → Sum
joined_last r = law.both (law.with_product law.empty r.first 1ᶠ) (law.with_product (law.with_product law.empty r.second 1ᶠ) r.third 1ᶠ)

abbrev bits_of : Sum → ℕ
bits_of e = to_bits binary64 (nearest (meaning (result_unwrap_or (made e) EMPTY).words))

unfoldable passes : Row → Bool
unfolding of_bits to_bits round add eq lt is_finite value_in digits_in size half meaning residue units product_term added EMPTY with_product add_product joinable joined join plus_zero nearest made
passes r =
    eqb (to_bits binary64 (0ᶠ ⊕ r.first ⊕ r.second ⊕ r.third)) r.rounded
    && eqb (bits_of (in_turn r)) 0x3FF0000000000000
    && eqb (bits_of (joined_last r)) 0x3FF0000000000000

abbrev all : List Row → Bool
all [] = true
all (r ∷ l) = passes r && all l

every_order : all orders ≡ true
unfolding orders passes
every_order = refl
