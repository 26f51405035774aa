use mathlib.Core.Path.{sym, ap, ◌∙◌, subst}
use lib.Dec.{T}
use lib.Ieee.{binary64}
use lib.Ieee.Bits.{of_bits-to_bits}
use Rattle.floats.specs.Sqrt.{sqrt}
use Rattle.floats.proofs.SquareRoot.Branches.{no_nan, bits_pos, from_inf, finite_bits, at_zero, neither}
use Rattle.floats.proofs.sqrt_guessed.Goals as goal

pub float_to_bits-b : goal.float_to_bits-b
float_to_bits-b c = no_nan c.args.v c.if-v.true

pub invariant_of-root_bits : goal.invariant_of-root_bits
invariant_of-root_bits c = record { positive = bits_pos c.args.v (subst T (sym c.well_formed.0.1) tt) c.if-v.true; finite = c.if-b-lt-INFINITY_BITS.true }

pub float_from_bits-result : goal.float_from_bits-result
float_from_bits-result c = finite_bits c.root_bits.result c.root_bits.ensures.1

pub returns-then-b-lt-INFINITY_BITS : goal.returns-then-b-lt-INFINITY_BITS
returns-then-b-lt-INFINITY_BITS c = c.root_bits.ensures.0 ∙ ap sqrt (of_bits-to_bits binary64 c.args.v (subst T (sym c.well_formed.0.1) tt))

pub returns-then-v : goal.returns-then-v
returns-then-v c = from_inf c.args.v (subst T (sym c.well_formed.0.1) tt) c.if-v.true c.if-b-lt-INFINITY_BITS.false

pub returns-then-v-2 : goal.returns-then-v-2
returns-then-v-2 c = at_zero c.args.v c.if-v-2.true

pub returns : goal.returns
returns c = neither c.args.v c.if-v.false c.if-v-2.false
