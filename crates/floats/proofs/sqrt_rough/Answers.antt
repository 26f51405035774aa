use mathlib.Core.Path.{sym, subst}
use lib.Dec.{T}
use Rattle.floats.proofs.SquareRoot.Branches.{bits_pos}
use Rattle.floats.proofs.sqrt_rough.Goals as goal

pub invariant_of-approximate : goal.invariant_of-approximate
invariant_of-approximate c = record { positive = bits_pos c.args.v (subst T (sym c.well_formed.0.1) tt) c.if-v.true; finite = c.if-b-lt-INFINITY_BITS.true }
