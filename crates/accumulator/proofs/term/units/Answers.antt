use Rattle.std.proofs.Common.{T, sym, subst}
use Rattle.accumulator.proofs.Patterns.{no_nan, magnitude-lt, parts, scales-at}
use Rattle.accumulator.proofs.term.units.Goals as goal

pub float_to_bits-bits : goal.float_to_bits-bits
float_to_bits-bits c = no_nan c.args.v (sym c.if-not-is_finite.ensures)

pub of_magnitude-requires : goal.of_magnitude-requires
of_magnitude-requires c = magnitude-lt c.args.v (subst T (sym c.well_formed.0.1) tt) (sym c.if-not-is_finite.ensures)

pub returns : goal.returns
returns c = (sym c.if-not-is_finite.ensures, scales-at _ _ _ (parts c.args.v (subst T (sym c.well_formed.0.1) tt)) c.of_magnitude.ensures)
