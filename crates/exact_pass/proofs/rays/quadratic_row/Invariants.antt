use Rattle.std.proofs.Common.{◌≡◌}
use Rattle.exact_pass.specs.Private as private
use Rattle.exact_pass.proofs.rays.quadratic_row.Given as goal

abbrev pub invariant-loop-column : goal.invariant-loop-column
invariant-loop-column l = l.q ≡ private.quadratic_row l.row l.v l.y l.ray.rows.now l.quad l.column-index
