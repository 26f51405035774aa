use Rattle.std.proofs.Common.{◌≡◌}
use Rattle.exact_pass.specs.Private as private
use Rattle.exact_pass.proofs.rays.linear.Given as goal

abbrev pub invariant-loop-row : goal.invariant-loop-row
invariant-loop-row l = l.s ≡ private.linear l.u_free l.y l.ray.rows.now l.row-index
