use Rattle.std.proofs.Common.{◌≡◌}
use Rattle.exact_pass.specs.Private as private
use Rattle.exact_pass.proofs.system.residual_rows.Given as goal

abbrev pub invariant-loop-j : goal.invariant-loop-j
invariant-loop-j l = (l.x ≡ private.residual_row l.first l.scale l.s.free.now.rows.now l.z l.a l.j) × (l.y ≡ private.residual_row l.second l.scale l.s.free.now.rows.now l.z l.b l.j)
