use Rattle.exact_pass.specs.Walk as walks
use Rattle.exact_pass.proofs.Collecting.{Going}
use Rattle.exact_pass.proofs.rays.collect.Given as goal

abbrev pub invariant-loop-a : goal.invariant-loop-a
invariant-loop-a l = Going (walks.walked l.p.lo.now l.p.hi.now l.p.scale.now l.states l.motion.values.now l.least l.a) l.a l.rows.items l.farthest
