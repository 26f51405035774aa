use Rattle.std.proofs.Common.{sym, arith}
use mathlib.Core.Path.{◌∙◌}
use Rattle.boxed.proofs.Turns.{run-start, run_again, run-ended, run-over}
use Rattle.boxed.proofs.run.run.Goals as goal

pub loop-init : goal.loop-init
loop-init c = run-start _ _ _ _ _ _ _ c.default-counts.result c.default-counts.ensures

pub returns-then-is_some : goal.returns-then-is_some
returns-then-is_some c = run-ended _ _ _ _ _ _ _ _ _ _ _ _ _ c.loop.invariant c.turn-ended.ensures (sym c.is_some.ensures ∙ c.if-is_some.true) c.loop-test.true

pub loop-preserved : goal.loop-preserved
loop-preserved c = run_again _ _ _ _ _ _ _ _ _ _ _ _ _ c.loop.invariant c.turn-ended.ensures (sym c.is_some.ensures ∙ c.if-is_some.false)

pub returns : goal.returns
returns c = run-over _ _ _ _ _ _ _ _ _ _ _ _ _ c.loop.invariant (omega arith) (omega arith)
