use Rattle.std.proofs.Common.{sym}
use Rattle.std.proofs.Math.Logic.{⊎_elim}
use native.Mathlib.Omega.{arith}
use mathlib.Core.Path.{◌∙◌}
use Rattle.least_norm.specs.Private.{paired}
use Rattle.least_norm.proofs.Pairs.{paired-ended, paired-ended-2, paired-is}
use Rattle.least_norm.proofs.vector.dot.Goals as goal

pub loop-a-preserved : goal.loop-a-preserved
unfolding paired
loop-a-preserved c = rw (c.in-Some.ensures.steps.0, c.in-Some.ensures.steps.1) at c.loop-a.invariant

pub returns : goal.returns
returns c =
    ⊎_elim
    (λ e. paired-ended _ _ _ _ e.1.0 ∙ sym c.loop-a.invariant)
    (λ e. paired-ended-2 _ _ _ _ e.1.0 ∙ sym c.loop-a.invariant)
    c.in-None.ensures.steps
    ∙ paired-is _ _ _ _ _ (omega arith) (omega arith) (omega arith) _
