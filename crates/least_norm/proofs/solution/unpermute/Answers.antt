use Rattle.std.proofs.Math.Logic.{⊎_elim}
use mathlib.Core.Path.{sym, ◌∙◌}
use Rattle.least_norm.specs.Starts.{scattered}
use Rattle.least_norm.proofs.Pairs.{scattered-ended, scattered-ended-2, scattered_out, scattered-is}
use Rattle.least_norm.proofs.solution.unpermute.Goals as goal

pub loop-p-preserved-then-p-x : goal.loop-p-preserved-then-p-x
unfolding scattered
loop-p-preserved-then-p-x c =
    rw c.from-p.ensures (rw (c.in-Some.ensures.steps.0, c.in-Some.ensures.steps.1) at c.loop-p.invariant)

pub loop-p-preserved : goal.loop-p-preserved
loop-p-preserved c =
    (rw (c.in-Some.ensures.steps.0, c.in-Some.ensures.steps.1) at c.loop-p.invariant)
    ∙ scattered_out _ _ _ _ _ (rw c.from-p.ensures at c.if-p-x.false)

pub returns : goal.returns
returns c =
    ⊎_elim
    (λ e. scattered-ended _ _ _ e.1.0 ∙ sym c.loop-p.invariant)
    (λ e. scattered-ended-2 _ _ _ e.1.0 ∙ sym c.loop-p.invariant)
    c.in-None.ensures.steps
    ∙ scattered-is _ _ _ c.requires.0
