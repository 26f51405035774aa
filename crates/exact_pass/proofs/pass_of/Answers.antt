use Rattle.std.proofs.Common.{sym}
use mathlib.Core.Path.{◌∙◌}
use Rattle.exact_pass.proofs.Replies.{left_unfit, left_short, left_passed}
use Rattle.exact_pass.proofs.pass_of.Goals as goal
use Rattle.exact_pass.proofs.pass_of.Goals.{else-workspace-ge-WORKSPACE-via-then-workspace-ge-WORKSPACE+else-fits, else-workspace-ge-WORKSPACE-via-else-workspace-ge-WORKSPACE}

pub returns-then-fits : goal.returns-then-fits
returns-then-fits c = left_passed _ _ _ _ _ _ _ _ _ _ c.if-workspace-ge-WORKSPACE.true (sym c.fits.ensures ∙ c.if-fits.true) c.run.ensures

pub returns : goal.returns
returns c =
    elim c.else-workspace-ge-WORKSPACE.branch [
      | else-workspace-ge-WORKSPACE-via-then-workspace-ge-WORKSPACE+else-fits w ↦ left_unfit _ _ _ _ _ (sym w.fits.ensures ∙ w.if-fits.false)
      | else-workspace-ge-WORKSPACE-via-else-workspace-ge-WORKSPACE w ↦ left_short _ _ _ _ _ w.if-workspace-ge-WORKSPACE.false
    ]
