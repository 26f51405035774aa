use Rattle.std.proofs.Common.{sym}
use mathlib.Core.Path.{◌∙◌}
use Rattle.exact_pass.proofs.Replies.{ray_fits, ray_unfit}
use Rattle.exact_pass.proofs.ray_of.Goals as goal

pub returns-then-fits : goal.returns-then-fits
returns-then-fits c = ray_fits _ _ _ _ _ _ (sym c.fits.ensures ∙ c.if-fits.true) c.ray.ensures

pub returns : goal.returns
returns c = ray_unfit _ _ _ _ (sym c.fits.ensures ∙ c.if-fits.false)
