use Rattle.std.proofs.Common.{arith}
use Rattle.nearest.proofs.Sizes.{sized}
use Rattle.nearest.proofs.digits.size.Goals as goal

pub returns : goal.returns
returns c = sized _ _ c.fits-m (omega arith) c.top-j.ensures.1 c.top-j.ensures.2
