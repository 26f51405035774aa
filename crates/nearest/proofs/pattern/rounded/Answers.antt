use Rattle.nearest.proofs.Steps.{no_nan}
use Rattle.nearest.proofs.pattern.rounded.Goals as goal

pub float_from_bits-result : goal.float_from_bits-result
float_from_bits-result c = no_nan c.bits.result c.bits.ensures.1
