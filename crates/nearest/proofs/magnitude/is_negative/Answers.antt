use Rattle.std.proofs.Common.{rules}
use Rattle.nearest.proofs.Negation.{is_negative}
use Rattle.nearest.proofs.magnitude.is_negative.Goals as goal

pub returns : goal.returns
returns c = is_negative _ (record { all = c.told-words; each = λ i. search rules })
