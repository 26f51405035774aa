use Rattle.nearest.proofs.Scans.{some_in_word, none_in_word}
use Rattle.nearest.proofs.digits.any_of_last.Goals as goal

pub returns-then-m-w-ne0 : goal.returns-then-m-w-ne0
returns-then-m-w-ne0 c = some_in_word _ c.fits-m _ c.told-m c.requires c.if-m-w-ne0.true

pub returns-else-m-w-ne0 : goal.returns-else-m-w-ne0
returns-else-m-w-ne0 c = none_in_word _ c.fits-m _ c.told-m c.requires _ c.if-m-w-ne0.false c.any.ensures
