use Rattle.exact_pass.proofs.Replies.{left_unsized}
use Rattle.exact_pass.proofs.exact_pass.Goals as goal

pub returns-in-None : goal.returns-in-None
returns-in-None c = left_unsized _ _ _ _ _ c.in-None.ensures
