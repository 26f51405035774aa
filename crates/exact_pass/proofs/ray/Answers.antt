use Rattle.exact_pass.proofs.Replies.{ray_unsized}
use Rattle.exact_pass.proofs.ray.Goals as goal

pub returns-in_err-p : goal.returns-in_err-p
returns-in_err-p c = rw c.from_residual.ensures (ray_unsized _ _ _ _ c.in_err-p.ensures)
