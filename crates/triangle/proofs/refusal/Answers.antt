use Rattle.std.proofs.Common.{sym, ◌∙◌}
use Rattle.std.proofs.lemmas.Result.{err_from_is_err_and}
use native.Mathlib.Nat.{mul-le-mul}
use lib.Seq.{length-take-le}
use Rattle.triangle.proofs.Refusing.{fits, measured_first, is_other}
use Rattle.triangle.proofs.refusal.Goals as goal

pub returns-in_err-measured : goal.returns-in_err-measured
returns-in_err-measured c = let p = err_from_is_err_and c.from_residual.result c.from_residual.ensures.1 in
    rw (p.1, p.2) (sym (measured_first _ _ _ _ _ _ _ _ c.in_err-measured.ensures.refused))

pub returns : goal.returns
returns c = let f = fits _ _ _ c.in_ok-measured.ensures.refused in
    c.refusal.ensures ∙ is_other _ _ _ _ _ _ _ _ _ _ _ _ (length-take-le _ _ (mul-le-mul f.0 f.0)) f.1
