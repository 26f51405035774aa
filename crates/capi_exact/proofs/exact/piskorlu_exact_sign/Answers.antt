use Rattle.std.proofs.Common.{rules, arith}
use Rattle.std.proofs.lemmas.Bool.Decides.{nat_tests}
use Rattle.capi_exact.proofs.Sums.{sign_left}
use Rattle.capi_exact.proofs.exact.piskorlu_exact_sign.Goals as goal

pub returns : goal.returns
returns c = sign_left _ _ _ _ (search rules) (grind (arith, nat_tests)) (search rules) c.sign.ensures
