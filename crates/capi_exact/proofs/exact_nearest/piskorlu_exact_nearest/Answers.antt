use Rattle.std.proofs.Common.{rules, arith}
use Rattle.std.proofs.lemmas.Bool.Decides.{nat_tests}
use Rattle.capi_exact.proofs.Sums.{nearest_left}
use Rattle.capi_exact.proofs.exact_nearest.piskorlu_exact_nearest.Goals as goal

pub returns : goal.returns
returns c = nearest_left _ _ _ _ (search rules) (grind (arith, nat_tests)) (search rules) c.nearest.ensures
