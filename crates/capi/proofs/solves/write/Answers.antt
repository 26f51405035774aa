use Rattle.std.proofs.Common.{rules}
use Rattle.capi.proofs.Lent.{flag_is, eight_written}
use Rattle.capi.proofs.solves.write.Goals as goal

pub returns : goal.returns
returns c = rw (c.from.ensures, c.from-2.ensures, flag_is c.args.r.converged, flag_is c.args.r.exact) (eight_written _ _ _ _ (search rules))
