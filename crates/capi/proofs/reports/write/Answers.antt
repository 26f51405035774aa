use Rattle.std.proofs.Common.{rules}
use Rattle.capi.proofs.Lent.{ten_written}
use Rattle.capi.proofs.reports.write.Goals as goal

pub returns : goal.returns
returns c = rw (c.flag.ensures, c.flag-2.ensures) (ten_written _ _ (search rules))
