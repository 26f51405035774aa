use Rattle.std.proofs.Common.{◌≡◌, length, arith}
use Rattle.std.proofs.lemmas.Grind.{common_steps}
use Rattle.printer.proofs.Pages.{no_rows, row_more}
use Rattle.printer.proofs.page.Page.rows.Goals as goal

pub loop-i-init : goal.loop-i-init
loop-i-init c = no_rows _ _ _

pub loop-i-preserved : goal.loop-i-preserved
loop-i-preserved c = row_more _ _ _ _ c.loop-i.invariant c.row.ensures (grind (arith, common_steps))

pub returns : goal.returns
returns c = let e : c.loop-i.i ≡ length c.args.nu.now = omega arith in rw e at c.loop-i.invariant
