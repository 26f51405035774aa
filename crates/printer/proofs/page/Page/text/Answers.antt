use Rattle.printer.proofs.Pages.{byte_more}
use Rattle.printer.proofs.page.Page.text.Goals as goal

pub loop-byte-preserved : goal.loop-byte-preserved
loop-byte-preserved c = byte_more _ _ _ _ _ c.loop-byte.invariant c.loop-byte-test.true c.put.ensures
