use Rattle.std.proofs.Common.{refl, arith}
use mathlib.Core.Path.{◌∙◌}
use lib.Ieee.{nan}
use Rattle.loops.proofs.Paste.{front-start, front_again, front_done, front-whole}
use Rattle.boxed.proofs.store.Goals as goal

pub loop-i-init : goal.loop-i-init
loop-i-init c = front-start c.args.from.now c.args.to.now

pub loop-i-preserved : goal.loop-i-preserved
loop-i-preserved c = front_again c.args.from.now c.args.to.now c.loop-i.i nan c.loop-i.to _ c.loop-i.invariant (omega arith) refl

pub returns : goal.returns
returns c = front_done c.args.from.now c.args.to.now c.loop-i.i c.loop-i.to c.loop-i.invariant (omega arith) ∙ front-whole c.args.from.now c.args.to.now c.requires
