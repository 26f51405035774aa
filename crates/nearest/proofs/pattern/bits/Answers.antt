use Rattle.accumulator.specs.Accumulators.{value}
use Rattle.nearest.proofs.Steps.{bits-over, ask_normal, ask-low, bits_normal, bits-low}
use native.Mathlib.Omega.{arith}
use Rattle.nearest.proofs.pattern.bits.Goals as goal

pub returns-then-n-gt3172 : goal.returns-then-n-gt3172
returns-then-n-gt3172 c = bits-over (value c.args.m.now) c.size-n.result c.size-n.ensures c.if-n-gt3172.true

pub kept-requires : goal.kept-requires
kept-requires c = (omega arith, ask_normal (value c.args.m.now) c.size-n.result c.size-n.ensures c.if-n-gt1127.true)

pub returns-then-n-gt1127 : goal.returns-then-n-gt1127
returns-then-n-gt1127 c = bits_normal (value c.args.m.now) c.size-n.result c.size-n.ensures c.kept.result c.if-n-gt3172.false c.kept.ensures.0 c.kept.ensures.1

pub kept-requires-2 : goal.kept-requires-2
kept-requires-2 c = (omega arith, ask-low (value c.args.m.now) c.size-n.result c.size-n.ensures c.if-n-gt1127.false)

pub returns : goal.returns
returns c = bits-low (value c.args.m.now) c.size-n.result c.size-n.ensures c.kept-2.result c.if-n-gt1127.false c.kept-2.ensures.0 c.kept-2.ensures.1
