use Rattle.std.proofs.Common.{◌*◌, ◌^◌}
use Rattle.accumulator.specs.Accumulators as acc
use Rattle.accumulator.specs.Steps as steps
use Rattle.accumulator.proofs.words.carry_on.Given as goal

abbrev pub invariant-loop-i : goal.invariant-loop-i
invariant-loop-i g l = steps.Carried g.O.Operation.taken l.initial.words l.words (l.fn.carry * acc.base ^ l.from) (l.carry * acc.base ^ l.i)
