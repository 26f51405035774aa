use Rattle.std.proofs.Common.{◌+◌, ◌*◌, ◌^◌, take}
use Rattle.accumulator.specs.Accumulators as acc
use Rattle.accumulator.specs.Steps as steps
use Rattle.accumulator.proofs.words.add_terms.Given as goal

abbrev pub invariant-loop-i : goal.invariant-loop-i
invariant-loop-i g l = steps.Carried g.O.Operation.taken l.initial.words l.words (acc.value (take l.i l.terms) * acc.base ^ l.k) (l.carry * acc.base ^ (l.k + l.i))
