use Rattle.std.proofs.Common.{◌*◌, take}
use Rattle.bend_writer.specs.Bytes.{patterns}
use Rattle.bend_writer.specs.Private.{Put}
use Rattle.bend_writer.proofs.steps.Cursor.put_step.Given as goal

abbrev pub invariant-loop-value : goal.invariant-loop-value
invariant-loop-value l = Put l.initial.self l.self (8 * l.value-index) (patterns (take l.value-index l.values))
