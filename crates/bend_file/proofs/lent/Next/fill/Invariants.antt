use Rattle.std.proofs.Common.{◌≡◌, ◌+◌, ◌*◌, ◌++◌, drop}
use Rattle.bend_file.specs.Little.{values}
use Rattle.bend_file.proofs.lent.Next.fill.Given as goal

abbrev pub invariant-loop-value : goal.invariant-loop-value
invariant-loop-value l =
    (l.self.file ≡ l.initial.self.file)
    × (l.self.at ≡ l.initial.self.at + 8 * l.value-index)
    × (l.value-items ≡ values l.self.file.now l.initial.self.at 0 l.value-index ++ drop l.value-index l.initial.value-items)
