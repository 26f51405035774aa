use Rattle.bend_file.proofs.Walks.{Walking}
use Rattle.bend_file.proofs.chain.steps.Given as goal

abbrev pub invariant-loop-passed : goal.invariant-loop-passed
invariant-loop-passed l = Walking l.file l.passed l.end l.ends
