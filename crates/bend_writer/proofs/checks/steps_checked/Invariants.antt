use Rattle.bend_writer.proofs.Passes.{SeenSizes}
use Rattle.bend_writer.proofs.checks.steps_checked.Given as goal

abbrev pub invariant-loop-step : goal.invariant-loop-step
invariant-loop-step l = SeenSizes l.steps l.values l.step-index l.from
