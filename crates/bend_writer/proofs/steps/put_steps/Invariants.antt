use Rattle.std.proofs.Common.{◌≡◌, length}
use Rattle.bend_writer.proofs.Passes.{PlacedSizes}
use Rattle.bend_writer.proofs.steps.put_steps.Given as goal

abbrev pub invariant-loop-step : goal.invariant-loop-step
invariant-loop-step l =
    PlacedSizes l.steps l.values l.fn.out l.step-index l.cursor.at l.left l.cursor.out.now
    × (length l.cursor.out.now ≡ length l.fn.out)
    × (l.cursor.out.ghost_name ≡ l.initial.cursor.out.ghost_name)
