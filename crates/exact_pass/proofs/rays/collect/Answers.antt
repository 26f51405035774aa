use Rattle.std.proofs.Common.{sym}
use mathlib.Core.Path.{◌∙◌}
use Rattle.exact_pass.proofs.Collecting.{collect_start, collect_idle, collect_small, collect_taken, collect_stopped}
use Rattle.exact_pass.proofs.rays.collect.Goals as goal
use Rattle.exact_pass.proofs.rays.collect.Goals.{then-states-a-eq-IDLE-via-then-states-a-eq-IDLE, then-states-a-eq-IDLE-via-else-states-a-eq-IDLE+then-size-least}

pub loop-a-init : goal.loop-a-init
loop-a-init c = rw c.requires (collect_start _ _ _ _ _ _)

pub loop-a-preserved-then-states-a-eq-IDLE : goal.loop-a-preserved-then-states-a-eq-IDLE
loop-a-preserved-then-states-a-eq-IDLE c =
    elim c.then-states-a-eq-IDLE.branch [
      | then-states-a-eq-IDLE-via-then-states-a-eq-IDLE w ↦ collect_idle _ _ _ _ _ _ _ _ _ c.loop-a.invariant w.if-states-a-eq-IDLE.true
      | then-states-a-eq-IDLE-via-else-states-a-eq-IDLE+then-size-least w ↦
          collect_small _ _ _ _ _ _ _ _ _ c.loop-a.invariant w.if-states-a-eq-IDLE.false (rw c.size_of-size.ensures at w.if-size-least.true)
    ]

pub returns-then-not-grows : goal.returns-then-not-grows
returns-then-not-grows c =
    let small = rw c.size_of-size.ensures at c.if-size-least.false in
    rw (collect_stopped _ _ _ _ _ _ _ _ _ c.loop-a.invariant c.if-states-a-eq-IDLE.false small _ (sym c.grows.ensures ∙ c.if-not-grows.true) c.loop-a-test.true)

pub loop-a-preserved : goal.loop-a-preserved
loop-a-preserved c =
    let small = rw c.size_of-size.ensures at c.if-size-least.false in
    rw (c.push.ensures.items, c.larger-farthest.ensures, c.size_of-size.ensures)
    (collect_taken _ _ _ _ _ _ _ _ _ c.loop-a.invariant c.if-states-a-eq-IDLE.false small (sym c.grows.ensures ∙ c.if-not-grows.false))
