use Rattle.std.proofs.Common.{sym, arith}
use mathlib.Core.Path.{◌∙◌}
use Rattle.exact_pass.proofs.Collecting.{ray_zero, ray_stopped, ray_found, ray_not}
use Rattle.exact_pass.proofs.rays.ray.Goals as goal

pub returns-then-s : goal.returns-then-s
returns-then-s c = ray_zero _ _ _ _ _ c.args.motion.now.value_each _ c.largest-s.ensures c.if-s.true

pub returns-in_err-found : goal.returns-in_err-found
returns-in_err-found c =
    rw c.from_residual.ensures (ray_stopped _ _ _ _ _ c.args.motion.now.value_each _ c.largest-s.ensures c.if-s.false c.collect.new.rows.items c.in_err-found.ensures)

pub returns-then-falls : goal.returns-then-falls
returns-then-falls c =
    let fallen = rw c.as_slice-l.ensures.value at (sym c.falls.ensures ∙ c.if-falls.true) in
    rw (c.copy_from_slice.ensures.after, c.as_slice-l.ensures.value)
    (ray_found _ _ _ _ _ c.args.motion.now.value_each _ c.largest-s.ensures c.if-s.false _ c.collect.new.rows.items c.in_ok-found.ensures fallen (omega arith))

pub returns : goal.returns
returns c =
    let risen = rw c.as_slice-l.ensures.value at (sym c.falls.ensures ∙ c.if-falls.false) in
    ray_not _ _ _ _ _ c.args.motion.now.value_each _ c.largest-s.ensures c.if-s.false _ c.collect.new.rows.items c.in_ok-found.ensures risen
