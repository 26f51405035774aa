use Rattle.std.proofs.Common.{ℕ, min, ◌+◌, ◌-◌, ◌*◌, ◌≤◌, ◌≡◌, ◌∙◌, arith, length}
use Rattle.loops.proofs.Fill.{tab-start}
use Rattle.loops.proofs.Turns.{turns-from}
use Rattle.loops.proofs.Pairs.{tab-two, or-two}
use Rattle.box_rows.proofs.Matrix.{tab-filled}
use Rattle.exact_pass.proofs.system.residual.Goals as goal

pub loop-h-init : goal.loop-h-init
loop-h-init c =
    let none : min (2 * 0) (length c.args.s.now.free.now.rows.now) ≡ 0 = omega arith in
    rw none (record { downhill = tab-start _ _; inconsistent = turns-from _ _ })

pub loop-h-preserved : goal.loop-h-preserved
loop-h-preserved c =
    let k : ℕ = length c.args.s.now.free.now.rows.now in
    let i : ℕ = 2 * c.loop-h.h in
    let e : ℕ = c.min-e.result in
    let now : min i k ≡ i = omega arith in
    let next : min (2 * (c.loop-h.h + 1)) k ≡ e + 1 = omega arith in
    let least : i ≤ e = omega arith in
    let most : e ≤ i + 1 = omega arith in
    let was = c.loop-h.invariant in
    let two = c.two_rows-inconsistent.ensures in
    rw next (record {
      downhill = (two.downhill ∙ tab-two least most _ _ _ (rw now at was.downhill) (omega arith) (omega arith));
      inconsistent = or-two least most _ _ _ (rw now at was.inconsistent) two.inconsistent;
    })

pub returns : goal.returns
returns c =
    let k : ℕ = length c.args.s.now.free.now.rows.now in
    let all : min (2 * c.loop-h.h) k ≡ k = omega arith in
    let part : 1056 + k - 1056 ≡ k = omega arith in
    let was = rw (all, part) at c.loop-h.invariant in
    record { downhill = tab-filled _ _ _ _ _ was.downhill (omega arith) c.requires.direction (omega arith) (omega arith); inconsistent = was.inconsistent }
