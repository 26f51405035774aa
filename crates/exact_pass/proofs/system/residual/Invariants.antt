use Rattle.std.proofs.Common.{ℕ, List, min, ◌≡◌, ◌*◌, ◌++◌, length, drop}
use Rattle.exact_pass.specs.Private as private
use Rattle.exact_pass.proofs.system.residual.Given as goal

-- how many rows of l are tested after h pairs
abbrev pub done : ℕ → List ℕ → ℕ
done h l = min (2 * h) (length l)

abbrev pub invariant-loop-h : goal.invariant-loop-h
invariant-loop-h l = record {
  downhill :
      l.y ≡ private.downhill l.s.free.now.trial.problem.now.w.now l.s.free.now.trial.problem.now.scale.now l.s.free.now.rows.now l.rhs l.s.z.now (done l.h l.s.free.now.rows.now)
      ++ drop (done l.h l.s.free.now.rows.now) l.initial.y;
  inconsistent : l.inconsistent ≡ private.inconsistent l.s.free.now.trial.problem.now.w.now l.s.free.now.trial.problem.now.scale.now l.s.free.now.rows.now l.rhs l.s.z.now (done l.h l.s.free.now.rows.now);
}
