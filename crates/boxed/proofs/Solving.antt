-- A solve from what its calls promise, and the public call.
use Prim.Native.Nat.{ℕ}
use mathlib.Core.Path.{◌≡◌, refl, ap}
use mathlib.Core.List.{List, ◌++◌}
use native.Mathlib.Omega.{arith}
use lib.ListN.{take, drop}
use lib.Ieee.{Float}
use borrow.Author.Tests.{eq-eqb, ne_eqb}
use Rattle.box_rows.specs.Rows as box
use Rattle.box_rows.proofs.Matrix.{later}
use Rattle.boxed.specs.Sweep as sweep
use Rattle.boxed.specs.Private as private
use Rattle.boxed.specs.Solve as solve
use Rattle.boxed.specs.Solve.{iterate, Watch, Left}
use Rattle.boxed.specs.Private.{SOLVE_END, Worked, Answered}
use Rattle.boxed.proofs.Finishing.{solve_uses}
use Rattle.boxed.specs.declared.BoxReport.{BoxReport}
use Rattle.boxed.specs.declared.Counts.{Counts}
use Rattle.boxed.specs.declared.Ended.{Ended}
use Rattle.boxed.specs.declared.BoxOutcome.{BoxOutcome}
use Rattle.boxed.specs.declared.BoxOutcome.TheVariants.{Solved}
use Rattle.refusals.specs.declared.Refusal.{Refusal}
use Rattle.std.specs.Prelude.{Option, None, Some, Ok, Err}

-- ---- from the start of a solve: every row Idle, or not

module _ (cap : ℕ) (p : box.Problem) (m : Watch) (nu : List Float) (st l : List ℕ) (idle : ℕ) (nu₁ : List Float) (st₁ : List ℕ)
    (starts : private.started nu₁ st₁ idle ≡ sweep.start p.w (box.size p) p.lo p.hi nu st (box.size p)) where
  solve-is : (idle ≡ box.size p → ⊥) → solve.solve cap p m nu st l ≡ solve.result p idle l (solve.run cap p m (iterate nu₁ st₁ (solve.counts 0 0 0)) cap)
  unfolding solve.solve
  solve-is h = rw (← starts, ne_eqb idle (box.size p) h)

  pub all-idle : idle ≡ box.size p → (r : BoxReport) → r ≡ private.nothing idle → (w : List Float) → Left (solve.solve cap p m nu st l) (Ok (Solved r)) nu₁ st₁ l w w
  unfolding solve.solve
  all-idle h r e w = rw (← starts, eq-eqb idle (box.size p) h) (record { answer = rw e refl; multipliers = refl; states = refl; listed = refl; workspace = refl })

  -- g is how the run has ended
  pub some_act : (idle ≡ box.size p → ⊥) → (g : Option Ended) (nu₂ : List Float) (st₂ : List ℕ) (c : Counts) (r : BoxOutcome) (st' l' : List ℕ) (w w' : List Float)
      → Worked SOLVE_END (solve.run cap p m (iterate nu₁ st₁ (solve.counts 0 0 0)) cap) l w g nu₂ st₂ c l' w'
      → Answered p idle g nu₂ st₂ c r st'
      → Left (solve.solve cap p m nu st l) (Ok r) nu₂ st' l' w w'
  some_act h g nu₂ st₂ c r st' l' w w' d k =
      let e = solve-is h in
      let f = k (solve.run cap p m (iterate nu₁ st₁ (solve.counts 0 0 0)) cap) l l' d.ran in
      record {
        answer = rw e f.answer;
        multipliers = rw e f.multipliers;
        states = rw e f.states;
        listed = rw e f.listed;
        workspace = rw (solve_uses cap p m nu st l) (later SOLVE_END solve.WORKSPACE w' w (omega arith) d.workspace);
      }

-- ---- a call that is refused, and one that is not

module _ (p : box.Problem) (m : Watch) (nu : List Float) (st l : List ℕ) (workspace : ℕ) where
  pub is-refused : (x : Refusal) → Some x ≡ solve.refusal p m.motion nu st l workspace → (w : List Float)
      → Left (solve.solve_reply p m nu st l workspace) (Err x) nu st l w w
  unfolding solve.solve_reply solve.reply
  is-refused x e w = rw (← e) (record { answer = refl; multipliers = refl; states = refl; listed = refl; workspace = refl })

  pub is-solved : None ≡ solve.refusal p m.motion nu st l workspace → (r : BoxOutcome) (nu' : List Float) (st' l' : List ℕ) (w w' : List Float)
      → Left (solve.solve solve.SWEEP_CAP p m nu (take (box.size p) st) l) (Ok r) nu' st' l' w w'
      → Left (solve.solve_reply p m nu st l workspace) (Ok r) nu' (st' ++ drop (box.size p) st) l' w w'
  unfolding solve.solve_reply solve.reply
  is-solved e r nu' st' l' w w' f =
      rw (← e)
      (record {
        answer = f.answer;
        multipliers = f.multipliers;
        states = ap (λ (x : List ℕ). x ++ drop (box.size p) st) f.states;
        listed = f.listed;
        workspace = f.workspace;
      })
