-- What holds of a run after each sweep, going on or ended.
use Prim.Native.Nat.{ℕ, suc, ◌-◌, ◌/◌, ◌≤◌, ◌<◌}
use mathlib.Core.Path.{◌≡◌, refl, sym, ◌∙◌, ap, subst}
use mathlib.Core.Bool.{Bool, true, false, cond}
use mathlib.Core.List.{List, [], ◌∷◌}
use native.Mathlib.Omega.{arith}
use native.Mathlib.Nat.{le_refl}
use lib.Dec.{eqb}
use lib.ListN.{length}
use lib.Ieee.{Float, le}
use Rattle.loops.proofs.Turns.{turns_keep}
use Rattle.loops.proofs.Gather.{Gathered}
use Rattle.floats.specs.Ops.{at, 1e-9}
use Rattle.box_rows.specs.Rows.{Problem, size}
use Rattle.exact_pass.specs.Ray.{ray}
use Rattle.exact_pass.specs.Pass as pass
use Rattle.exact_pass.specs.Pass.{trial, Pass, found, exact_pass}
use Rattle.boxed.specs.Sweep as sweep
use Rattle.boxed.specs.Private.{change, is_grown}
use Rattle.boxed.specs.Solve.{Ending, exact, converged, conflict, Iterate, iterate, counts, Run, going, ended, unless, checkpoint, passed, checked, Watch, tested, turn, run, SWEEP_CAP}
use Rattle.boxed.specs.declared.Cause.TheVariants as cause
use Rattle.boxed.specs.declared.Counts.{Counts}
use Rattle.demand3.specs.Claims.{not_above, one_sweep, swept_to, sweeps_alone, stopped_to, stopped_by_last, first_tried, LastStep}
use Rattle.demand3.proofs.Rays.{grown-gathered, ray-gathered, ActsUnlimited}
use Rattle.demand3.proofs.Due.{due-next}
use Rattle.demand3.proofs.Boxes.{Boxed, sweep-boxed, idle_row, StartedTo}
use Rattle.demand3.proofs.Trials.{Stated, Tries, hard, NoMotion, Passing, exact_passing}
use Rattle.demand3.proofs.Sweeps.{stopped_of, swept-is, stopped-is}

-- ---- the states at the start

few : (b : Bool) → cond b 3 0 ≤ 3
few true = omega arith
few false = omega arith

code : (b : Bool) → eqb (cond b 3 0) 3 ≡ b
code true = refl
code false = refl

pub started_stated : (p : Problem) (s : sweep.Start) → StartedTo p (size p) s → Stated p s.states
started_stated p s h =
    record {
      long = h.long;
      idle = λ i b. ap (λ (s : ℕ). eqb s 3) (h.states i b) ∙ code (idle_row p i);
      known = λ i b. rw (h.states i b) (few (idle_row p i));
    }

-- ---- a run: nu₀ is what its first sweep starts from

-- as many passes as c sweeps have, and the multipliers of the sweeps that are counted
pub record Stands (p : Problem) (nu₀ : List Float) (c : ℕ) (s : Iterate) : Type 0 where
  pub stated : Stated p s.states
  pub boxed : Boxed p s.nu
  pub passes : s.counts.passes ≡ not_above c
  pub alone : s.nu ≡ sweeps_alone p nu₀ s.counts.sweeps
  pub stopped : s.counts.stopped ≡ stopped_by_last p nu₀ s.counts.sweeps

pub record Converged (p : Problem) (nu₀ : List Float) (s : Iterate) : Type 0 where
  pub standing : Stands p nu₀ s.counts.sweeps s
  pub small : le (sweep.residual p s.states s.nu (size p)) 1e-9 ≡ true

-- Idle rows have what the sweeps left
pub record Exact (p : Problem) (nu₀ : List Float) (s : Iterate) : Type 0 where
  pub passes : s.counts.passes ≡ not_above s.counts.sweeps
  pub boxed : Boxed p (sweeps_alone p nu₀ s.counts.sweeps)
  pub stopped : s.counts.stopped ≡ stopped_by_last p nu₀ s.counts.sweeps
  pub tries : Tries p (sweeps_alone p nu₀ s.counts.sweeps) (trial s.nu s.states)
  pub gentle : (i : ℕ) → i < size p → hard p s.states s.nu i ≡ false
  pub given : List ℕ
  pub pass : exact_pass p given (sweeps_alone p nu₀ s.counts.sweeps) ≡ found (trial s.nu s.states)
  pub last : LastStep p (first_tried p given (sweeps_alone p nu₀ s.counts.sweeps)) s.nu s.states

-- growth ends a sweep before its pass
pub record Grew (p : Problem) (nu₀ : List Float) (s : Iterate) (l : List ℕ) : Type 0 where
  pub standing : Stands p nu₀ (s.counts.sweeps - 1) s
  pub some : 0 < length l
  pub these : Gathered (λ i. is_grown (at s.nu i) (at p.scale i) ≡ true) (size p) l

pub record Unmet (p : Problem) (nu₀ : List Float) (s : Iterate) (l : List ℕ) : Type 0 where
  pub standing : Stands p nu₀ s.counts.sweeps s
  pub rows : NoMotion p s.states l

abbrev pub Ends : Problem → List Float → Ending → Iterate → Type 0
Ends p nu₀ converged s = Converged p nu₀ s
Ends p nu₀ exact s = Exact p nu₀ s
Ends p nu₀ (conflict cause.Growth l) s = Grew p nu₀ s l
Ends p nu₀ (conflict cause.Pass l) s = Unmet p nu₀ s l
Ends p nu₀ (conflict cause.Sweep l) s = Unmet p nu₀ s l

-- after k sweeps, with as many passes as c sweeps have
abbrev pub Runs : Problem → List Float → ℕ → ℕ → Run → Type 0
Runs p nu₀ k c (going s) = (s.counts.sweeps ≡ k) × Stands p nu₀ c s
Runs p nu₀ k c (ended e s) = (0 < s.counts.sweeps) × (s.counts.sweeps ≤ k) × Ends p nu₀ e s

module _ (p : Problem) (m : Watch) (nu₀ : List Float) (k : ℕ) (few : k < 200) where
  recount : (s : Iterate) (c d : ℕ) → c ≡ d → Stands p nu₀ c s → Stands p nu₀ d s
  recount s c d e h = subst (λ (c : ℕ). Stands p nu₀ c s) e h

  grown_runs : (s : Iterate) (l : List ℕ) → s.counts.sweeps ≡ suc k → Stands p nu₀ k s
      → Gathered (λ i. is_grown (at s.nu i) (at p.scale i) ≡ true) (size p) l → Runs p nu₀ (suc k) k (unless cause.Growth s l)
  unfolding unless
  grown_runs s [] q h g = (q, h)
  grown_runs s (a ∷ l) q h g =
      (omega arith, omega arith, record { standing = recount s k (s.counts.sweeps - 1) (omega arith) h; some = omega arith; these = g })

  -- at a checkpoint one more pass is due
  due : (n : ℕ) (b : Bool) → n ≡ suc k → checkpoint SWEEP_CAP n ≡ b → not_above n ≡ cond b (suc (not_above k)) (not_above k)
  due n b q e = ap not_above q ∙ due-next k few ∙ ap (λ (b : Bool). cond b (suc (not_above k)) (not_above k)) (sym (ap (checkpoint SWEEP_CAP) q) ∙ e)

  module _ (s : Iterate) (q : s.counts.sweeps ≡ suc k) (h : Stands p nu₀ k s) where
    -- one pass more
    abbrev tried : Counts
    tried = counts s.counts.sweeps (suc s.counts.passes) s.counts.stopped

    -- the states that a pass left
    after-pass : (st : List ℕ) → Stated p st → checkpoint SWEEP_CAP s.counts.sweeps ≡ true
        → Stands p nu₀ s.counts.sweeps (iterate s.nu st tried)
    after-pass st g e = record { stated = g; boxed = h.boxed; passes = ap suc h.passes ∙ sym (due s.counts.sweeps true q e); alone = h.alone; stopped = h.stopped }

    passed_runs : (x : Pass) → exact_pass p s.states s.nu ≡ x → checkpoint SWEEP_CAP s.counts.sweeps ≡ true
        → Passing p s.nu (first_tried p s.states s.nu) x → Runs p nu₀ (suc k) (suc k) (passed (iterate s.nu s.states tried) x)
    unfolding passed
    passed_runs (pass.moved t) r e g = (q, recount _ s.counts.sweeps (suc k) q (after-pass t.states g.stated e))
    passed_runs (pass.failed t) r e g = (q, recount _ s.counts.sweeps (suc k) q (after-pass t.states g.stated e))
    passed_runs (pass.found t) r e g = (
      omega arith,
      omega arith,
      record {
        passes = ap suc h.passes ∙ sym (due s.counts.sweeps true q e);
        boxed = subst (Boxed p) h.alone h.boxed;
        stopped = h.stopped;
        tries = subst (λ (v : List Float). Tries p v t) h.alone g.0;
        gentle = g.1;
        given = s.states;
        pass = ap (exact_pass p s.states) (sym h.alone) ∙ r;
        last = subst (λ (v : List Float). LastStep p (first_tried p s.states v) t.nu t.states) h.alone g.2;
      },
    )
    passed_runs (pass.infeasible l t) r e g = (omega arith, omega arith, record { standing = after-pass t.states g.0.stated e; rows = g.1 })

  checked_runs : (x : Run) → Runs p nu₀ (suc k) k x → Runs p nu₀ (suc k) (suc k) (checked SWEEP_CAP p x)
  unfolding checked
  checked_runs (ended e s) h = h
  checked_runs (going s) h = go (checkpoint SWEEP_CAP s.counts.sweeps) refl
    where
      go : (b : Bool) → checkpoint SWEEP_CAP s.counts.sweeps ≡ b
          → Runs p nu₀ (suc k) (suc k) (cond b (passed (iterate s.nu s.states (tried s h.0 h.1)) (exact_pass p s.states s.nu)) (going s))
      go true e = passed_runs s h.0 h.1 (exact_pass p s.states s.nu) refl e (exact_passing p s.states s.nu h.1.stated h.1.boxed.long)
      go false e = (
        h.0,
        record { stated = h.1.stated; boxed = h.1.boxed; passes = h.1.passes ∙ sym (due s.counts.sweeps false h.0 e) ∙ ap not_above h.0; alone = h.1.alone; stopped = h.1.stopped },
      )

  unmet_runs : (s : Iterate) (l : List ℕ) → s.counts.sweeps ≡ suc k → Stands p nu₀ (suc k) s → Gathered (ActsUnlimited p s.states) (size p) l
      → Runs p nu₀ (suc k) (suc k) (unless cause.Sweep s l)
  unfolding unless
  unmet_runs s [] q h g = (q, h)
  unmet_runs s (a ∷ l) q h g =
      (omega arith, omega arith, record { standing = recount s (suc k) s.counts.sweeps (sym q) h; rows = record { some = omega arith; these = g } })

  tested_runs : (before : List Float) (x : Run) → Runs p nu₀ (suc k) (suc k) x → Runs p nu₀ (suc k) (suc k) (tested p m before x)
  unfolding tested change
  tested_runs before (ended e s) h = h
  tested_runs before (going s) h = go (le (sweep.moved m.motion s.nu before (length m.motion / length s.nu)) m.tolerance) (le (sweep.residual p s.states s.nu (size p)) 1e-9) refl
    where
      y : List Float
      y = change s.nu before (size p)

      go : (a b : Bool) → le (sweep.residual p s.states s.nu (size p)) 1e-9 ≡ b
          → Runs p nu₀ (suc k) (suc k) (cond a (cond b (ended converged s) (unless cause.Sweep s (ray p s.states y))) (going s))
      go true true e =
          let q = h.0 in
          (omega arith, omega arith, record { standing = recount s (suc k) s.counts.sweeps (sym q) h.1; small = e })
      go true false e = unmet_runs s (ray p s.states y) h.0 h.1 (ray-gathered p s.states y)
      go false b e = h

  turn_runs : (x : Run) → Runs p nu₀ k k x → Runs p nu₀ (suc k) (suc k) (turn SWEEP_CAP p m k x)
  unfolding turn
  turn_runs (ended e s) h = (h.0, omega (arith, h.1), h.2)
  turn_runs (going s) h =
      let nu = one_sweep p s.states s.nu in
      let t = iterate nu s.states (counts (suc s.counts.sweeps) s.counts.passes (stopped_of p s.states s.nu)) in
      let l = sweep.grown nu p.scale (size p) in
      let g = h.1 in
      tested_runs s.nu (checked SWEEP_CAP p (unless cause.Growth t l))
      (checked_runs (unless cause.Growth t l)
      (grown_runs t l (ap suc h.0)
      (record {
        stated = g.stated;
        boxed = sweep-boxed p s.states s.nu g.boxed;
        passes = g.passes;
        alone = unfold sweeps_alone in
            swept-is p s.states g.stated s.nu g.boxed.long (size p) (le_refl (size p)) ∙ ap (λ (v : List Float). swept_to p v (size p)) g.alone;
        stopped = unfold stopped_by_last in
            stopped-is p s.states g.stated s.nu g.boxed.long (size p) (le_refl (size p)) ∙ ap (λ (v : List Float). stopped_to p v (size p)) g.alone;
      })
      (grown-gathered nu p.scale (size p))))

pub run_runs : (p : Problem) (m : Watch) (nu₀ : List Float) (s : Iterate) → s.counts.sweeps ≡ 0 → Stands p nu₀ 0 s → Runs p nu₀ 200 200 (run SWEEP_CAP p m s 200)
unfolding run
run_runs p m nu₀ s z h = turns_keep (turn SWEEP_CAP p m) (going s) (λ k. Runs p nu₀ k k) 200 (z, h) λ k x b g. turn_runs p m nu₀ k b x g
