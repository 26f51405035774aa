-- A run ends in the sweep that it counts, and until then it goes on; it counts the passes that it makes.
use Prim.Native.Nat.{ℕ, zero, suc, ◌+◌, ◌/◌, ◌≤◌, ◌<◌}
use mathlib.Core.Path.{◌≡◌, refl, sym, ◌∙◌, ap}
use mathlib.Core.Bool.{Bool, true, false, cond, ◌&&◌, and-false}
use mathlib.Core.List.{List, [], ◌∷◌}
use native.Mathlib.Omega.{arith}
use native.Mathlib.Nat.{le_of_suc-le-suc}
use lib.Arith.{lt_of_le-ne}
use lib.Dec.{eqb}
use lib.ListN.{length}
use lib.Ieee.{Float, le}
use borrow.Author.Tests.{eqb-true, eqb-false}
use Rattle.loops.specs.Loops.{turns}
use Rattle.floats.specs.Ops.{1e-9}
use Rattle.box_rows.specs.Rows.{Problem, size}
use Rattle.exact_pass.specs.Ray.{ray}
use Rattle.exact_pass.specs.Pass as pass
use Rattle.exact_pass.specs.Pass.{Pass, exact_pass}
use Rattle.boxed.specs.Sweep as sweep
use Rattle.boxed.specs.Private.{change}
use Rattle.boxed.specs.Solve.{converged, Iterate, iterate, counts, Run, going, ended, unless, checkpoint, passed, checked, Watch, tested, turn, run, SWEEP_CAP}
use Rattle.boxed.specs.declared.Cause.TheVariants as cause
use Rattle.boxed.specs.declared.Counts.{Counts}
use Rattle.demand3.proofs.Sweeps.{stopped_of}
use Rattle.demand3.specs.Claims.{goes_on, one_sweep, none, makes_pass, passes_made}

-- ---- what a sweep leaves counted

abbrev counts_of : Run → Counts
counts_of (going s) = s.counts
counts_of (ended e s) = s.counts

passed-counts : (s : Iterate) (x : Pass) → counts_of (passed s x) ≡ s.counts
unfolding passed
passed-counts s (pass.moved t) = refl
passed-counts s (pass.failed t) = refl
passed-counts s (pass.found t) = refl
passed-counts s (pass.infeasible l t) = refl

checked-counts : (p : Problem) (s : Iterate)
    → counts_of (checked SWEEP_CAP p (going s)) ≡ counts s.counts.sweeps (s.counts.passes + cond (checkpoint SWEEP_CAP s.counts.sweeps && true) 1 0) s.counts.stopped
unfolding checked
checked-counts p s = go (checkpoint SWEEP_CAP s.counts.sweeps)
  where
    tried : Iterate
    tried = iterate s.nu s.states (counts s.counts.sweeps (suc s.counts.passes) s.counts.stopped)

    go : (b : Bool) → counts_of (cond b (passed tried (exact_pass p s.states s.nu)) (going s)) ≡ counts s.counts.sweeps (s.counts.passes + cond (b && true) 1 0) s.counts.stopped
    go true = passed-counts tried (exact_pass p s.states s.nu) ∙ ap (λ (k : ℕ). counts s.counts.sweeps k s.counts.stopped) (omega arith)
    go false = ap (λ (k : ℕ). counts s.counts.sweeps k s.counts.stopped) (omega arith)

tested-counts : (p : Problem) (m : Watch) (before : List Float) (x : Run) → counts_of (tested p m before x) ≡ counts_of x
unfolding tested change unless
tested-counts p m before (ended e s) = refl
tested-counts p m before (going s) =
    go (le (sweep.moved m.motion s.nu before (length m.motion / length s.nu)) m.tolerance) (le (sweep.residual p s.states s.nu (size p)) 1e-9)
    (ray p s.states (change s.nu before (size p)))
  where
    go : (a b : Bool) (l : List ℕ) → counts_of (cond a (cond b (ended converged s) (unless cause.Sweep s l)) (going s)) ≡ s.counts
    go true true l = refl
    go true false [] = refl
    go true false (a ∷ l) = refl
    go false b l = refl

-- ---- a run

module _ (p : Problem) (m : Watch) (s : Iterate) where
  abbrev after : ℕ → Run
  after k = run SWEEP_CAP p m s k

  turn-counts : (k : ℕ) (t : Iterate) → t.counts.sweeps ≡ k
      → counts_of (turn SWEEP_CAP p m k (going t)) ≡ counts (suc k) (t.counts.passes + cond (makes_pass p k (going t)) 1 0) (stopped_of p t.states t.nu)
  unfolding turn unless
  turn-counts k t q = go (sweep.grown (one_sweep p t.states t.nu) p.scale (size p))
    where
      stopped : ℕ
      stopped = stopped_of p t.states t.nu

      u : Iterate
      u = iterate (one_sweep p t.states t.nu) t.states (counts (suc t.counts.sweeps) t.counts.passes stopped)

      none_more : (b : Bool) → t.counts.passes ≡ t.counts.passes + cond (b && false) 1 0
      none_more b = rw (and-false b) (omega arith)

      go : (l : List ℕ) → counts_of (tested p m t.nu (checked SWEEP_CAP p (unless cause.Growth u l))) ≡ counts (suc k) (t.counts.passes + cond (checkpoint SWEEP_CAP (suc k) && none l) 1 0) stopped
      go [] =
          tested-counts p m t.nu (checked SWEEP_CAP p (going u)) ∙ checked-counts p u
          ∙ ap (λ (n : ℕ). counts (suc n) (t.counts.passes + cond (checkpoint SWEEP_CAP (suc n) && true) 1 0) stopped) q
      go (a ∷ l) =
          unfold tested checked in
          ap (λ (n : ℕ). counts (suc n) t.counts.passes stopped) q ∙ ap (λ (n : ℕ). counts (suc k) n stopped) (none_more (checkpoint SWEEP_CAP (suc k)))

  abbrev pub Made : ℕ → Run → Type 0
  Made k (going t) = ((i : ℕ) → i ≤ k → goes_on (run SWEEP_CAP p m s i) ≡ true) × (t.counts.sweeps ≡ k) × (t.counts.passes ≡ passes_made p m s k)
  Made k (ended e t) = ((i : ℕ) → i < t.counts.sweeps → goes_on (run SWEEP_CAP p m s i) ≡ true)
      × (goes_on (run SWEEP_CAP p m s t.counts.sweeps) ≡ false) × (t.counts.passes ≡ passes_made p m s t.counts.sweeps)

  one_more : (k : ℕ) (t : Iterate) → after k ≡ going t → t.counts.passes ≡ passes_made p m s k → t.counts.passes + cond (makes_pass p k (going t)) 1 0 ≡ passes_made p m s (suc k)
  unfolding passes_made
  one_more k t q h = rw (q, h)

  step : (k : ℕ) (x : Run) → after k ≡ x → Made k x → Made (suc k) (turn SWEEP_CAP p m k x)
  step k (ended e t) q h = unfold turn in h
  step k (going t) q h =
      let e = turn-counts k t h.1 in
      go (turn SWEEP_CAP p m k (going t)) (unfold run turns in ap (turn SWEEP_CAP p m k) q)
      (ap (λ (c : Counts). c.sweeps) e) (ap (λ (c : Counts). c.passes) e ∙ one_more k t q h.2)
    where
      go : (y : Run) → after (suc k) ≡ y → (counts_of y).sweeps ≡ suc k → (counts_of y).passes ≡ passes_made p m s (suc k) → Made (suc k) y
      go (going u) r e f = ((λ i b. pick i b (eqb i (suc k)) refl), e, f)
        where
          pick : (i : ℕ) → i ≤ suc k → (c : Bool) → eqb i (suc k) ≡ c → goes_on (after i) ≡ true
          pick i b true z = ap (λ (n : ℕ). goes_on (after n)) (eqb-true i (suc k) z) ∙ ap goes_on r
          pick i b false z = h.0 i (le_of_suc-le-suc (lt_of_le-ne b (eqb-false i (suc k) z)))
      go (ended g u) r e f = (
        (λ i b. h.0 i (omega arith)),
        ap (λ (n : ℕ). goes_on (after n)) e ∙ ap goes_on r,
        f ∙ sym (ap (passes_made p m s) e),
      )

  pub made : s.counts ≡ counts 0 0 0 → (k : ℕ) → Made k (run SWEEP_CAP p m s k)
  unfolding run turns passes_made
  made e zero = ((λ i b. let z : i ≡ 0 = omega arith in ap (λ (n : ℕ). goes_on (run SWEEP_CAP p m s n)) z), ap (λ (c : Counts). c.sweeps) e, ap (λ (c : Counts). c.passes) e)
  made e (suc k) = step k (run SWEEP_CAP p m s k) refl (made e k)
