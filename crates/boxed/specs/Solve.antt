-- `BoxSolver::solve` of boxed.rs by document 01: the sweeps with their tests, the ending, the refusals.
-- Definitions only.
use Rattle.std.specs.Prelude.{ℕ, suc, ◌*◌, ◌/◌, ◌%◌, ◌≡◌, Bool, true, false, not, cond, ◌&&◌, ◌||◌, List, [], ◌∷◌, ◌++◌, ltb, eqb, length, take, drop, Float}
use Rattle.std.specs.Prelude.{Option, None, Some, Result as ResultOf, Ok, Err}
use Rattle.std.specs.Float.Ieee.{lt, le}
use Rattle.loops.specs.Loops.{turns, tab, every, fronted}
use Rattle.floats.specs.Ops.{◌⊖◌, at, 0ᶠ, 1e-9}
use Rattle.floats.specs.Helpers.{is_finite}
use Rattle.box_rows.specs.Rows as box
use Rattle.exact_pass.specs.Ray.{ray}
use Rattle.exact_pass.specs.Pass as pass
use Rattle.boxed.specs.Sweep as sweep
use Rattle.boxed.specs.declared.Cause.{Cause}
use Rattle.boxed.specs.declared.Cause.TheVariants as cause
use Rattle.boxed.specs.declared.Counts.{Counts}
use Rattle.boxed.specs.declared.BoxReport.{BoxReport}
use Rattle.boxed.specs.declared.BoxOutcome.{BoxOutcome}
use Rattle.boxed.specs.declared.BoxOutcome.TheVariants.{Solved, Infeasible}
use Rattle.refusals.specs.declared.Refusal.{Refusal}
use Rattle.refusals.specs.declared.Refusal.TheVariants as by

-- ---- constants of document 01

-- the most values of a problem's motion
abbrev pub MAX_MOTION : ℕ
MAX_MOTION = 2048

-- the fewest values of a workspace
abbrev pub WORKSPACE : ℕ
WORKSPACE = 2304

-- the most sweeps one solve runs
abbrev pub SWEEP_CAP : ℕ
SWEEP_CAP = 200

-- the sweeps after which an exact pass is tried, beside the last that there may be
abbrev pub CHECKPOINTS : List ℕ
CHECKPOINTS = 1 ∷ 2 ∷ 4 ∷ 8 ∷ 16 ∷ 32 ∷ 64 ∷ 128 ∷ []

-- ---- whether an exact pass is tried after sweep k: at the checkpoints, and after the last sweep that there may be

unfoldable pub member : ℕ → List ℕ → Bool
member k [] = false
member k (a ∷ l) = eqb k a || member k l

abbrev pub checkpoint : ℕ → ℕ → Bool
checkpoint cap k = member k (CHECKPOINTS ++ (cap ∷ []))

-- ---- a solve between two sweeps, or how it ended

-- sweeps run, passes tried, and the rows that the last sweep stopped
abbrev pub counts : ℕ → ℕ → ℕ → Counts
counts sweeps passes stopped = record { sweeps = sweeps; passes = passes; stopped = stopped }

pub record Iterate : Type 0 where
  pub nu : List Float
  pub states : List ℕ
  pub counts : Counts

abbrev pub iterate : List Float → List ℕ → Counts → Iterate
iterate nu st c = record { nu = nu; states = st; counts = c }

pub data Ending : Type 0 where
  exact converged : Ending
  conflict : Cause → List ℕ → Ending

pub data Run : Type 0 where
  going : Iterate → Run
  ended : Ending → Iterate → Run

unfoldable pub unless : Cause → Iterate → List ℕ → Run
unless c s [] = going s
unless c s (a ∷ l) = ended (conflict c (a ∷ l)) s

-- ---- a sweep and its tests

-- s counts the pass
unfoldable pub passed : Iterate → pass.Pass → Run
passed s (pass.moved t) = going (iterate s.nu t.states s.counts)
passed s (pass.failed t) = going (iterate s.nu t.states s.counts)
passed s (pass.found t) = ended exact (iterate t.nu t.states s.counts)
passed s (pass.infeasible l t) = ended (conflict cause.Pass l) (iterate s.nu t.states s.counts)

unfoldable pub checked : ℕ → box.Problem → Run → Run
checked cap p (ended e s) = ended e s
checked cap p (going s) =
    let c = counts s.counts.sweeps (suc s.counts.passes) s.counts.stopped in
    cond (checkpoint cap s.counts.sweeps)
    (passed (iterate s.nu s.states c) (pass.exact_pass p s.states s.nu))
    (going s)

-- the motion that is watched: a row of values for each coordinate, and a tolerance
pub record Watch : Type 0 where
  pub motion : List Float
  pub tolerance : Float

abbrev pub watch : List Float → Float → Watch
watch motion tolerance = record { motion = motion; tolerance = tolerance }

-- `before` are the multipliers before the sweep, and y the direction in which it moved them
unfoldable pub tested : box.Problem → Watch → List Float → Run → Run
tested p m before (ended e s) = ended e s
tested p m before (going s) =
    let y = tab (λ (i : ℕ). at s.nu i ⊖ at before i) (box.size p) in
    cond (le (sweep.moved m.motion s.nu before (length m.motion / length s.nu)) m.tolerance)
    (cond (le (sweep.residual p s.states s.nu (box.size p)) 1e-9) (ended converged s)
    (unless cause.Sweep s (ray p s.states y)))
    (going s)

unfoldable pub turn : ℕ → box.Problem → Watch → ℕ → Run → Run
turn cap p m i (ended e s) = ended e s
turn cap p m i (going s) =
    let nu = sweep.sweep p.w p.u_free p.lo p.hi s.states s.nu (box.size p) in
    let stopped = sweep.stopped p.w p.u_free p.lo p.hi s.states s.nu (box.size p) in
    let t = iterate nu s.states (counts (suc s.counts.sweeps) s.counts.passes stopped) in
    tested p m s.nu (checked cap p (unless cause.Growth t (sweep.grown nu p.scale (box.size p))))

-- after k more sweeps at most
unfoldable pub run : ℕ → box.Problem → Watch → Iterate → ℕ → Run
run cap p m s k = turns k (going s) (turn cap p m)

-- ---- the whole

pub data Outcome : Type 0 where
  refused : Refusal → Outcome
  solved : BoxReport → Outcome
  infeasible : Cause → List ℕ → BoxReport → Outcome

-- what a call answers and leaves: multipliers, states and row list
pub record Result : Type 0 where
  pub outcome : Outcome
  pub nu : List Float
  pub states : List ℕ
  pub listed : List ℕ

unfoldable pub report_of : box.Problem → ℕ → Bool → Bool → Iterate → BoxReport
report_of p idle c e s =
    record {
      sweeps = s.counts.sweeps;
      exact_passes = s.counts.passes;
      converged = c;
      exact = e;
      residual = sweep.residual p s.states s.nu (box.size p);
      idle = idle;
      stopped = s.counts.stopped;
    }

-- where no pass found the solution, the states are those that the multipliers show
unfoldable pub unfound : box.Problem → ℕ → List ℕ → Bool → Iterate → Result
unfound p idle l c s =
    record {
      outcome = solved (report_of p idle c false s);
      nu = s.nu;
      states = sweep.classified p.lo p.hi p.scale s.nu s.states (box.size p);
      listed = l;
    }

unfoldable pub result : box.Problem → ℕ → List ℕ → Run → Result
result p idle l (going s) = unfound p idle l false s
result p idle l (ended converged s) = unfound p idle l true s
result p idle l (ended exact s) =
    record { outcome = solved (report_of p idle true true s); nu = s.nu; states = s.states; listed = l }
result p idle l (ended (conflict c r) s) =
    record {
      outcome = infeasible c r (report_of p idle false false s);
      nu = s.nu;
      states = s.states;
      listed = fronted r l;
    }

-- st are n states. Where all rows are Idle there is nothing to solve.
unfoldable pub solve : ℕ → box.Problem → Watch → List Float → List ℕ → List ℕ → Result
solve cap p m nu st l =
    let b = sweep.start p.w (box.size p) p.lo p.hi nu st (box.size p) in
    let r : BoxReport =
    record {
      sweeps = 0;
      exact_passes = 0;
      converged = true;
      exact = true;
      residual = 0ᶠ;
      idle = b.idle;
      stopped = 0;
    } in
    cond (eqb b.idle (box.size p)) (record { outcome = solved r; nu = b.nu; states = b.states; listed = l })
    (result p b.idle l (run cap p m (iterate b.nu b.states (counts 0 0 0)) cap))

-- ---- refusals: a test and what it refuses by, in the order of document 01

-- the refusal of the first test that holds
abbrev pub first : List (Bool × Refusal) → Option Refusal
first [] = None
first (c ∷ l) = cond c.0 (Some c.1) (first l)

-- `workspace` is the length of the workspace.
unfoldable pub refusal : box.Problem → List Float → List Float → List ℕ → List ℕ → ℕ → Option Refusal
refusal p motion nu st l workspace =
    let n = box.size p in
    first
    ((ltb box.MAX_ROWS n || ltb MAX_MOTION (length motion), by.TooLarge)
    ∷ (not (eqb (length p.w) (n * n)), by.NotSquare)
    ∷ (not (eqb (length p.lo) n && eqb (length p.hi) n && eqb (length p.scale) n && eqb (length nu) n), by.Unequal)
    ∷ (not (every (λ (i : ℕ). is_finite (at p.scale i) && lt 0ᶠ (at p.scale i)) n), by.Scale)
    ∷ (ltb 0 n && not (eqb (length motion % n) 0), by.Motion)
    ∷ (ltb workspace WORKSPACE || ltb (length st) n || ltb (length l) n, by.Short)
    ∷ [])

-- states past the n of the problem stay
unfoldable pub reply : ℕ → box.Problem → Watch → List Float → List ℕ → List ℕ → Option Refusal → Result
reply cap p m nu st l None =
    let x = solve cap p m nu (take (box.size p) st) l in
    record { outcome = x.outcome; nu = x.nu; states = x.states ++ drop (box.size p) st; listed = x.listed }
reply cap p m nu st l (Some r) = record { outcome = refused r; nu = nu; states = st; listed = l }

unfoldable pub solve_reply : box.Problem → Watch → List Float → List ℕ → List ℕ → ℕ → Result
solve_reply p m nu st l workspace = reply SWEEP_CAP p m nu st l (refusal p m.motion nu st l workspace)

-- ---- what the call promises

-- the code's answer to an outcome: the rows of an infeasible one are the filled front of the row list, of which it
-- tells the length
abbrev pub answer_of : Outcome → ResultOf BoxOutcome Refusal
answer_of (refused k) = Err k
answer_of (solved r) = Ok (Solved r)
answer_of (infeasible c l r) = Ok (Infeasible c (length l) r)

-- how many values at the workspace's front are free afterwards: none where the call is refused
abbrev pub used : Outcome → ℕ
used (refused k) = 0
used (solved r) = WORKSPACE
used (infeasible c l r) = WORKSPACE

-- The answer r of a call is that of the result x, and so are the multipliers, the states and the row list that it
-- leaves. The workspace held `work` before the call and `work'` after it.
pub record Left (x : Result) (r : ResultOf BoxOutcome Refusal) (nu : List Float) (st rows : List ℕ)
    (work work' : List Float)
    : Type 0 where
  pub answer : r ≡ answer_of x.outcome
  pub multipliers : nu ≡ x.nu
  pub states : st ≡ x.states
  pub listed : rows ≡ x.listed
  pub workspace : drop (used x.outcome) work' ≡ drop (used x.outcome) work
