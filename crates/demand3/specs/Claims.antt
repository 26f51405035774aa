-- What demand 3 says of one solve and its answer, in the order of document 01's "The words of demand 3". Definitions only.
-- They are written with the comparisons and the numbers themselves and not with the solver's helpers: an error in a helper would otherwise stand on both sides.
use Rattle.std.specs.Prelude.{ℕ, zero, suc, ◌+◌, ◌*◌, ◌≤◌, ◌<◌, ◌≡◌, Bool, true, false, cond, ◌&&◌, ◌||◌, List, [], ◌∷◌, leb, ltb, length, get_or, set, take, replicate, Float}
use Rattle.std.specs.Float.{nan, inf, fin}
use Rattle.std.specs.Float.Ieee.{lt, le, eq, ne}
use Rattle.floats.specs.Ops.{◌⊕◌, ◌⊖◌, ◌⊗◌, ◌⊘◌, at, Fits, 0ᶠ, 1e6, 1e-9, ∞, −∞}
use Rattle.box_rows.specs.Rows.{Problem, size}
use Rattle.exact_pass.specs.Pass as pass
use Rattle.exact_pass.specs.Pass.{Trial, trial, free_rows, moved, found, exact_pass}
use Rattle.boxed.specs.Sweep as sweep
use Rattle.boxed.specs.Solve.{Iterate, iterate, counts, Run, going, ended, Watch, checkpoint, run, SWEEP_CAP, Outcome, refused, solved, infeasible, Result, used}
use Rattle.boxed.specs.declared.BoxReport.{BoxReport}
use Rattle.boxed.specs.declared.Cause.{Cause}
use Rattle.boxed.specs.declared.Cause.TheVariants as cause
use Rattle.std.specs.Prelude.{None, Some}
use Rattle.refusals.specs.declared.Refusal.{Refusal as Why}
use Rattle.tally.specs.Tally.{Call, refusal}

-- ---- the hypothesis

-- every lower bound at most its upper, and each a value that an f64 holds, as every float of a call is
pub record BoundsInOrder (p : Problem) : Type 0 where
  pub ordered : (i : ℕ) → i < size p → le (at p.lo i) (at p.hi i) ≡ true
  pub lows : (i : ℕ) → i < size p → Fits (at p.lo i)
  pub highs : (i : ℕ) → i < size p → Fits (at p.hi i)

-- ---- the words

-- |v|, which is v with its sign bit clear
abbrev pub magnitude : Float → Float
magnitude nan = nan
magnitude (inf s) = inf false
magnitude (fin s m e) = fin false m e

-- W_ij, the matrix being held by rows
abbrev pub cell : Problem → ℕ → ℕ → Float
cell p i j = at p.w (i * size p + j)

-- u_i over the first k columns: u_free_i, then + W_ij nu_j for j rising
unfoldable pub sum_to : Problem → List Float → ℕ → ℕ → Float
sum_to p nu i zero = at p.u_free i
sum_to p nu i (suc j) = sum_to p nu i j ⊕ cell p i j ⊗ at nu j

-- lo if v < lo, else hi if v > hi, else v
abbrev pub within : Float → Float → Float → Float
within v lo hi = cond (lt v lo) lo (cond (lt hi v) hi v)

-- |nu_i - clamp(nu_i - u_i / W_ii)| / scale_i, of one row's values
unfoldable pub distance : Float → Float → Float → Float → Float → Float → Float
distance v u d lo hi s = magnitude (v ⊖ within (v ⊖ u ⊘ d) lo hi) ⊘ s

-- row i's natural residual with the multipliers nu
abbrev pub own_residual : Problem → List Float → ℕ → Float
own_residual p nu i = distance (at nu i) (sum_to p nu i (size p)) (cell p i i) (at p.lo i) (at p.hi i) (at p.scale i)

-- a row acts unless it is Idle, its diagonal NaN or at most 0
abbrev pub acting : Problem → ℕ → Bool
acting p i = lt 0ᶠ (cell p i i)

abbrev pub NoneActs : Problem → Type 0
NoneActs p = (i : ℕ) → i < size p → acting p i ≡ false

-- NaN, or at least lo and at most hi
abbrev pub NaNOrInBox : Problem → List Float → ℕ → Type 0
NaNOrInBox p nu i = ne (at nu i) (at nu i) || (le (at p.lo i) (at nu i) && le (at nu i) (at p.hi i)) ≡ true

-- the sweeps with an exact pass, and how many of them are not above k, or below k
abbrev pub pass_sweeps : List ℕ
pass_sweeps = 1 ∷ 2 ∷ 4 ∷ 8 ∷ 16 ∷ 32 ∷ 64 ∷ 128 ∷ 200 ∷ []

abbrev pub members_not_above : ℕ → List ℕ → ℕ
members_not_above k [] = 0
members_not_above k (c ∷ l) = cond (leb c k) 1 0 + members_not_above k l

abbrev pub members_below : ℕ → List ℕ → ℕ
members_below k [] = 0
members_below k (c ∷ l) = cond (ltb c k) 1 0 + members_below k l

unfoldable pub not_above : ℕ → ℕ
not_above k = members_not_above k pass_sweeps

unfoldable pub below : ℕ → ℕ
below k = members_below k pass_sweeps

-- ---- the sweeps of a solve, by the names of its definition

-- what the first sweep starts from: every multiplier clamped, and each row Idle or inside
abbrev pub start_of : Problem → List Float → List ℕ → sweep.Start
start_of p nu st = sweep.start p.w (size p) p.lo p.hi nu (take (size p) st) (size p)

abbrev pub started : Call → sweep.Start
started c = start_of c.problem c.nu c.states

abbrev pub first_iterate : sweep.Start → Iterate
first_iterate b = iterate b.nu b.states (counts 0 0 0)

-- the solve after k sweeps, and whether it still goes on
abbrev pub after_sweeps : Call → ℕ → Run
after_sweeps c k = run SWEEP_CAP c.problem c.watch (first_iterate (started c)) k

abbrev pub goes_on : Run → Bool
goes_on (going s) = true
goes_on (ended e s) = false

-- the multipliers that one sweep leaves of nu
abbrev pub one_sweep : Problem → List ℕ → List Float → List Float
one_sweep p st nu = sweep.sweep p.w p.u_free p.lo p.hi st nu (size p)

-- whether sweep k + 1 makes an exact pass, the solve after k sweeps being x: it is a sweep with a pass, and growth does not end it
abbrev pub none : List ℕ → Bool
none [] = true
none (a ∷ l) = false

abbrev pub makes_pass : Problem → ℕ → Run → Bool
makes_pass p k (going s) = checkpoint SWEEP_CAP (suc k) && none (sweep.grown (one_sweep p s.states s.nu) p.scale (size p))
makes_pass p k (ended e s) = false

-- the exact passes that the first k sweeps from s make
unfoldable pub passes_made : Problem → Watch → Iterate → ℕ → ℕ
passes_made p m s zero = 0
passes_made p m s (suc k) = passes_made p m s k + cond (makes_pass p k (run SWEEP_CAP p m s k)) 1 0

abbrev pub passes_in : Call → ℕ → ℕ
passes_in c k = passes_made c.problem c.watch (first_iterate (started c)) k

-- ---- the sweeps' multipliers and the rows that they stop, in these words alone: no name of the solver's definition

-- The multipliers as the first sweep finds them, the first k of them clamped: the row's own where it acts, else 0.
unfoldable pub clamped_to : Problem → List Float → ℕ → List Float
clamped_to p nu zero = nu
clamped_to p nu (suc i) = set (clamped_to p nu i) i (within (cond (acting p i) (at nu i) 0ᶠ) (at p.lo i) (at p.hi i))

-- where the update of row i puts it before its box is looked at: nu_i - u_i / W_ii
abbrev pub unclamped : Problem → List Float → ℕ → Float
unclamped p nu i = at nu i ⊖ sum_to p nu i (size p) ⊘ cell p i i

-- row i updated, where it acts
unfoldable pub updated_at : Problem → ℕ → List Float → List Float
updated_at p i nu = cond (acting p i) (set nu i (within (unclamped p nu i) (at p.lo i) (at p.hi i))) nu

-- what a sweep has made of nu when it comes to row i: the rows before it are updated, in order
unfoldable pub swept_to : Problem → List Float → ℕ → List Float
swept_to p nu zero = nu
swept_to p nu (suc i) = updated_at p i (swept_to p nu i)

-- The multipliers that k sweeps leave of nu, no exact pass between: only the pass that ends a solve changes a multiplier.
unfoldable pub sweeps_alone : Problem → List Float → ℕ → List Float
sweeps_alone p nu zero = nu
sweeps_alone p nu (suc k) = swept_to p (sweeps_alone p nu k) (size p)

-- from the clamp before the first sweep on
abbrev pub first_multipliers : Call → List Float
first_multipliers c = clamped_to c.problem c.nu (size c.problem)

abbrev pub by_sweeps : Call → ℕ → List Float
by_sweeps c k = sweeps_alone c.problem (first_multipliers c) k

-- A bound stops a row that acts and whose update puts it past that bound: below lo or above hi. On a bound is not past it, and a NaN is past none.
abbrev pub is_stopped_at : Problem → List Float → ℕ → Bool
is_stopped_at p nu i = acting p i && (lt (unclamped p nu i) (at p.lo i) || lt (at p.hi i) (unclamped p nu i))

-- how many of the first k rows a sweep of nu stops, each when the sweep comes to it
unfoldable pub stopped_to : Problem → List Float → ℕ → ℕ
stopped_to p nu zero = 0
stopped_to p nu (suc i) = stopped_to p nu i + cond (is_stopped_at p (swept_to p nu i) i) 1 0

-- of all its rows, the last of k sweeps from nu on; none where there is no sweep
unfoldable pub stopped_by_last : Problem → List Float → ℕ → ℕ
stopped_by_last p nu zero = 0
stopped_by_last p nu (suc k) = stopped_to p (sweeps_alone p nu k) (size p)

abbrev pub stopped_in_last : Call → ℕ → ℕ
stopped_in_last c k = stopped_by_last c.problem (first_multipliers c) k

-- ---- an exact pass that finds the answer, by the names of its definition

-- what the pass tries first: the states that the multipliers show, and rows at a bound put on it
abbrev pub first_tried : Problem → List ℕ → List Float → Trial
first_tried p st nu = (pass.start p.lo p.hi p.scale nu st (size p)).trial

-- the free rows of t, and the target of a step from it: the least-norm solution of their system
abbrev pub free_in : Problem → Trial → List ℕ
free_in p t = free_rows t.states (size p)

abbrev pub target_of : Problem → Trial → pass.Target
target_of p t = pass.target p.w p.u_free p.scale t.states t.nu (free_in p t)

-- The direction of the step, a value for each free row: to the target, or, where the solution leaves too much of the system, along what it leaves.
unfoldable pub direction_of : Problem → Trial → List Float
direction_of p t = pass.direction (target_of p t).inconsistent p.scale (free_in p t) (target_of p t).z t.nu (target_of p t).y

-- of row i: 0 where it is not free
unfoldable pub direction_at : Problem → Trial → ℕ → Float
direction_at p t i = at (pass.scattered (free_in p t) (direction_of p t) (replicate (size p) 0ᶠ) (length (free_in p t))) i

-- How far along it the boxes let the rows go, by the ratio test: to the target, which is at 1, at most; along what the solution leaves without an end.
unfoldable pub step_length : Problem → Trial → Float
step_length p t =
    (pass.ratio_test p.lo p.hi (free_in p t) t.nu (direction_of p t) (pass.longest (target_of p t).inconsistent) (length (free_in p t))).alpha

-- The pass's last step, from what it had tried after the steps before to what it found: every free row (state 0) was at `from`, and the step wrote it, its length along its
-- direction.
pub record LastStep (p : Problem) (first : Trial) (nu : List Float) (st : List ℕ) : Type 0 where
  pub before : ℕ
  pub from : List Float
  pub tried : pass.steps p first before ≡ moved (trial from st)
  pub came : pass.steps p first (suc before) ≡ found (trial nu st)
  pub written : (i : ℕ) → i < size p → get_or st i 0 ≡ 0
      → at nu i ≡ at from i ⊕ step_length p (trial from st) ⊗ direction_at p (trial from st) i

-- the states of the rows, of an answer's list
abbrev pub row_states : Call → Result → List ℕ
row_states c a = take (size c.problem) a.states

-- An answer that the pass of sweep k found, from the multipliers that the sweeps left: it has written every row that acts.
pub record FoundByPass (c : Call) (a : Result) (k : ℕ) : Type 0 where
  -- the states that the pass was given; the answer has the multipliers and states that it ended with
  pub given : List ℕ
  pub pass : exact_pass c.problem given (by_sweeps c k) ≡ found (trial a.nu (row_states c a))
  -- a row that acts is free or on a bound
  pub states : (i : ℕ) → i < size c.problem → acting c.problem i ≡ true → get_or a.states i 0 ≤ 2
  -- free, the last step wrote it; on a bound, a step wrote that bound
  pub last : LastStep c.problem (first_tried c.problem given (by_sweeps c k)) a.nu (row_states c a)
  pub low : (i : ℕ) → i < size c.problem → get_or a.states i 0 ≡ 1 → at a.nu i ≡ at c.problem.lo i
  pub high : (i : ℕ) → i < size c.problem → get_or a.states i 0 ≡ 2 → at a.nu i ≡ at c.problem.hi i

-- ---- an accepted solve

-- a row on a bound: the multiplier equals it as a number, and its own residual is not above 1e-9, as no NaN is
pub record OnBound (p : Problem) (nu : List Float) (i : ℕ) (bound : Float) : Type 0 where
  pub equals : eq (at nu i) bound ≡ true
  pub own : lt 1e-9 (own_residual p nu i) ≡ false

-- what holds of every answer; `grew` is whether growth ended the solve
pub record Sound (c : Call) (a : Result) (grew : Bool) (r : BoxReport) : Type 0 where
  -- the report carries one for each sweep that the solve made: it was going on after every smaller number of them,
  pub made_sweeps : (k : ℕ) → k < r.sweeps → goes_on (after_sweeps c k) ≡ true
  -- and it ended in the last, or at 200;
  pub last_sweep : 0 < r.sweeps → goes_on (after_sweeps c r.sweeps) && ltb r.sweeps 200 ≡ false
  -- it made none exactly where no row acts,
  pub no_sweep : r.sweeps ≡ 0 → NoneActs c.problem
  pub none_acts : NoneActs c.problem → r.sweeps ≡ 0
  -- and one for each exact pass
  pub made_passes : r.exact_passes ≡ passes_in c r.sweeps
  -- at most 200 sweeps
  pub few_sweeps : r.sweeps ≤ 200
  -- exactly as many passes as 1, 2, 4 .. 128, 200 has members not above its sweeps (below, where growth ended it)
  pub passes : r.exact_passes ≡ cond grew (below r.sweeps) (not_above r.sweeps)
  -- and the rows that the last sweep stopped, at most 32, whatever a pass made of them afterwards
  pub stopped : r.stopped ≡ stopped_in_last c r.sweeps
  pub few_stopped : r.stopped ≤ 32
  -- Left by sweeps are, in an answer that is not exact, all multipliers: only the pass that finds an exact answer writes the multipliers of an answer.
  pub left_by_sweeps : r.exact ≡ false → a.nu ≡ by_sweeps c r.sweeps
  -- In an exact answer they are those of the Idle rows: that pass has written every row that acts (no row acts where there was no sweep),
  pub written : r.exact ≡ true → 0 < r.sweeps → FoundByPass c a r.sweeps
  -- and no other.
  pub idle_left : (i : ℕ) → i < size c.problem → acting c.problem i ≡ false → at a.nu i ≡ at (by_sweeps c r.sweeps) i
  -- Multipliers left by sweeps are NaN or in their boxes.
  pub in_boxes : r.exact ≡ false → (i : ℕ) → i < size c.problem → NaNOrInBox c.problem a.nu i
  pub idle_in_boxes : (i : ℕ) → i < size c.problem → acting c.problem i ≡ false → NaNOrInBox c.problem a.nu i
  -- converged but not exact means residual at most 1e-9
  pub converged : r.converged ≡ true → r.exact ≡ false → le r.residual 1e-9 ≡ true
  -- in an exact answer a row on a bound equals it, its own residual not above 1e-9: at state 1 lo, at state 2 hi
  pub at_lo : r.exact ≡ true → (i : ℕ) → i < size c.problem → get_or a.states i 0 ≡ 1 → OnBound c.problem a.nu i (at c.problem.lo i)
  pub at_hi : r.exact ≡ true → (i : ℕ) → i < size c.problem → get_or a.states i 0 ≡ 2 → OnBound c.problem a.nu i (at c.problem.hi i)

-- past a million scales where growth is the cause, else acting with no lower or no upper limit
abbrev pub PastAMillionScales : Problem → List Float → ℕ → Type 0
PastAMillionScales p nu i = lt (1e6 ⊗ at p.scale i) (magnitude (at nu i)) ≡ true

abbrev pub ActingWithoutLimit : Problem → ℕ → Type 0
ActingWithoutLimit p i = (acting p i ≡ true) × (eq (at p.lo i) −∞ || eq (at p.hi i) ∞ ≡ true)

abbrev pub Reason : Problem → List Float → Cause → ℕ → Type 0
Reason p nu cause.Growth i = PastAMillionScales p nu i
Reason p nu cause.Pass i = ActingWithoutLimit p i
Reason p nu cause.Sweep i = ActingWithoutLimit p i

-- the rows l that an infeasible answer lists
pub record Listed (p : Problem) (a : Result) (c : Cause) (l : List ℕ) : Type 0 where
  -- they are the filled front of the row list
  pub front : take (length l) a.listed ≡ l
  -- at least one
  pub some : 0 < length l
  -- rising: each above the one before
  pub rising : (k : ℕ) → suc k < length l → get_or l k 0 < get_or l (suc k) 0
  -- each a row of the problem, with its reason
  pub of_problem : (k : ℕ) → k < length l → get_or l k 0 < size p
  pub reasons : (k : ℕ) → k < length l → Reason p a.nu c (get_or l k 0)

abbrev pub grew_by : Cause → Bool
grew_by cause.Growth = true
grew_by cause.Pass = false
grew_by cause.Sweep = false

-- ---- a solve and its answer

-- a refused solve is refused as it is by itself, and its buffers hold what they were lent with: no value of the workspace is free
pub record Refusal (c : Call) (a : Result) (k : Why) : Type 0 where
  pub refused_by : refusal c ≡ Some k
  pub nu_kept : a.nu ≡ c.nu
  pub states_kept : a.states ≡ c.states
  pub list_kept : a.listed ≡ c.listed
  pub workspace_kept : used a.outcome ≡ 0

abbrev pub ClaimsOf : Call → Result → Outcome → Type 0
ClaimsOf c a (refused k) = Refusal c a k
ClaimsOf c a (solved r) = (refusal c ≡ None) × Sound c a false r
ClaimsOf c a (infeasible s l r) = (refusal c ≡ None) × Sound c a (grew_by s) r × Listed c.problem a s l

abbrev pub Claims : Call → Result → Type 0
Claims c a = ClaimsOf c a a.outcome
