-- Demand 3, as one claim about every list of tallied solves and every order of it. Definitions only; the theorem is `demand3` in proofs/Theorem.antt.
-- A list runs through the definition of the tallied call itself, each solve on the tally that the one before left. A call's contract makes its answer, its tally and what its
-- buffers hold afterwards that definition's, whatever the workspace held: the definition is given the workspace's length alone. A buffer's contents as lent are part of the
-- call (`Call`), so they go with the solve when the order changes.
use Rattle.std.specs.Prelude.{ℕ, ◌+◌, ◌≤◌, ◌≡◌, Bool, true, not, ◌&&◌, length, Float}
use mathlib.Core.List.{List, [], ◌∷◌, map, Permᴰ}
use Rattle.std.specs.Float.Ieee.{ne}
use Rattle.report.specs.Joins.{NOTHING}
use Rattle.report.specs.declared.SolveReport.{SolveReport}
use Rattle.boxed.specs.Solve.{Outcome, refused, solved, infeasible, Result}
use Rattle.boxed.specs.declared.BoxReport.{BoxReport}
use Rattle.std.specs.Prelude.{None}
use Rattle.tally.specs.Tally.{Call, refusal, alone, taken, all, Tallies}
use Rattle.demand3.specs.Claims.{BoundsInOrder, Claims}

-- of each solve of a list
abbrev pub Every : (Call → Type 0) → List Call → Type 0
Every P [] = Unit {0}
Every P (c ∷ l) = P c × Every P l

-- of each solve of a list and the answer that it is given: as many answers as solves
abbrev pub EachAnswer : (Call → Result → Type 0) → List Call → List Result → Type 0
EachAnswer P [] [] = Unit {0}
EachAnswer P [] (a ∷ r) = ⊥
EachAnswer P (c ∷ l) [] = ⊥
EachAnswer P (c ∷ l) (a ∷ r) = P c a × EachAnswer P l r

-- each solve beside its answer
abbrev pub beside : List Call → List Result → List (Call × Result)
beside [] r = []
beside (c ∷ l) [] = []
beside (c ∷ l) (a ∷ r) = (c, a) ∷ beside l r

-- ---- sums

-- of a solve accepted, its report and the multipliers that it left
pub record Accepted : Type 0 where
  pub report : BoxReport
  pub nu : List Float

abbrev pub accepted_in : Outcome → List Float → List Accepted → List Accepted
accepted_in (refused k) nu l = l
accepted_in (solved r) nu l = record { report = r; nu = nu } ∷ l
accepted_in (infeasible c s r) nu l = record { report = r; nu = nu } ∷ l

abbrev pub accepted : List Result → List Accepted
accepted [] = []
accepted (a ∷ r) = accepted_in a.outcome a.nu (accepted r)

abbrev pub sum_of : {A : Type 0} → (A → ℕ) → List A → ℕ
sum_of f [] = 0
sum_of f (r ∷ l) = f r + sum_of f l

-- the SolveReports that they were turned into
abbrev pub taken_as : Accepted → SolveReport
taken_as a = taken a.report a.nu

abbrev pub turned_into : List Result → List SolveReport
turned_into r = map taken_as (accepted r)

-- the tally's increments are the number of accepted solves, each other count the sum of that count over the SolveReports they were turned into
pub record Sums (t : Tallies) : Type 0 where
  pub increments : t.tally.increments ≡ length (accepted t.answers)
  pub iterations : t.tally.iterations ≡ sum_of (λ r. r.iterations) (turned_into t.answers)
  pub most_iterations : t.tally.most_iterations ≡ sum_of (λ r. r.most_iterations) (turned_into t.answers)
  pub rejected : t.tally.rejected ≡ sum_of (λ r. r.rejected) (turned_into t.answers)
  pub anchors : t.tally.anchors ≡ sum_of (λ r. r.anchors) (turned_into t.answers)
  pub sweeps : t.tally.sweeps ≡ sum_of (λ r. r.sweeps) (turned_into t.answers)
  pub exact_passes : t.tally.exact_passes ≡ sum_of (λ r. r.exact_passes) (turned_into t.answers)
  pub stopped : t.tally.stopped ≡ sum_of (λ r. r.stopped) (turned_into t.answers)
  -- the sweeps, passes and rows stopped that the solves themselves reported
  pub sweeps_reported : t.tally.sweeps ≡ sum_of (λ a. a.report.sweeps) (accepted t.answers)
  pub passes_reported : t.tally.exact_passes ≡ sum_of (λ a. a.report.exact_passes) (accepted t.answers)
  pub stopped_reported : t.tally.stopped ≡ sum_of (λ a. a.report.stopped) (accepted t.answers)

-- ---- flags

abbrev pub all_of : {A : Type 0} → (A → Bool) → List A → Bool
all_of f [] = true
all_of f (x ∷ l) = f x && all_of f l

-- a NaN alone differs from itself
abbrev pub not_nan : Float → Bool
not_nan x = not (ne x x)

-- the report says so, and no multiplier left is NaN
abbrev pub converged_without_nan : Accepted → Bool
converged_without_nan a = a.report.converged && all_of not_nan a.nu

abbrev pub exact_without_nan : Accepted → Bool
exact_without_nan a = a.report.exact && all_of not_nan a.nu

-- the tally is converged, or exact, exactly if the report of every accepted solve says so and no multiplier that it left is NaN
pub record Flags (t : Tallies) : Type 0 where
  pub converged : t.tally.converged ≡ all_of converged_without_nan (accepted t.answers)
  pub exact : t.tally.exact ≡ all_of exact_without_nan (accepted t.answers)

-- ---- two orders of one list

pub record Demanded (l k : List Call) : Type 0 where
  -- same tally: alike in every field
  pub tally : (all NOTHING l).tally ≡ (all NOTHING k).tally
  -- same answer: number, or outcome, cause, report, listed rows, states and multipliers
  pub answers : Permᴰ (beside l (all NOTHING l).answers) (beside k (all NOTHING k).answers)
  -- which is the answer that demand 2 defines of the solve by itself
  pub alone_one : (all NOTHING l).answers ≡ map alone l
  pub alone_other : (all NOTHING k).answers ≡ map alone k
  pub sums : Sums (all NOTHING l)
  pub flags : Flags (all NOTHING l)
  pub claims : EachAnswer Claims l (all NOTHING l).answers

-- every list of at most 20,000,000 tallied solves from an empty tally, refused ones included, with every lower bound at most its upper where accepted, and every order of it
abbrev pub Demand : Type 0
Demand = (l k : List Call) → Permᴰ l k → length l ≤ 20000000 → Every (λ c. refusal c ≡ None → BoundsInOrder c.problem) l → Demanded l k
