-- The tallied solve of document 01: a solve whose report is joined to a tally, and a list of them. Definitions only.
use Rattle.std.specs.Prelude.{ℕ, Bool, not, cond, ◌&&◌, ◌||◌, List, [], ◌∷◌, ltb, eqb, length, Float, Option, Some, None, Ok, Err}
use Rattle.loops.specs.Loops.{every}
use Rattle.floats.specs.Ops.{at}
use Rattle.floats.specs.Helpers.{nan_test}
use Rattle.box_rows.specs.Rows.{Problem}
use Rattle.boxed.specs.Solve.{Watch, Outcome, refused, solved, infeasible, Result, reply, SWEEP_CAP}
use Rattle.boxed.specs.declared.BoxReport.{BoxReport}
use Rattle.triangle.specs.Triangle.{Sent, refusal_of}
use Rattle.refusals.specs.declared.Refusal.{Refusal}
use Rattle.refusals.specs.declared.Refusal.TheVariants as by
use Rattle.report.specs.Joins as joins
use Rattle.report.specs.declared.SolveReport.{SolveReport}

-- What a solve is given: the problem with its watched motion, the form in which its matrix came (of a triangle the problem has the mirrored matrix), and what its buffers hold as lent. Of the workspace it is the length alone, since no answer depends on what
-- the workspace held.
pub record Call : Type 0 where
  pub sent : Sent
  pub problem : Problem
  pub watch : Watch
  pub nu : List Float
  pub states : List ℕ
  pub listed : List ℕ
  pub room : ℕ

-- how the solve by itself is refused, by 5 to 10 with 16 in the place of 6 for a triangle, or not
abbrev pub refusal : Call → Option Refusal
refusal c = refusal_of c.sent c.problem c.watch.motion c.nu c.states c.listed c.room

-- the answer of the solve by itself
unfoldable pub alone : Call → Result
alone c = reply SWEEP_CAP c.problem c.watch c.nu c.states c.listed (refusal c)

-- ---- a report joined to the tally

-- whether no multiplier is NaN
abbrev pub not_nan_at : List Float → ℕ → Bool
not_nan_at nu i = not (nan_test (at nu i))

unfoldable pub no_nan : List Float → Bool
no_nan nu = every (not_nan_at nu) (length nu)

-- the SolveReport that a BoxReport is turned into: converged, or exact, only if the report says so and none of the multipliers left is NaN; all else is as reported
unfoldable pub turned : BoxReport → Bool → SolveReport
turned r none =
    record {
      increments = 1;
      iterations = 0;
      most_iterations = 0;
      rejected = 0;
      anchors = 0;
      sweeps = r.sweeps;
      exact_passes = r.exact_passes;
      stopped = r.stopped;
      converged = r.converged && none;
      exact = r.exact && none;
      residual = r.residual;
    }

-- what the tally takes a report as, nu being the multipliers that its solve left
unfoldable pub taken : BoxReport → List Float → SolveReport
taken r nu = turned r (no_nan nu)

-- a join that is refused leaves the tally as it was; number 11 is there so that none is
abbrev pub kept : SolveReport → joins.Answer → SolveReport
kept t (Err e) = t
kept t (Ok s) = s

-- the tally after a solve that left the multipliers nu; a refused one joins nothing
abbrev pub joined_to : SolveReport → Outcome → List Float → SolveReport
joined_to t (refused k) nu = t
joined_to t (solved r) nu = kept t (joins.and t (taken r nu))
joined_to t (infeasible c l r) nu = kept t (joins.and t (taken r nu))

-- ---- the tallied solve

-- whether the tally might not hold one solve more: 200 sweeps, 9 passes and 32 rows stopped at most
unfoldable pub full : SolveReport → Bool
full t = eqb t.increments 4294967295 || ltb 4294967095 t.sweeps || ltb 4294967286 t.exact_passes || ltb 4294967263 t.stopped

-- the solve's own refusal first, then that of a full tally
abbrev pub or_full : Bool → Option Refusal → Option Refusal
or_full f (Some r) = Some r
or_full f None = cond f (Some by.Tally) None

unfoldable pub refusal_on : SolveReport → Call → Option Refusal
refusal_on t c = or_full (full t) (refusal c)

-- a refusal changes nothing, whichever it is
unfoldable pub answer_on : SolveReport → Call → Result
answer_on t c = reply SWEEP_CAP c.problem c.watch c.nu c.states c.listed (refusal_on t c)

pub record Tallied : Type 0 where
  pub tally : SolveReport
  pub answer : Result

unfoldable pub with : SolveReport → Result → Tallied
with t a = record { tally = joined_to t a.outcome a.nu; answer = a }

unfoldable pub tallied : SolveReport → Call → Tallied
tallied t c = with t (answer_on t c)

-- ---- a list of tallied solves, each on the tally that the one before it left

pub record Tallies : Type 0 where
  pub tally : SolveReport
  pub answers : List Result

unfoldable pub before : Result → Tallies → Tallies
before a rest = record { tally = rest.tally; answers = a ∷ rest.answers }

unfoldable pub all : SolveReport → List Call → Tallies
all t [] = record { tally = t; answers = [] }
all t (c ∷ l) = before (tallied t c).answer (all (tallied t c).tally l)
