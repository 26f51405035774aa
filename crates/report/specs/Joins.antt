-- Reports of solves and their joins, as report.rs gives them, with document 01's larger of two residuals. Definitions
-- only; their laws are in proofs/.
use Rattle.std.specs.Prelude.{ℕ, ◌+◌, ◌≤◌, max, Bool, true, cond, ◌&&◌, List, [], ◌∷◌, leb, Result, Ok, Err}
use Rattle.floats.specs.Ops.{0ᶠ}
use Rattle.floats.specs.Helpers.{larger}
use Rattle.report.specs.declared.SolveReport.{SolveReport}
use Rattle.refusals.specs.declared.Refusal.{Refusal}
use Rattle.refusals.specs.declared.Refusal.TheVariants.{Join}

-- the report of no solve at all
abbrev pub NOTHING : SolveReport
NOTHING =
    record {
      increments = 0;
      iterations = 0;
      most_iterations = 0;
      rejected = 0;
      anchors = 0;
      sweeps = 0;
      exact_passes = 0;
      stopped = 0;
      converged = true;
      exact = true;
      residual = 0ᶠ;
    }

-- ---- two reports together, whatever their counts come to

-- a and b, as one procedure's
abbrev pub both : SolveReport → SolveReport → SolveReport
both a b =
    record {
      increments = a.increments + b.increments;
      iterations = a.iterations + b.iterations;
      most_iterations = max a.most_iterations b.most_iterations;
      rejected = a.rejected + b.rejected;
      anchors = a.anchors + b.anchors;
      sweeps = a.sweeps + b.sweeps;
      exact_passes = a.exact_passes + b.exact_passes;
      stopped = a.stopped + b.stopped;
      converged = a.converged && b.converged;
      exact = a.exact && b.exact;
      residual = larger a.residual b.residual;
    }

-- one increment, begun as a reports and gone on from there as b reports: it ended as b did
abbrev pub onward : SolveReport → SolveReport → SolveReport
onward a b =
    record {
      increments = max a.increments b.increments;
      iterations = a.iterations + b.iterations;
      most_iterations = a.iterations + b.iterations;
      rejected = a.rejected + b.rejected;
      anchors = a.anchors + b.anchors;
      sweeps = a.sweeps + b.sweeps;
      exact_passes = a.exact_passes + b.exact_passes;
      stopped = a.stopped + b.stopped;
      converged = b.converged;
      exact = a.exact && b.exact;
      residual = b.residual;
    }

-- ---- the joins, which refuse a sum that is no count

-- the largest count
abbrev pub most : ℕ
most = 4294967295

unfoldable pub sum_fits : ℕ → ℕ → Bool
sum_fits x y = leb (x + y) most

-- the sums that both joins make
unfoldable pub sums_fit : SolveReport → SolveReport → Bool
sums_fit a b =
    sum_fits a.iterations b.iterations
    && sum_fits a.rejected b.rejected
    && sum_fits a.anchors b.anchors
    && sum_fits a.sweeps b.sweeps
    && sum_fits a.exact_passes b.exact_passes
    && sum_fits a.stopped b.stopped

-- the sums that `and` makes
unfoldable pub all_sums_fit : SolveReport → SolveReport → Bool
all_sums_fit a b = sum_fits a.increments b.increments && sums_fit a b

-- the same sums, as facts
pub record Summable (a b : SolveReport) : Type 0 where
  pub iterations : a.iterations + b.iterations ≤ most
  pub rejected : a.rejected + b.rejected ≤ most
  pub anchors : a.anchors + b.anchors ≤ most
  pub sweeps : a.sweeps + b.sweeps ≤ most
  pub exact_passes : a.exact_passes + b.exact_passes ≤ most
  pub stopped : a.stopped + b.stopped ≤ most

pub record AllSummable (a b : SolveReport) : Type 0 where
  pub increments : a.increments + b.increments ≤ most
  pub others : Summable a b

-- an answer, as document 01 has it: a report, or a refusal and nothing else
abbrev pub Answer : Type 0
Answer = Result SolveReport Refusal

-- a with what both joins add up of it and b
abbrev pub sums : SolveReport → SolveReport → SolveReport
sums a b =
    record a {
      iterations = a.iterations + b.iterations;
      rejected = a.rejected + b.rejected;
      anchors = a.anchors + b.anchors;
      sweeps = a.sweeps + b.sweeps;
      exact_passes = a.exact_passes + b.exact_passes;
      stopped = a.stopped + b.stopped;
      exact = a.exact && b.exact;
    }

unfoldable pub added : SolveReport → SolveReport → Answer
added a b = cond (sums_fit a b) (Ok (sums a b)) (Err Join)

unfoldable pub and : SolveReport → SolveReport → Answer
and a b = cond (all_sums_fit a b) (Ok (both a b)) (Err Join)

unfoldable pub continued : SolveReport → SolveReport → Answer
continued a b = cond (sums_fit a b) (Ok (onward a b)) (Err Join)

-- ---- a list joined

-- what was joined so far and one more; the first refusal stays
abbrev pub next : Answer → SolveReport → Answer
next (Err e) b = Err e
next (Ok a) b = and a b

-- the list's reports joined to what was joined so far, front to back
abbrev pub from : Answer → List SolveReport → Answer
from a [] = a
from a (b ∷ l) = from (next a b) l

unfoldable pub all : List SolveReport → Answer
all l = from (Ok NOTHING) l
