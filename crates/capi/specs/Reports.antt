-- A SolveReport as plain numbers: ten counts, the two flags among them as 0 or another number, and the residual beside them. Definitions only.
use Rattle.std.specs.Prelude.{ℕ, ◌≡◌, Bool, true, false, ◌&&◌, List, leb, get_or, set, length, Ok, Err, Float}
use Rattle.flags.specs.Flags.{flag, flagged}
use Rattle.report.specs.declared.SolveReport.{SolveReport}
use Rattle.refusals.specs.declared.Refusal.TheVariants.{Join}
use Rattle.refusals.specs.Numbers as numbers
use Rattle.report.specs.Joins.{Answer}

-- counts in the order increments, iterations, most_iterations, rejected, anchors, sweeps, exact_passes, converged, exact, stopped
unfoldable pub read : List ℕ → Float → SolveReport
read l residual =
    record {
      increments = get_or l 0 0;
      iterations = get_or l 1 0;
      most_iterations = get_or l 2 0;
      rejected = get_or l 3 0;
      anchors = get_or l 4 0;
      sweeps = get_or l 5 0;
      exact_passes = get_or l 6 0;
      converged = flagged (get_or l 7 0);
      exact = flagged (get_or l 8 0);
      stopped = get_or l 9 0;
      residual = residual;
    }

-- the list with the report's counts in its first ten places
unfoldable pub written : SolveReport → List ℕ → List ℕ
written r l =
    set (set (set (set (set (set (set (set (set (set l 0 r.increments) 1 r.iterations) 2 r.most_iterations) 3 r.rejected) 4 r.anchors) 5 r.sweeps) 6 r.exact_passes) 7 (flag r.converged)) 8 (flag r.exact)) 9 r.stopped

-- ---- what a join by plain numbers answers and leaves: 13 too where a slice is shorter than ten counts or one residual

unfoldable pub taken : List ℕ → List ℕ → List ℕ → List Float → Bool
taken a b counts residual = leb 10 (length a) && leb 10 (length b) && leb 10 (length counts) && leb 1 (length residual)

abbrev pub reply : Bool → Answer → Answer
reply true x = x
reply false x = Err Join

abbrev pub number : Answer → ℕ
number (Err e) = numbers.number e
number (Ok r) = 0

abbrev pub counts_left : Answer → List ℕ → List ℕ
counts_left (Err e) l = l
counts_left (Ok r) l = written r l

abbrev pub residual_left : Answer → List Float → List Float
residual_left (Err e) l = l
residual_left (Ok r) l = set l 0 r.residual

pub record Left (x : Answer) (r : ℕ) (counts counts' : List ℕ) (residual residual' : List Float) : Type 0 where
  pub number_is : r ≡ number x
  pub counts_are : counts' ≡ counts_left x counts
  pub residual_is : residual' ≡ residual_left x residual
