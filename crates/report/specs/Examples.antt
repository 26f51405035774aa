-- Worked joins, residuals by their bit patterns, as one table that the checker computes.
use Rattle.std.specs.Prelude.{◌≡◌, refl, Bool, true, false, ◌&&◌, List, [], ◌∷◌, ℕ, eqb, Ok, Err}
use Rattle.std.specs.Bool.{beq}
use Rattle.std.specs.Float.{binary64}
use Rattle.std.specs.Float.Ieee.{of_bits, to_bits, add, lt, eq, ne}
use Rattle.floats.specs.Helpers.{larger}
use Rattle.refusals.specs.declared.Refusal.TheVariants.{Join}
use Rattle.refusals.specs.Numbers.{number}
use Rattle.report.specs.declared.SolveReport.{SolveReport}
use Rattle.report.specs.Joins.{NOTHING, sum_fits, sums_fit, all_sums_fit, Answer, and, continued, all}

-- ---- reports and answers compared, every NaN as one

unfoldable pub same_report : SolveReport → SolveReport → Bool
same_report a b =
    eqb a.increments b.increments
    && eqb a.iterations b.iterations
    && eqb a.most_iterations b.most_iterations
    && eqb a.rejected b.rejected
    && eqb a.anchors b.anchors
    && eqb a.sweeps b.sweeps
    && eqb a.exact_passes b.exact_passes
    && eqb a.stopped b.stopped
    && beq a.converged b.converged
    && beq a.exact b.exact
    && eqb (to_bits binary64 a.residual) (to_bits binary64 b.residual)

alike : Answer → Answer → Bool
alike (Err e) (Err f) = eqb (number e) (number f)
alike (Err e) (Ok b) = false
alike (Ok a) (Err f) = false
alike (Ok a) (Ok b) = same_report a b

-- the counts in the order of the struct's fields, the flags, and the residual's bits
report : ℕ → ℕ → ℕ → ℕ → ℕ → ℕ → ℕ → ℕ → Bool → Bool → ℕ → SolveReport
report i n m r a s p t c e x =
    record {
      increments = i;
      iterations = n;
      most_iterations = m;
      rejected = r;
      anchors = a;
      sweeps = s;
      exact_passes = p;
      stopped = t;
      converged = c;
      exact = e;
      residual = of_bits binary64 x;
    }

-- a report of nothing but a residual, or of one count
rest : ℕ → SolveReport
rest x = report 0 0 0 0 0 0 0 0 true true x

sweeps : ℕ → SolveReport
sweeps k = report 0 0 0 0 0 k 0 0 true true 0

stops : ℕ → SolveReport
stops k = report 0 0 0 0 0 0 0 k true true 0

-- ---- a case: what is joined, and last what must come out

data Case : Type 0 where
  ands continues : SolveReport → SolveReport → Answer → Case
  lists : List SolveReport → Answer → Case

passes : Case → Bool
unfolding and continued all all_sums_fit sums_fit sum_fits larger of_bits to_bits add lt eq ne
passes (ands a b r) = alike (and a b) r
passes (continues a b r) = alike (continued a b) r
passes (lists l r) = alike (all l) r

every : List Case → Bool
every [] = true
every (c ∷ l) = passes c && every l

-- ---- values: 0, 1, 2, infinity, NaN, and what they are with a minus

abbrev +0 : ℕ
+0 = 0

abbrev −0 : ℕ
−0 = 0x8000000000000000

abbrev one : ℕ
one = 0x3FF0000000000000

abbrev two : ℕ
two = 0x4000000000000000

abbrev −one : ℕ
−one = 0xBFF0000000000000

abbrev ∞ : ℕ
∞ = 0x7FF0000000000000

abbrev nan_bits : ℕ
nan_bits = 0x7FF8000000000000

abbrev most : ℕ
most = 4294967295

-- the seven counts that `and` adds, each at x, and most_iterations too
each : ℕ → SolveReport
each x = report x x x x x x x x true true 0

cases : List Case
cases =
    -- every field: counts added, the larger most_iterations, flags both, the larger residual; in either order
    ands (report 1 2 3 4 5 6 7 8 true false one) (report 10 20 2 40 50 60 70 80 true true two)
    (Ok (report 11 22 3 44 55 66 77 88 true false two)) ∷
    ands (report 10 20 2 40 50 60 70 80 true true two) (report 1 2 3 4 5 6 7 8 true false one)
    (Ok (report 11 22 3 44 55 66 77 88 true false two)) ∷
    ands (report 0 0 1 0 0 0 0 0 false true two) (report 0 0 9 0 0 0 0 0 true false one)
    (Ok (report 0 0 9 0 0 0 0 0 false false two)) ∷
    -- continued: the larger increments, most_iterations the sum of iterations, converged and residual the second's,
    -- exact both
    continues (report 1 2 9 4 5 6 7 8 true true two) (report 1 20 8 40 50 60 70 80 false true one)
    (Ok (report 1 22 22 44 55 66 77 88 false true one)) ∷
    continues (report 3 2 9 4 5 6 7 8 false false nan_bits) (report 1 20 8 40 50 60 70 80 true true −one)
    (Ok (report 3 22 22 44 55 66 77 88 true false −one)) ∷
    continues (report 1 0 0 0 0 0 0 0 true true one) (report 2 0 0 0 0 0 0 0 true false nan_bits)
    (Ok (report 2 0 0 0 0 0 0 0 true false nan_bits)) ∷
    -- zeros: +0 unless both are -0
    ands (rest +0) (rest −0) (Ok (rest +0)) ∷
    ands (rest −0) (rest +0) (Ok (rest +0)) ∷
    ands (rest −0) (rest −0) (Ok (rest −0)) ∷
    continues (rest +0) (rest −0) (Ok (rest −0)) ∷
    -- NaN on either side and on both
    ands (rest nan_bits) (rest one) (Ok (rest one)) ∷
    ands (rest one) (rest nan_bits) (Ok (rest one)) ∷
    ands (rest nan_bits) (rest nan_bits) (Ok (rest nan_bits)) ∷
    ands (rest ∞) (rest nan_bits) (Ok (rest ∞)) ∷
    -- NOTHING is no identity
    ands NOTHING (rest −one) (Ok (rest +0)) ∷
    ands NOTHING (rest nan_bits) (Ok (rest +0)) ∷
    ands NOTHING (rest one) (Ok (rest one)) ∷
    -- each sum at the limit, and one past it
    ands (each 1) (each 4294967294) (Ok (report most most 4294967294 most most most most most true true 0)) ∷
    ands (report 1 0 0 0 0 0 0 0 true true 0) (each most) (Err Join) ∷
    ands (report 0 1 0 0 0 0 0 0 true true 0) (each most) (Err Join) ∷
    ands (report 0 0 1 0 0 0 0 0 true true 0) (each most) (Ok (each most)) ∷
    ands (report 0 0 0 1 0 0 0 0 true true 0) (each most) (Err Join) ∷
    ands (report 0 0 0 0 1 0 0 0 true true 0) (each most) (Err Join) ∷
    ands (report 0 0 0 0 0 1 0 0 true true 0) (each most) (Err Join) ∷
    ands (report 0 0 0 0 0 0 1 0 true true 0) (each most) (Err Join) ∷
    ands (report 0 0 0 0 0 0 0 1 true true 0) (each most) (Err Join) ∷
    -- continued adds no increments
    continues (each 1) (each 4294967294) (Ok (report 4294967294 most most most most most most most true true 0)) ∷
    continues (report most 0 0 0 0 0 0 0 true true 0) (each most) (Ok (each most)) ∷
    continues (report 0 1 0 0 0 0 0 0 true true 0) (each most) (Err Join) ∷
    continues (report 0 0 most 0 0 0 0 0 true true 0) (each most) (Ok (each most)) ∷
    continues (report 0 0 0 1 0 0 0 0 true true 0) (each most) (Err Join) ∷
    continues (report 0 0 0 0 1 0 0 0 true true 0) (each most) (Err Join) ∷
    continues (report 0 0 0 0 0 1 0 0 true true 0) (each most) (Err Join) ∷
    continues (report 0 0 0 0 0 0 1 0 true true 0) (each most) (Err Join) ∷
    continues (report 0 0 0 0 0 0 0 1 true true 0) (each most) (Err Join) ∷
    -- lists: none, one, several; a sum that is too large in the middle, and one that is just not
    lists [] (Ok NOTHING) ∷
    lists (rest −one ∷ []) (Ok (rest +0)) ∷
    lists (rest −0 ∷ rest nan_bits ∷ []) (Ok (rest +0)) ∷
    lists (rest one ∷ rest nan_bits ∷ rest two ∷ rest one ∷ []) (Ok (rest two)) ∷
    lists (sweeps 4294967294 ∷ sweeps 1 ∷ sweeps 0 ∷ []) (Ok (sweeps most)) ∷
    lists (sweeps 4294967294 ∷ sweeps 2 ∷ sweeps 0 ∷ []) (Err Join) ∷
    lists (sweeps most ∷ rest one ∷ sweeps 1 ∷ []) (Err Join) ∷
    -- the rows stopped are summed too
    lists (stops 4294967263 ∷ stops 32 ∷ sweeps 0 ∷ []) (Ok (stops most)) ∷
    lists (stops 4294967264 ∷ stops 32 ∷ []) (Err Join) ∷ []

table : every cases ≡ true
unfolding every cases passes alike same_report report rest sweeps stops each
table = refl
