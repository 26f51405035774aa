-- Worked lists of tallied solves, as one table that the checker computes. Floats are written as bit patterns.
use Rattle.std.specs.Prelude.{ℕ, ◌≡◌, refl, Bool, true, false, ◌&&◌, List, [], ◌∷◌, map, eqb, Float}
use Prim.Native.String.{String}
use Rattle.std.specs.Bool.{beq}
use Rattle.std.specs.Float.{binary64}
use Rattle.std.specs.Float.Ieee.{add, sub, mul, div, of_bits, to_bits, lt, le, eq, ne, neg}
use Rattle.loops.specs.Loops as loops
use Rattle.loops.specs.Updates as updates
use Rattle.loops.specs.Lists.{same}
use Rattle.floats.specs.Helpers as helpers
use Rattle.floats.specs.Sqrt as root
use Rattle.floats.specs.Sums as sums
use Rattle.least_norm.specs.Reflector as reflector
use Rattle.least_norm.specs.LeastNorm as least
use Rattle.box_rows.specs.Rows as box
use Rattle.exact_pass.specs.Ray as rays
use Rattle.exact_pass.specs.Pass as pass
use Rattle.boxed.specs.Sweep as sweep
use Rattle.boxed.specs.Solve as solve
use Rattle.triangle.specs.Triangle.{whole, triangle, row_start, within_limits, wrong_length, triangle_refusal, refusal_of}
use Rattle.report.specs.Joins as joins
use Rattle.report.specs.Examples.{same_report}
use Rattle.report.specs.declared.SolveReport.{SolveReport}
use Rattle.tally.specs.Tally as def
use Rattle.refusals.specs.Numbers as numbers

-- ---- what is tallied

abbrev pub floats : List ℕ → List Float
floats l = map (of_bits binary64) l

-- a workspace of so many values, and a call whose buffers hold 9s and 7s
abbrev pub call : ℕ → List ℕ → List ℕ → List ℕ → List ℕ → List ℕ → List ℕ → def.Call
call room w u lo hi s nu =
    record {
      sent = whole;
      problem = box.problem (floats w) (floats u) (floats lo) (floats hi) (floats s);
      watch = record { motion = []; tolerance = of_bits binary64 0 };
      nu = floats nu;
      states = 9 ∷ 9 ∷ [];
      listed = 7 ∷ 7 ∷ [];
      room = room;
    }

abbrev pub ∞ : ℕ
∞ = 0x7FF0000000000000

abbrev pub one : ℕ
one = 0x3FF0000000000000

-- no rows: 0 sweeps
abbrev pub empty : def.Call
empty = call 2304 [] [] [] [] [] []

-- one row, found by the pass of sweep 1
abbrev pub exact : ℕ → def.Call
exact room = call room (0x4000000000000000 ∷ []) (0xC010000000000000 ∷ []) (0 ∷ []) (∞ ∷ []) (one ∷ []) (0 ∷ [])

-- growth at sweep 1, before its pass
abbrev pub grows : def.Call
grows = call 2304 (0x3E70000000000000 ∷ []) (0xBFF0000000000000 ∷ []) (0 ∷ []) (∞ ∷ []) (one ∷ []) (0 ∷ [])

-- two rows that fight, found by the pass of sweep 1, the residual 2
abbrev pub fights : def.Call
fights =
    call 2304 (one ∷ 0xBFF0000000000000 ∷ 0xBFF0000000000000 ∷ one ∷ []) (0xBFF0000000000000 ∷ 0xBFF0000000000000 ∷ []) (0 ∷ 0 ∷ []) (∞ ∷ ∞ ∷ []) (one ∷ one ∷ [])
    (0 ∷ 0 ∷ [])

-- one row that the sweep stops at its lower bound, 0
abbrev pub stops : def.Call
stops = call 2304 (one ∷ []) (0x4010000000000000 ∷ []) (0 ∷ []) (∞ ∷ []) (one ∷ []) (0 ∷ [])

-- growth of row 0 at sweep 1, beside a row that the sweep stops
abbrev pub grows_beside : def.Call
grows_beside =
    call 2304 (0x3E70000000000000 ∷ 0 ∷ 0 ∷ one ∷ []) (0xBFF0000000000000 ∷ 0x4010000000000000 ∷ []) (0 ∷ 0 ∷ []) (∞ ∷ ∞ ∷ []) (one ∷ one ∷ []) (0 ∷ 0 ∷ [])

-- ---- torn wires: what they leave as a multiplier may be NaN

abbrev pub nan : ℕ
nan = 0x7FF8000000000000

-- one row whose cell is dead: NaN is left
abbrev pub dead : def.Call
dead = call 2304 (one ∷ []) (nan ∷ []) (0 ∷ []) (∞ ∷ []) (one ∷ []) (0 ∷ [])

-- two rows that do not act on each other: row 0 is left on its bound, 0, and row 1 is NaN
abbrev pub dead_last : def.Call
dead_last = call 2304 (one ∷ 0 ∷ 0 ∷ one ∷ []) (one ∷ nan ∷ []) (0 ∷ 0 ∷ []) (∞ ∷ ∞ ∷ []) (one ∷ one ∷ []) (0 ∷ 0 ∷ [])

-- row 0 NaN, and row 1 with it although its box is 0 alone: 0 times NaN is NaN
abbrev pub dead_first : def.Call
dead_first = call 2304 (one ∷ 0 ∷ 0 ∷ one ∷ []) (nan ∷ one ∷ []) (0 ∷ 0 ∷ []) (∞ ∷ 0 ∷ []) (one ∷ one ∷ []) (0 ∷ 0 ∷ [])

-- row 0 NaN beside an Idle row, which is left 0
abbrev pub dead_beside_idle : def.Call
dead_beside_idle = call 2304 (one ∷ 0 ∷ 0 ∷ 0 ∷ []) (nan ∷ one ∷ []) (0 ∷ 0 ∷ []) (∞ ∷ ∞ ∷ []) (one ∷ one ∷ []) (0 ∷ 0 ∷ [])

-- an Idle row whose free motion is u and whose multiplier starts from x, beside a row that is found
abbrev pub idle_beside : ℕ → ℕ → def.Call
idle_beside u x =
    call 2304 (0 ∷ 0 ∷ 0 ∷ 0x4000000000000000 ∷ []) (u ∷ 0xC010000000000000 ∷ []) (0 ∷ 0 ∷ []) (∞ ∷ ∞ ∷ []) (one ∷ one ∷ []) (x ∷ 0 ∷ [])

-- the same call, its watched motion within a tolerance of NaN
abbrev pub within_nan : def.Call → def.Call
within_nan c =
    record {
      sent = c.sent;
      problem = c.problem;
      watch = record { motion = []; tolerance = of_bits binary64 nan };
      nu = c.nu;
      states = c.states;
      listed = c.listed;
      room = c.room;
    }

-- one row whose multiplier starts as NaN, and stays so
abbrev pub dead_start : def.Call
dead_start = call 2304 (0x4000000000000000 ∷ []) (0xC010000000000000 ∷ []) (0 ∷ []) (∞ ∷ []) (one ∷ []) (nan ∷ [])

-- an infinite multiplier is left, which is no NaN
abbrev pub infinite : def.Call
infinite = call 2304 (one ∷ []) (0xFFF0000000000000 ∷ []) (0 ∷ []) (∞ ∷ []) (0x7ED754E31CD072DA ∷ []) (0 ∷ [])

-- a lower bound of NaN, which no multiplier meets
abbrev pub boundless : def.Call
boundless = call 2304 (one ∷ []) (0xBFF0000000000000 ∷ []) (nan ∷ []) (∞ ∷ []) (one ∷ []) (0 ∷ [])

-- growth of row 0 beside a row that is NaN
abbrev pub grows_beside_dead : def.Call
grows_beside_dead =
    call 2304 (0x3E70000000000000 ∷ 0 ∷ 0 ∷ one ∷ []) (0xBFF0000000000000 ∷ nan ∷ []) (0 ∷ 0 ∷ []) (∞ ∷ ∞ ∷ []) (one ∷ one ∷ []) (0 ∷ 0 ∷ [])

-- all rows Idle
abbrev pub dead_idle : def.Call
dead_idle = call 2304 (0 ∷ []) (nan ∷ []) (0 ∷ []) (∞ ∷ []) (one ∷ []) (0 ∷ [])

-- converged by a sweep, not exact, with NaN left in both rows
abbrev pub dead_by_sweeps : def.Call
dead_by_sweeps =
    call 2304 (one ∷ 0 ∷ 0 ∷ one ∷ []) (nan ∷ 0xFFE1CCF385EBC8A0 ∷ []) (∞ ∷ 0xFFF0000000000000 ∷ []) (0xC000000000000000 ∷ nan ∷ []) (one ∷ 0x7FEFFFFFFFFFFFFF ∷ []) (∞ ∷ ∞ ∷ [])

-- NaN in the matrix, the free motion and the multiplier, and a scale of 0, which is number 8
abbrev pub refuses_dead : def.Call
refuses_dead = call 2304 (nan ∷ []) (nan ∷ []) (0 ∷ []) (∞ ∷ []) (0 ∷ []) (nan ∷ [])

-- a scale of 0, which is number 8
abbrev pub refuses : def.Call
refuses = call 2304 (one ∷ []) (0 ∷ []) (0 ∷ []) (0 ∷ []) (0 ∷ []) (one ∷ [])

-- the same with W sent as a triangle of k values
abbrev pub lower : ℕ → def.Call → def.Call
lower k c =
    record { sent = triangle k; problem = c.problem; watch = c.watch; nu = c.nu; states = c.states; listed = c.listed; room = c.room }

-- ---- what must come out

-- increments, sweeps, passes, rows stopped, flags and the residual's bits
counts : ℕ → ℕ → ℕ → ℕ → Bool → Bool → ℕ → SolveReport
counts i s p k c e x =
    record {
      increments = i;
      iterations = 0;
      most_iterations = 0;
      rejected = 0;
      anchors = 0;
      sweeps = s;
      exact_passes = p;
      stopped = k;
      converged = c;
      exact = e;
      residual = of_bits binary64 x;
    }

-- a tally of solves that all ended well
tally_of : ℕ → ℕ → ℕ → ℕ → SolveReport
tally_of i s p k = counts i s p k true true 0

-- its name, the tally at first, the calls, the tally left, and the number of each call, 0 where it is accepted
pub record Case : Type 0 where
  name : String
  first : SolveReport
  calls : List def.Call
  left : SolveReport
  numbers : List ℕ

case : String → SolveReport → List def.Call → SolveReport → List ℕ → Case
case m t l s n = record { name = m; first = t; calls = l; left = s; numbers = n }

number_in : solve.Outcome → ℕ
number_in (solve.refused r) = numbers.number r
number_in (solve.solved r) = 0
number_in (solve.infeasible c l r) = 0

-- a refused call leaves its buffers
unless : solve.Outcome → Bool → Bool
unless (solve.refused k) b = b
unless (solve.solved r) b = true
unless (solve.infeasible c l r) b = true

same_buffers : def.Call → solve.Result → Bool
same_buffers c a = same (map (to_bits binary64) a.nu) (map (to_bits binary64) c.nu) && same a.states c.states && same a.listed c.listed

answers_are : List def.Call → List solve.Result → List ℕ → Bool
answers_are [] [] [] = true
answers_are [] [] (k ∷ n) = false
answers_are [] (a ∷ r) n = false
answers_are (c ∷ l) [] n = false
answers_are (c ∷ l) (a ∷ r) [] = false
answers_are (c ∷ l) (a ∷ r) (k ∷ n) = eqb (number_in a.outcome) k && unless a.outcome (same_buffers c a) && answers_are l r n

comes_to : Case → def.Tallies → Bool
comes_to c t = same_report t.tally c.left && answers_are c.calls t.answers c.numbers

passes : Case → Bool
passes c = comes_to c (def.all c.first c.calls)

all_pass : List Case → Bool
all_pass [] = true
all_pass (c ∷ l) = passes c && all_pass l

cases : List Case
cases =
    case "growth, a fight and a refused solve, which joins nothing" joins.NOTHING (grows ∷ fights ∷ refuses ∷ [])
    (counts 2 2 1 0 false false 0x4000000000000000) (0 ∷ 0 ∷ 8 ∷ []) ∷
    case "the same in another order" joins.NOTHING (refuses ∷ fights ∷ grows ∷ []) (counts 2 2 1 0 false false 0x4000000000000000) (8 ∷ 0 ∷ 0 ∷ []) ∷
    case "exact solves, and one of no rows" joins.NOTHING (exact 2304 ∷ empty ∷ exact 2304 ∷ []) (tally_of 3 2 2 0) (0 ∷ 0 ∷ 0 ∷ []) ∷
    case "no solve" joins.NOTHING [] joins.NOTHING [] ∷
    case "11 by increments" (tally_of 4294967295 0 0 0) (empty ∷ []) (tally_of 4294967295 0 0 0) (11 ∷ []) ∷
    case "one increment below, then 11" (tally_of 4294967294 0 0 0) (empty ∷ exact 2304 ∷ []) (tally_of 4294967295 0 0 0) (0 ∷ 11 ∷ []) ∷
    case "11 by sweeps" (tally_of 0 4294967096 0 0) (exact 2304 ∷ []) (tally_of 0 4294967096 0 0) (11 ∷ []) ∷
    case "one sweep below, then 11" (tally_of 0 4294967095 0 0) (exact 2304 ∷ empty ∷ []) (tally_of 1 4294967096 1 0) (0 ∷ 11 ∷ []) ∷
    case "11 by passes" (tally_of 0 0 4294967287 0) (grows ∷ []) (tally_of 0 0 4294967287 0) (11 ∷ []) ∷
    case "one pass below, then 11" (tally_of 0 0 4294967286 0) (exact 2304 ∷ empty ∷ []) (tally_of 1 1 4294967287 0) (0 ∷ 11 ∷ []) ∷
    case "rows stopped are summed, those of every accepted solve" joins.NOTHING (stops ∷ exact 2304 ∷ refuses ∷ grows_beside ∷ stops ∷ [])
    (counts 4 4 3 3 false false 0) (0 ∷ 0 ∷ 8 ∷ 0 ∷ 0 ∷ []) ∷
    case "a dead cell between two solves that end well: neither flag is won back" joins.NOTHING (exact 2304 ∷ dead ∷ exact 2304 ∷ []) (counts 3 3 3 0 false false 0)
    (0 ∷ 0 ∷ 0 ∷ []) ∷
    case "the same in another order" joins.NOTHING (dead ∷ exact 2304 ∷ exact 2304 ∷ []) (counts 3 3 3 0 false false 0) (0 ∷ 0 ∷ 0 ∷ []) ∷
    case "a refused solve joins nothing, NaN or not" joins.NOTHING (refuses_dead ∷ []) joins.NOTHING (8 ∷ []) ∷
    case "a dead cell on a full tally" (tally_of 4294967295 0 0 0) (dead ∷ []) (tally_of 4294967295 0 0 0) (11 ∷ []) ∷
    case "11 by rows stopped, though this solve would stop none" (tally_of 0 0 0 4294967264) (exact 2304 ∷ []) (tally_of 0 0 0 4294967264) (11 ∷ []) ∷
    case "one row stopped below, then 11" (tally_of 0 0 0 4294967263) (stops ∷ empty ∷ []) (tally_of 1 1 1 4294967264) (0 ∷ 11 ∷ []) ∷
    case "10 and 8 before 11" (tally_of 4294967295 0 0 0) (exact 2303 ∷ refuses ∷ empty ∷ []) (tally_of 4294967295 0 0 0) (10 ∷ 8 ∷ 11 ∷ []) ∷
    case "a triangle is tallied as its mirrored matrix, and one of another length gets 16" joins.NOTHING (lower 3 fights ∷ lower 4 fights ∷ grows ∷ [])
    (counts 2 2 1 0 false false 0x4000000000000000) (0 ∷ 16 ∷ 0 ∷ []) ∷
    case "16 before 8, and both before 11" (tally_of 4294967295 0 0 0) (lower 2 refuses ∷ lower 1 refuses ∷ lower 3 fights ∷ []) (tally_of 4294967295 0 0 0)
    (16 ∷ 8 ∷ 11 ∷ []) ∷ []

-- ---- what a report says, and what the tally takes it as

-- its name, the call, the flags that its report has, the multipliers that it leaves, and the tally, which was empty
pub record Taking : Type 0 where
  name : String
  call : def.Call
  converged : Bool
  exact : Bool
  left : List ℕ
  tally : SolveReport

taking : String → def.Call → Bool → Bool → List ℕ → SolveReport → Taking
taking m x c e l t = record { name = m; call = x; converged = c; exact = e; left = l; tally = t }

says : Bool → Bool → solve.Outcome → Bool
says c e (solve.refused k) = false
says c e (solve.solved r) = beq r.converged c && beq r.exact e
says c e (solve.infeasible f l r) = beq r.converged c && beq r.exact e

is_taken : Taking → def.Tallied → Bool
is_taken k t = says k.converged k.exact t.answer.outcome && same (map (to_bits binary64) t.answer.nu) k.left && same_report t.tally k.tally

all_taken : List Taking → Bool
all_taken [] = true
all_taken (k ∷ l) = is_taken k (def.tallied joins.NOTHING k.call) && all_taken l

takings : List Taking
takings =
    taking "a solve that ends well" (exact 2304) true true (0x4000000000000000 ∷ []) (tally_of 1 1 1 0) ∷
    taking "a dead cell: the report says converged and exact, the tally neither" dead true true (nan ∷ []) (counts 1 1 1 0 false false 0) ∷
    taking "NaN in the last row alone" dead_last true true (0 ∷ nan ∷ []) (counts 1 1 1 1 false false 0) ∷
    taking "NaN in every row" dead_first true true (nan ∷ nan ∷ []) (counts 1 1 1 0 false false 0) ∷
    taking "NaN in the first row alone" dead_beside_idle true true (nan ∷ 0 ∷ []) (counts 1 1 1 0 false false 0) ∷
    taking "an Idle row's NaN motion and a NaN tolerance reach no multiplier" (within_nan (idle_beside nan 0)) true true (0 ∷ 0x4000000000000000 ∷ []) (tally_of 1 1 1 0) ∷
    taking "an Idle row's start of NaN is not left" (idle_beside 0 nan) true true (0 ∷ 0x4000000000000000 ∷ []) (tally_of 1 1 1 0) ∷
    taking "an acting row's start of NaN is" dead_start true true (nan ∷ []) (counts 1 1 1 0 false false 0) ∷
    taking "an infinite multiplier is no NaN" infinite true false (∞ ∷ []) (counts 1 1 1 0 true false 0) ∷
    taking "a NaN bound" boundless true true (one ∷ []) (tally_of 1 1 1 0) ∷
    taking "growth beside a dead cell" grows_beside_dead false false (0x4170000000000000 ∷ nan ∷ []) (counts 1 1 0 0 false false 0) ∷
    taking "all rows Idle" dead_idle true true (0 ∷ []) (tally_of 1 0 0 0) ∷
    taking "converged by a sweep" dead_by_sweeps true false (nan ∷ nan ∷ []) (counts 1 1 1 0 false false 0) ∷ []

table : all_pass cases && all_taken takings ≡ true
unfolding
    loops.turns loops.between loops.downward loops.swap loops.tab loops.those loops.every loops.noted
    updates.updated
    helpers.clamp helpers.larger helpers.abs helpers.nan_test helpers.is_finite
    root.whole_root root.nearest_root root.sqrt
    sums.gathered
    reflector.beta reflector.reflect
    least.norm2 least.pivot least.brought least.eliminated least.reduce least.reduced least.leading least.cleared
    least.substituted least.turned least.unpermuted least.solved least.least_norm
    box.row box.is_idle box.on_bound box.state_of box.pushed box.row_sum box.update box.natural_residual
    box.residual_at box.ratio_row box.size_of box.grows
    rays.collect rays.falling_rows rays.ray
    pass.start pass.right_hand_side pass.matrix pass.residual pass.target pass.direction pass.longest pass.ratio_test
    pass.advance pass.hold pass.release pass.scattered pass.unmet pass.step_of pass.step pass.steps pass.closed
    pass.exact_pass
    sweep.start sweep.sweep sweep.stopped sweep.residual sweep.moved sweep.classified
    solve.member solve.unless solve.passed solve.checked solve.tested solve.turn solve.run solve.report_of
    solve.unfound solve.result solve.solve solve.refusal solve.reply solve.solve_reply
    row_start within_limits wrong_length triangle_refusal refusal_of
    add sub mul div of_bits to_bits lt le eq ne neg
    joins.sum_fits joins.sums_fit joins.all_sums_fit joins.and
    def.alone def.no_nan def.turned def.taken def.full def.refusal_on def.answer_on def.with def.tallied def.before def.all
    counts tally_of case same_report number_in unless same_buffers answers_are comes_to passes all_pass cases
    taking says is_taken all_taken takings
table = refl
