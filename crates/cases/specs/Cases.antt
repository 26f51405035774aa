-- Worked cases: what is put in, what must come out, and the test that it does. Floats are written as bit patterns.
use Rattle.std.specs.Prelude.{ℕ, Bool, true, false, ◌&&◌, List, [], ◌∷◌, map, eqb, length, replicate, Float}
use Prim.Native.String.{String}
use Rattle.std.specs.Bool.{beq}
use Rattle.std.specs.Float.{nan, binary64}
use Rattle.std.specs.Float.Ieee.{add, sub, mul, div, of_bits, to_bits, lt, le, eq, ne, neg}
use Rattle.loops.specs.Loops as loops
use Rattle.loops.specs.Updates as updates
use Rattle.loops.specs.Lists.{same}
use Rattle.floats.specs.Helpers as helpers
use Rattle.floats.specs.Sqrt as root
use Rattle.floats.specs.Sums as sums
use Rattle.least_norm.specs.Reflector as reflector
use Rattle.least_norm.specs.LeastNorm as least
use Rattle.least_norm.specs.Promise as promise
use Rattle.box_rows.specs.Rows as box
use Rattle.exact_pass.specs.Ray as rays
use Rattle.exact_pass.specs.Pass as pass
use Rattle.boxed.specs.Sweep as sweep
use Rattle.triangle.specs.Triangle as triangle
use Rattle.boxed.specs.Solve as solve
use Rattle.refusals.specs.Numbers as numbers
use Rattle.boxed.specs.declared.BoxReport.{BoxReport}
use Rattle.boxed.specs.declared.Cause.{Cause}
use Rattle.boxed.specs.declared.Cause.TheVariants as cause

-- ---- floats by their bits, every NaN as one

abbrev pub floats : List ℕ → List Float
floats l = map (of_bits binary64) l

abbrev pub bits : List Float → List ℕ
bits l = map (to_bits binary64) l

-- ---- what must come out

pub record Counts : Type 0 where
  pub sweeps : ℕ
  pub passes : ℕ
  pub converged : Bool
  pub exact : Bool
  pub residual : ℕ
  pub idle : ℕ

abbrev pub counts : ℕ → ℕ → Bool → Bool → ℕ → ℕ → Counts
counts s k c e r i = record { sweeps = s; passes = k; converged = c; exact = e; residual = r; idle = i }

pub data Wanted : Type 0 where
  refuses : ℕ → Wanted
  solves : Counts → Wanted
  fights : Cause → List ℕ → Counts → Wanted

abbrev pub same_report : BoxReport → Counts → Bool
same_report r c =
    eqb r.sweeps c.sweeps && eqb r.exact_passes c.passes && beq r.converged c.converged && beq r.exact c.exact
    && eqb (to_bits binary64 r.residual) c.residual && eqb r.idle c.idle

abbrev pub number : Cause → ℕ
number cause.Growth = 0
number cause.Pass = 1
number cause.Sweep = 2

abbrev pub same_outcome : solve.Outcome → Wanted → Bool
same_outcome (solve.refused i) (refuses k) = eqb (numbers.number i) k
same_outcome (solve.refused i) (solves c) = false
same_outcome (solve.refused i) (fights d l c) = false
same_outcome (solve.solved r) (refuses k) = false
same_outcome (solve.solved r) (solves c) = same_report r c
same_outcome (solve.solved r) (fights d l c) = false
same_outcome (solve.infeasible e m r) (refuses k) = false
same_outcome (solve.infeasible e m r) (solves c) = false
same_outcome (solve.infeasible e m r) (fights d l c) = eqb (number e) (number d) && same m l && same_report r c

-- ---- a case

pub record Input : Type 0 where
  pub problem : box.Problem
  pub watch : solve.Watch

abbrev pub problem : List ℕ → List ℕ → List ℕ → List ℕ → List ℕ → List ℕ → ℕ → Input
problem w u lo hi s m t =
    record { problem = box.problem (floats w) (floats u) (floats lo) (floats hi) (floats s); watch = record { motion = floats m; tolerance = of_bits binary64 t } }

pub data Case : Type 0 where
  -- the multipliers lent, the outcome, and the states, multipliers and row list left (of 9s and 7s)
  solving : Input → List ℕ → Wanted → List ℕ → List ℕ → List ℕ → Case
  -- the multipliers lent, and how many rows the last sweep stopped
  stopping : Input → List ℕ → ℕ → Case
  -- so many states, rows of the list and places of the workspace lent, and the number
  refusing : Input → List ℕ → ℕ → ℕ → ℕ → ℕ → Case
  -- a triangle, the call's other lists, the multipliers lent, and how many states, rows of the list and places of the workspace; then what comes out, as of a solve
  lower : List ℕ → Input → List ℕ → ℕ → ℕ → ℕ → Wanted → List ℕ → List ℕ → List ℕ → Case
  -- document 01's least-norm cases: rank, a, b and x
  least_norm_case : ℕ → ℕ → List ℕ → List ℕ → ℕ → List ℕ → List ℕ → List ℕ → Case
  square-root : ℕ → ℕ → Case

abbrev pub same_result : solve.Result → Wanted → List ℕ → List ℕ → List ℕ → Bool
same_result r out st nu l = same_outcome r.outcome out && same r.states st && same (bits r.nu) nu && same r.listed l

abbrev pub same_reply : promise.Reply → ℕ → List ℕ → List ℕ → List ℕ → Bool
same_reply (promise.refused k) rank a b x = false
same_reply (promise.answered r) rank a b x = eqb r.rank rank && same (bits r.a) a && same (bits r.b) b && same (bits r.x) x

abbrev pub answered : Input → List ℕ → ℕ → ℕ → ℕ → solve.Result
answered i nu s l room = solve.solve_reply i.problem i.watch (floats nu) (replicate s 9) (replicate l 7) room

abbrev pub stopped_in : solve.Outcome → ℕ → Bool
stopped_in (solve.refused i) k = false
stopped_in (solve.solved r) k = eqb r.stopped k
stopped_in (solve.infeasible c l r) k = eqb r.stopped k

abbrev pub mirrored : List ℕ → Input → List ℕ → ℕ → ℕ → ℕ → solve.Result
mirrored t i nu s l room =
    let p = i.problem in
    triangle.triangle_reply (length t) (triangle.problem (floats t) p.u_free p.lo p.hi p.scale) i.watch (floats nu) (replicate s 9) (replicate l 7) room

unfoldable pub passes : Case → Bool
unfolding
    loops.turns loops.between loops.downward loops.swap loops.tab loops.those loops.every loops.noted
    updates.updated
    helpers.clamp helpers.larger helpers.abs helpers.nan_test helpers.is_finite
    root.whole_root root.nearest_root root.sqrt
    sums.gathered
    reflector.beta reflector.reflect
    least.norm2 least.pivot least.brought least.eliminated least.reduce least.reduced least.leading least.cleared
    least.substituted least.turned least.unpermuted least.solved least.least_norm
    promise.reply
    box.row box.is_idle box.on_bound box.state_of box.pushed box.row_sum box.update box.natural_residual
    box.residual_at box.ratio_row box.size_of box.grows
    rays.collect rays.falling_rows rays.ray
    pass.start pass.right_hand_side pass.matrix pass.residual pass.target pass.direction pass.longest pass.ratio_test
    pass.advance pass.hold pass.release pass.scattered pass.unmet pass.step_of pass.step pass.steps pass.closed
    pass.exact_pass
    sweep.start sweep.sweep sweep.stopped sweep.residual sweep.moved sweep.classified
    solve.member solve.unless solve.passed solve.checked solve.tested solve.turn solve.run solve.report_of
    solve.unfound solve.result solve.solve solve.refusal solve.reply solve.solve_reply
    triangle.row_start triangle.place triangle.mirror_row triangle.rows_mirrored triangle.mirrored triangle.within_limits
    triangle.wrong_length
    triangle.triangle_refusal triangle.triangle_reply
    add sub mul div of_bits to_bits lt le eq ne neg
passes (solving i nu out st nu' l) = same_result (answered i nu (length nu) (length nu) 2304) out st nu' l
passes (stopping i nu k) = stopped_in (answered i nu (length nu) (length nu) 2304).outcome k
passes (refusing i nu s l room k) = same_result (answered i nu s l room) (refuses k) (replicate s 9) nu (replicate l 7)
passes (lower t i nu s l room out st nu' l') = same_result (mirrored t i nu s l room) out st nu' l'
passes (least_norm_case m n a b rank a' b' x) = same_reply (promise.reply m n (floats a) (floats b) (replicate n nan) 1056) rank a' b' x
passes (square-root v r) = eqb (to_bits binary64 (root.sqrt (of_bits binary64 v))) r

-- ---- a table: each case with its names, a number or the errors that it shows

pub record Row : Type 0 where
  pub names : List String
  pub case : Case

abbrev pub named : String → Case → Row
named name c = record { names = name ∷ []; case = c }

abbrev pub showing : List String → Case → Row
showing errors c = record { names = errors; case = c }

abbrev pub all : List Row → Bool
all [] = true
all (r ∷ l) = passes r.case && all l
