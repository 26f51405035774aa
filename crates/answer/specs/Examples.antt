-- Worked files, as one table that the checker computes: a file, and the lines that bendsolve writes for it.
use Rattle.std.specs.Prelude.{ℕ, zero, suc, ◌/◌, ◌%◌, ◌≡◌, refl, true, List, [], ◌∷◌, ◌++◌, length}
use Prim.Native.String.{String}
use Rattle.std.specs.Float.Ieee.{add, sub, mul, div, of_bits, to_bits, lt, le, eq, ne, neg}
use Rattle.loops.specs.Loops as loops
use Rattle.loops.specs.Updates as updates
use Rattle.floats.specs.Helpers as helpers
use Rattle.floats.specs.Sqrt as root
use Rattle.floats.specs.Sums as sums
use Rattle.least_norm.specs.Reflector as reflector
use Rattle.least_norm.specs.LeastNorm as least
use Rattle.box_rows.specs.Rows as box
use Rattle.exact_pass.specs.Ray as rays
use Rattle.exact_pass.specs.Pass as pass
use Rattle.boxed.specs.Sweep as sweep
use Rattle.boxed.specs.Solve as solve
use Rattle.bend_file.specs.Little as little
use Rattle.bend_file.specs.Trailer as trailer
use Rattle.bend_file.specs.Read as read
use Rattle.printer.specs.Output as print
use Rattle.printer.specs.Output.{bytes}
use Rattle.printer.specs.Examples.{Case, case, all}
use Rattle.answer.specs.Output.{printed, solved, output}

-- ---- a file: free bytes, the values by their bits, rows, coordinates and mark

-- the lowest k bytes of x, the lowest first
abbrev low : ℕ → ℕ → List ℕ
low zero x = []
low (suc k) x = x % 256 ∷ low k (x / 256)

abbrev values : List ℕ → List ℕ
values [] = []
values (v ∷ l) = low 8 v ++ values l

abbrev file : String → List ℕ → ℕ → ℕ → String → List ℕ
file before l rows coords mark =
    bytes before ++ values l ++ low 4 (length (bytes before)) ++ low 2 rows ++ low 2 coords ++ low 4 (length l) ++ bytes mark

abbrev ∞ : ℕ
∞ = 0x7FF0000000000000

abbrev one : ℕ
one = 0x3FF0000000000000

abbrev −one : ℕ
−one = 0xBFF0000000000000

-- ---- the table: of each file W, u_free, lo, hi, scale, nu, motion and tolerance

answers : List Case
answers =
    case "document 01's example" (output (file "" (0x4000000000000000 ∷ 0xC010000000000000 ∷ 0 ∷ ∞ ∷ one ∷ 0 ∷ one ∷ 0 ∷ []) 1 1 "BEND"))
    ("solved" ∷ "sweeps 1 passes 1 converged 1 exact 1 idle 0 residual 0000000000000000" ∷ "row 0 I 4000000000000000" ∷ []) ∷
    case "marked case 1: no rows" (output (file "" (0 ∷ []) 0 0 "BEND"))
    ("solved" ∷ "sweeps 0 passes 0 converged 1 exact 1 idle 0 residual 0000000000000000" ∷ []) ∷
    case "marked case 3: growth" (output (file "" (0x3E70000000000000 ∷ −one ∷ 0 ∷ ∞ ∷ one ∷ 0 ∷ 0 ∷ []) 1 0 "BEND"))
    ("infeasible growth" ∷ "sweeps 1 passes 0 converged 0 exact 0 idle 0 residual 0000000000000000" ∷ "row 0 I 4170000000000000" ∷ "fights 0" ∷ []) ∷
    case "marked case 9: two rows that fight; free bytes before the first value"
    (output
    (file "free" (one ∷ −one ∷ −one ∷ one ∷ −one ∷ −one ∷ 0 ∷ 0 ∷ ∞ ∷ ∞ ∷ one ∷ one ∷ 0 ∷ 0 ∷ 0 ∷ []) 2 0 "BEND"))
    ("infeasible pass" ∷ "sweeps 1 passes 1 converged 0 exact 0 idle 0 residual 4000000000000000" ∷ "row 0 I 3FF0000000000000" ∷
    "row 1 I 4000000000000000" ∷ "fights 0 1" ∷ []) ∷
    case "a scale of 0, which the solve refuses" (output (file "" (one ∷ 0 ∷ 0 ∷ 0 ∷ 0 ∷ one ∷ 0 ∷ []) 1 0 "BEND")) ("refused 8" ∷ []) ∷
    case "a damaged mark" (output (file "" (one ∷ 0 ∷ 0 ∷ 0 ∷ one ∷ one ∷ 0 ∷ []) 1 0 "BENd")) ("refused 2" ∷ []) ∷ []

table : all answers ≡ true
unfolding
    answers
    loops.turns loops.between loops.downward loops.swap loops.tab loops.those loops.every loops.noted
    updates.updated
    helpers.clamp helpers.larger helpers.abs helpers.nan_test helpers.is_finite
    root.whole_root root.nearest_root root.sqrt
    sums.gathered
    reflector.beta reflector.reflect
    least.norm2 least.pivot least.brought least.eliminated least.reduce least.reduced least.leading least.cleared
    least.substituted least.turned least.unpermuted least.solved least.least_norm
    box.row box.is_idle box.on_bound box.state_of box.pushed box.row_sum box.update box.natural_residual
    box.residual_at box.ratio_row box.size_of box.grows
    rays.collect rays.falling_rows rays.ray
    pass.start pass.right_hand_side pass.matrix pass.residual pass.target pass.direction pass.longest pass.ratio_test
    pass.advance pass.hold pass.release pass.scattered pass.unmet pass.step_of pass.step pass.steps pass.closed
    pass.exact_pass
    sweep.start sweep.sweep sweep.stopped sweep.residual sweep.moved sweep.classified
    solve.member solve.unless solve.passed solve.checked solve.tested solve.turn solve.run solve.report_of
    solve.unfound solve.result solve.solve solve.refusal solve.reply solve.solve_reply
    add sub mul div of_bits to_bits lt le eq ne neg
    read.answer read.problem
    trailer.start trailer.rows trailer.coords trailer.count trailer.marked trailer.counted trailer.reaching
    trailer.trailer_refusal trailer.refusal
    little.u16 little.u32 little.u64 little.value little.values
    print.digit print.digits print.decimal print.hex print.pattern print.flag print.letter print.cause print.report_line
    print.row_line print.row_lines print.listed print.body print.refused print.solved print.infeasible
    printed solved output
table = refl
