-- Worked outputs, as one table that the checker computes: document 01's example, and each kind of line.
use Rattle.std.specs.Prelude.{ℕ, ◌≡◌, refl, Bool, true, false, ◌&&◌, List, [], ◌∷◌, ◌++◌, Float}
use Prim.Native.String.{String}
use Rattle.std.specs.Float.{binary64}
use Rattle.std.specs.Float.Ieee.{of_bits, to_bits}
use Rattle.loops.specs.Loops.{turns}
use Rattle.loops.specs.Lists.{same}
use Rattle.boxed.specs.declared.BoxReport.{BoxReport}
use Rattle.boxed.specs.declared.Cause.TheVariants.{Growth, Pass, Sweep}
use Rattle.printer.specs.Output.{
  bytes,
  newline,
  digit,
  digits,
  decimal,
  hex,
  pattern,
  flag,
  letter,
  cause,
  report_line,
  row_line,
  row_lines,
  listed,
  body,
  refused,
  solved,
  infeasible,
}

-- ---- a case: its name, the bytes that are written, and the lines that they must be, each ended by a newline

pub record Case : Type 0 where
  pub name : String
  pub written : List ℕ
  pub wanted : List String

abbrev pub case : String → List ℕ → List String → Case
case name written wanted = record { name = name; written = written; wanted = wanted }

abbrev pub lines : List String → List ℕ
lines [] = []
lines (l ∷ m) = bytes l ++ newline ++ lines m

abbrev pub all : List Case → Bool
all [] = true
all (c ∷ l) = same c.written (lines c.wanted) && all l

-- ---- the table

abbrev d : ℕ → Float
d b = of_bits binary64 b

abbrev report : ℕ → ℕ → Bool → Bool → ℕ → ℕ → BoxReport
report sweeps passes converged exact idle residual =
    record { sweeps = sweeps; exact_passes = passes; converged = converged; exact = exact; residual = d residual; idle = idle; stopped = 0 }

outputs : List Case
outputs =
    case "document 01's example" (solved (report 1 1 true true 0 0) (0 ∷ []) (d 0x4000000000000000 ∷ []))
    ("solved" ∷ "sweeps 1 passes 1 converged 1 exact 1 idle 0 residual 0000000000000000" ∷ "row 0 I 4000000000000000" ∷ []) ∷
    case "no rows" (solved (report 0 0 true true 0 0) [] [])
    ("solved" ∷ "sweeps 0 passes 0 converged 1 exact 1 idle 0 residual 0000000000000000" ∷ []) ∷
    case "every letter, a NaN's bits, -0, and letters of hexadecimal digits"
    (solved (report 200 9 false false 1 0x3E112E0BE826D695) (0 ∷ 1 ∷ 2 ∷ 3 ∷ [])
    (d 0xFFF0000000000001 ∷ d 0x8000000000000000 ∷ d 0x7FF0000000000000 ∷ d 0xBFEFFFFFFFFFABCD ∷ []))
    ("solved" ∷ "sweeps 200 passes 9 converged 0 exact 0 idle 1 residual 3E112E0BE826D695" ∷ "row 0 I 7FF8000000000000" ∷
    "row 1 L 8000000000000000" ∷ "row 2 H 7FF0000000000000" ∷ "row 3 Z BFEFFFFFFFFFABCD" ∷ []) ∷
    case "growth, one listed row" (infeasible Growth (report 1 0 false false 0 0) (0 ∷ []) (d 0x4170000000000000 ∷ []) (0 ∷ []))
    ("infeasible growth" ∷ "sweeps 1 passes 0 converged 0 exact 0 idle 0 residual 0000000000000000" ∷ "row 0 I 4170000000000000" ∷ "fights 0" ∷ []) ∷
    case "pass, several listed rows" (infeasible Pass (report 1 1 false true 0 0x3FF0000000000000) (0 ∷ 0 ∷ []) (d 0 ∷ d 0 ∷ []) (0 ∷ 1 ∷ 31 ∷ []))
    ("infeasible pass" ∷ "sweeps 1 passes 1 converged 0 exact 1 idle 0 residual 3FF0000000000000" ∷ "row 0 I 0000000000000000" ∷
    "row 1 I 0000000000000000" ∷ "fights 0 1 31" ∷ []) ∷
    case "sweep, no listed row" (infeasible Sweep (report 2 2 true false 0 0) [] [] [])
    ("infeasible sweep" ∷ "sweeps 2 passes 2 converged 1 exact 0 idle 0 residual 0000000000000000" ∷ "fights" ∷ []) ∷
    case "a number of one digit" (refused 4) ("refused 4" ∷ []) ∷
    case "of two, the last one 0" (refused 10) ("refused 10" ∷ []) ∷
    case "of two" (refused 13) ("refused 13" ∷ []) ∷
    case "of ten" (refused 4294967295) ("refused 4294967295" ∷ []) ∷ []

table : all outputs ≡ true
unfolding outputs digit digits decimal hex pattern flag letter cause report_line row_line row_lines listed body refused solved infeasible turns of_bits to_bits
table = refl
