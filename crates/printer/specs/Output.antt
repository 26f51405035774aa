-- Document 01's output of bendsolve. Definitions only.
use Rattle.std.specs.Prelude.{ℕ, zero, suc, ◌+◌, ◌/◌, ◌%◌, Bool, true, false, cond, List, [], ◌∷◌, ◌++◌, ltb, eqb, Float, length, get_or}
use Prim.Native.Char.{code}
use Prim.Native.String.{String}
use Prim.Native.String as text
use Rattle.std.specs.Float.{nan, binary64}
use Rattle.std.specs.Float.Ieee.{to_bits}
use Rattle.loops.specs.Loops.{turns}
use Rattle.box_rows.specs.Rows as box
use Rattle.boxed.specs.declared.BoxReport.{BoxReport}
use Rattle.boxed.specs.declared.Cause.{Cause}
use Rattle.boxed.specs.declared.Cause.TheVariants.{Growth, Pass, Sweep}

-- ---- texts

-- the bytes of a text, all of whose characters are ASCII
abbrev pub bytes : String → List ℕ
bytes text.[] = []
bytes (text.◌∷◌ c s) = code c ∷ bytes s

abbrev pub newline : List ℕ
newline = bytes "\n"

-- ---- numbers

-- 0 to 9, A to F
unfoldable pub digit : ℕ → ℕ
digit d = cond (ltb d 10) (48 + d) (55 + d)

-- with as many places as `places` allows; `one` says whether x has one place
unfoldable pub digits : ℕ → Bool → ℕ → List ℕ
digits zero one x = []
digits (suc places) true x = digit x ∷ []
digits (suc places) false x = digits places (ltb (x / 10) 10) (x / 10) ++ (digit (x % 10) ∷ [])

-- the decimal digits of x, which are not more than x + 1
unfoldable pub decimal : ℕ → List ℕ
decimal x = digits (suc x) (ltb x 10) x

-- the last `places` hexadecimal digits of x
unfoldable pub hex : ℕ → ℕ → List ℕ
hex zero x = []
hex (suc places) x = hex places (x / 16) ++ (digit (x % 16) ∷ [])

-- a value's bits; every NaN is 7FF8000000000000
unfoldable pub pattern : Float → List ℕ
pattern v = hex 16 (to_bits binary64 v)

unfoldable pub flag : Bool → List ℕ
flag b = cond b (bytes "1") (bytes "0")

-- ---- lines

unfoldable pub letter : ℕ → ℕ
letter s = cond (eqb s box.inside) (code "I") (cond (eqb s box.at_lo) (code "L") (cond (eqb s box.at_hi) (code "H") (code "Z")))

unfoldable pub cause : Cause → List ℕ
cause Growth = bytes "growth"
cause Pass = bytes "pass"
cause Sweep = bytes "sweep"

unfoldable pub report_line : BoxReport → List ℕ
report_line r =
    ((bytes "sweeps " ++ decimal r.sweeps) ++ (bytes " passes " ++ decimal r.exact_passes))
    ++ ((bytes " converged " ++ flag r.converged) ++ (bytes " exact " ++ flag r.exact))
    ++ ((bytes " idle " ++ decimal r.idle) ++ (bytes " residual " ++ pattern r.residual) ++ newline)

unfoldable pub row_line : ℕ → ℕ → Float → List ℕ
row_line i state nu = (bytes "row " ++ decimal i) ++ bytes " " ++ (letter state ∷ []) ++ bytes " " ++ pattern nu ++ newline

-- the lines of the first k rows
unfoldable pub row_lines : List ℕ → List Float → ℕ → List ℕ
row_lines states nu k = turns k [] λ i l. l ++ row_line i (get_or states i 0) (get_or nu i nan)

-- the first k listed rows, each after one space
unfoldable pub listed : List ℕ → ℕ → List ℕ
listed rows k = turns k [] λ i l. l ++ (bytes " " ++ decimal (get_or rows i 0))

-- ---- the three outputs

unfoldable pub refused : ℕ → List ℕ
refused number = (bytes "refused " ++ decimal number) ++ newline

-- line 2, and a line for each multiplier
unfoldable pub body : BoxReport → List ℕ → List Float → List ℕ
body r states nu = report_line r ++ row_lines states nu (length nu)

unfoldable pub solved : BoxReport → List ℕ → List Float → List ℕ
solved r states nu = bytes "solved\n" ++ body r states nu

unfoldable pub infeasible : Cause → BoxReport → List ℕ → List Float → List ℕ → List ℕ
infeasible c r states nu rows = (bytes "infeasible " ++ cause c ++ newline) ++ body r states nu ++ (bytes "fights" ++ listed rows (length rows) ++ newline)
