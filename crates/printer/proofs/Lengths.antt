-- How long an output is: 2,048 bytes hold any that has at most 32 rows.
use Prim.Native.Nat.{ℕ, zero, suc, ◌+◌, ◌*◌, ◌/◌, ◌%◌, ◌^◌, ◌≤◌, ◌<◌}
use mathlib.Core.Path.{◌≡◌, refl, sym, ◌∙◌, ap}
use mathlib.Core.Bool.{Bool, true, false}
use mathlib.Core.List.{List, [], ◌∷◌, ◌++◌}
use native.Mathlib.Omega.{arith}
use native.Mathlib.Nat.{pow-succ'}
use lib.Dec.{ltb}
use lib.Ieee.{Float, nan, binary64, to_bits}
use lib.ListN.{length, get_or, length-append}
use borrow.Author.Tests.{ltb-true, ltb-false}
use Rattle.loops.specs.Loops.{turns}
use Rattle.printer.specs.Output.{bytes, newline, digit, decimal, hex, pattern, flag, letter, cause, report_line, row_line, row_lines, listed, body, refused, solved, infeasible}
use Rattle.boxed.specs.declared.BoxReport.{BoxReport}
use Rattle.boxed.specs.declared.Cause.{Cause}
use Rattle.boxed.specs.declared.Cause.TheVariants.{Growth, Pass, Sweep}
use Rattle.printer.proofs.Laws.{decimal-low, decimal-high}

-- ---- numbers

one-digit : (x : ℕ) → x < 10 → length (decimal x) ≡ 1
one-digit x h = ap length (sym (decimal-low x h))

one_more : (x : ℕ) → 10 ≤ x → length (decimal x) ≡ length (decimal (x / 10)) + 1
one_more x h = ap length (sym (decimal-high x h)) ∙ length-append (decimal (x / 10)) (digit (x % 10) ∷ [])

-- a number below 10 ^ k has at most k digits
pub decimal-short : (k x : ℕ) → x < 10 ^ suc k → length (decimal x) ≤ suc k
decimal-short zero x h = omega (arith, one-digit x h)
decimal-short (suc k) x h = go (ltb x 10) refl (λ t. decimal-short k (x / 10) (omega (arith, pow-succ' 10 (suc k))))
  where
    go : (b : Bool) → ltb x 10 ≡ b → (10 ≤ x → length (decimal (x / 10)) ≤ suc k) → length (decimal x) ≤ suc (suc k)
    go true e r = omega (arith, one-digit x (ltb-true x 10 e))
    go false e r = let t = ltb-false x 10 e in omega (arith, one_more x t, r t)

hex-length : (k x : ℕ) → length (hex k x) ≡ k
unfolding hex
hex-length zero x = refl
hex-length (suc k) x = length-append (hex k (x / 16)) (digit (x % 16) ∷ []) ∙ omega (arith, hex-length k (x / 16))

pattern-length : (v : Float) → length (pattern v) ≡ 16
unfolding pattern
pattern-length v = hex-length 16 (to_bits binary64 v)

-- below 10 ^ 20, which every number of the code is
pub record Word (x : ℕ) : Type 0 where
  pub below : x < 100000000000000000000

-- the counts of a report are
pub record Counted (r : BoxReport) : Type 0 where
  pub sweeps : Word r.sweeps
  pub passes : Word r.exact_passes
  pub idle : Word r.idle

-- ---- pieces

record Fits (s : List ℕ) (m : ℕ) : Type 0 where
  most : length s ≤ m

text : (m : ℕ) (s : List ℕ) → length s ≤ m → Fits s m
text m s h = record { most = h }

-- one after another
then : {s t : List ℕ} {m n : ℕ} → Fits s m → Fits t n → Fits (s ++ t) (m + n)
then {s} {t} h k = record { most = omega (arith, length-append s t, h.most, k.most) }

number : (x : ℕ) → Word x → Fits (decimal x) 20
number x h = record { most = decimal-short 19 x h.below }

row : (i : ℕ) → i < 32 → Fits (decimal i) 2
row i h = record { most = decimal-short 1 i (omega arith) }

value : (v : Float) → Fits (pattern v) 16
value v = record { most = omega (arith, pattern-length v) }

sign : (b : Bool) → Fits (flag b) 1
unfolding flag
sign true = record { most = omega arith }
sign false = record { most = omega arith }

cause-short : (c : Cause) → Fits (cause c) 6
unfolding cause
cause-short Growth = record { most = omega arith }
cause-short Pass = record { most = omega arith }
cause-short Sweep = record { most = omega arith }

end : Fits newline 1
end = record { most = omega arith }

gap : Fits (bytes " ") 1
gap = record { most = omega arith }

-- ---- lines

report-short : (r : BoxReport) → Counted r → Fits (report_line r) 128
unfolding report_line
report-short r h =
    then
    (then (then (then (text 7 (bytes "sweeps ") (omega arith)) (number r.sweeps h.sweeps))
    (then (text 8 (bytes " passes ") (omega arith)) (number r.exact_passes h.passes)))
    (then (then (text 11 (bytes " converged ") (omega arith)) (sign r.converged)) (then (text 7 (bytes " exact ") (omega arith)) (sign r.exact))))
    (then (then (then (text 6 (bytes " idle ") (omega arith)) (number r.idle h.idle)) (then (text 10 (bytes " residual ") (omega arith)) (value r.residual))) end)

line-short : (i state : ℕ) (nu : Float) → i < 32 → Fits (row_line i state nu) 26
unfolding row_line
line-short i state nu h =
    then (then (then (then (then (then (text 4 (bytes "row ") (omega arith)) (row i h)) gap) (text 1 (letter state ∷ []) (omega arith))) gap) (value nu)) end

lines-short : (states : List ℕ) (nu : List Float) (k : ℕ) → k ≤ 32 → length (row_lines states nu k) ≤ 26 * k
unfolding row_lines turns
lines-short states nu zero h = omega arith
lines-short states nu (suc k) h =
    let r = text (26 * k) (row_lines states nu k) (lines-short states nu k (omega arith)) in
    omega (arith, (then r (line-short k (get_or states k 0) (get_or nu k nan) (omega arith))).most)

listed-short : (rows : List ℕ) (k : ℕ) → ((i : ℕ) → Word (get_or rows i 0)) → length (listed rows k) ≤ 21 * k
unfolding listed turns
listed-short rows zero h = omega arith
listed-short rows (suc k) h =
    let r = text (21 * k) (listed rows k) (listed-short rows k h) in
    omega (arith, (then r (then gap (number (get_or rows k 0) (h k)))).most)

-- ---- the three outputs

pub refused-short : (k : ℕ) → Word k → length (refused k) ≤ 2048
unfolding refused
refused-short k h = omega (arith, (then (then (text 8 (bytes "refused ") (omega arith)) (number k h)) end).most)

module _ (r : BoxReport) (states : List ℕ) (nu : List Float) (h : Counted r) (few : length nu ≤ 32) where
  body-short : Fits (body r states nu) 960
  unfolding body
  body-short = then (report-short r h) (text 832 (row_lines states nu (length nu)) (omega (arith, lines-short states nu (length nu) few)))

  pub solved-short : length (solved r states nu) ≤ 2048
  unfolding solved
  solved-short = omega (arith, (then (text 7 (bytes "solved\n") (omega arith)) body-short).most)

  pub infeasible-short : (c : Cause) (rows : List ℕ) → length rows ≤ 32 → ((i : ℕ) → Word (get_or rows i 0)) → length (infeasible c r states nu rows) ≤ 2048
  unfolding infeasible
  infeasible-short c rows k g =
      let first = then (then (text 11 (bytes "infeasible ") (omega arith)) (cause-short c)) end in
      let rest = text 672 (listed rows (length rows)) (omega (arith, listed-short rows (length rows) g)) in
      let last = then (then (text 6 (bytes "fights") (omega arith)) rest) end in
      omega (arith, (then (then first body-short) last).most)
