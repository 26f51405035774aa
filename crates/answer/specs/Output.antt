-- What bendsolve writes for a file. Definitions only: the reader's, the solver's and the printer's, one after another.
use Rattle.std.specs.Prelude.{ℕ, ◌≤◌, ◌≡◌, cond, List, [], ◌++◌, ltb, Float, length, take, drop, replicate, Result, Ok, Err}
use Rattle.bend_file.specs.Read as read
use Rattle.box_rows.specs.Rows as box
use Rattle.boxed.specs.Solve as solve
use Rattle.boxed.specs.declared.BoxOutcome.{BoxOutcome}
use Rattle.boxed.specs.declared.BoxOutcome.TheVariants.{Solved, Infeasible}
use Rattle.refusals.specs.declared.Refusal.{Refusal}
use Rattle.refusals.specs.Numbers.{number}
use Rattle.printer.specs.Writing.{Wrote}
use Rattle.printer.specs.Output as print

-- the lines of an answer, with the states, multipliers and row list that the solve left; the rows that fight are the filled front of the row list
abbrev pub lines : Result BoxOutcome Refusal → List ℕ → List Float → List ℕ → List ℕ
lines (Err k) states nu rows = print.refused (number k)
lines (Ok (Solved r)) states nu rows = print.solved r states nu
lines (Ok (Infeasible c n r)) states nu rows = print.infeasible c r states nu (take n rows)

unfoldable pub printed : solve.Result → List ℕ
printed x = lines (solve.answer_of x.outcome) x.states x.nu x.listed

-- the solve of a problem from the multipliers nu, its states and its row list 32 zeros at first, its workspace of 2,304 values
unfoldable pub solved : box.Problem → solve.Watch → List Float → solve.Result
solved p m nu = solve.solve_reply p m nu (replicate 32 0) (replicate 32 0) 2304

-- the solve that a file asks for
abbrev pub asked : read.Problem → solve.Result
asked p = solved (box.problem p.w p.u_free p.lo p.hi p.scale) (solve.watch p.motion p.tolerance) p.nu

abbrev pub classified : Result read.Problem Refusal → List ℕ
classified (Err r) = print.refused (number r)
classified (Ok p) = printed (asked p)

-- the bytes that bendsolve writes for a file
unfoldable pub output : List ℕ → List ℕ
output f = classified (read.answer f)

-- ---- what the call gives back

-- all of it, or nothing where the buffer has less than 2,048 bytes
unfoldable pub output_in : ℕ → List ℕ → List ℕ
output_in room f = cond (ltb room 2048) [] (output f)

-- the text was laid at the buffer's front as far as the buffer goes, and 2,048 bytes are enough for it
pub record Laid (before after : List ℕ) (count : ℕ) (text : List ℕ) : Type 0 where
  pub wrote : Wrote before 0 after count text
  pub short : length text ≤ 2048

-- the buffer has the output at its front, and the rest of it is as it was
pub record Answered (f : List ℕ) (count : ℕ) (before after : List ℕ) : Type 0 where
  pub counted : count ≡ length (output_in (length before) f)
  pub laid : after ≡ output_in (length before) f ++ drop count before
  pub room : count ≤ length after
