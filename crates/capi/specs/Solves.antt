-- A solve by plain numbers: eight counts (outcome, sweeps, exact passes, converged, exact, Idle rows, rows listed, rows stopped) and the residual beside them. Definitions only.
use Rattle.std.specs.Prelude.{ℕ, ◌≡◌, Bool, true, false, ◌&&◌, List, leb, set, length, drop, Float, Result, Ok, Err}
use Rattle.boxed.specs.Solve as solve
use Rattle.boxed.specs.declared.Cause.{Cause}
use Rattle.boxed.specs.declared.Cause.TheVariants as cause
use Rattle.boxed.specs.declared.BoxReport.{BoxReport}
use Rattle.boxed.specs.declared.BoxOutcome.{BoxOutcome}
use Rattle.boxed.specs.declared.BoxOutcome.TheVariants.{Solved, Infeasible}
use Rattle.refusals.specs.declared.Refusal.{Refusal}
use Rattle.refusals.specs.declared.Refusal.TheVariants as by
use Rattle.refusals.specs.Numbers as numbers
use Rattle.flags.specs.Flags.{flag}

-- the outcome of an infeasible solve, by its cause; 0 is a solved one's
abbrev pub cause_number : Cause → ℕ
cause_number cause.Growth = 1
cause_number cause.Pass = 2
cause_number cause.Sweep = 3

-- the list with the eight counts in its first places
unfoldable pub written : ℕ → BoxReport → ℕ → List ℕ → List ℕ
written outcome r listed l =
    set (set (set (set (set (set (set (set l 0 outcome) 1 r.sweeps) 2 r.exact_passes) 3 (flag r.converged)) 4 (flag r.exact)) 5 r.idle) 6 listed) 7 r.stopped

abbrev pub number : Result BoxOutcome Refusal → ℕ
number (Ok o) = 0
number (Err r) = numbers.number r

abbrev pub counts_left : Result BoxOutcome Refusal → List ℕ → List ℕ
counts_left (Ok (Solved r)) l = written 0 r 0 l
counts_left (Ok (Infeasible c k r)) l = written (cause_number c) r k l
counts_left (Err k) l = l

abbrev pub residual_left : Result BoxOutcome Refusal → List Float → List Float
residual_left (Ok (Solved r)) l = set l 0 r.residual
residual_left (Ok (Infeasible c k r)) l = set l 0 r.residual
residual_left (Err k) l = l

-- ---- the call: 10 too where there is no room for eight counts or the residual

unfoldable pub taken : List ℕ → List Float → Bool
taken counts residual = leb 8 (length counts) && leb 1 (length residual)

-- x is what the solve itself comes to, from these multipliers, states and row list
unfoldable pub reply : Bool → solve.Result → List Float → List ℕ → List ℕ → solve.Result
reply true x nu st q = x
reply false x nu st q = record { outcome = solve.refused by.Short; nu = nu; states = st; listed = q }

-- nu, st and q are left in the multipliers, the states and the row list; of the other buffers each has what it held before and after
pub record Answered (x : solve.Result) (r : ℕ) (nu : List Float) (st q counts counts' : List ℕ) (residual residual' w w' : List Float) : Type 0 where
  pub number_is : r ≡ number (solve.answer_of x.outcome)
  pub nu_is : nu ≡ x.nu
  pub states_are : st ≡ x.states
  pub rows_are : q ≡ x.listed
  pub counts_are : counts' ≡ counts_left (solve.answer_of x.outcome) counts
  pub residual_is : residual' ≡ residual_left (solve.answer_of x.outcome) residual
  pub workspace_left : drop (solve.used x.outcome) w' ≡ drop (solve.used x.outcome) w
