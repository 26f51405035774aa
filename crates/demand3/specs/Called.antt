-- Demand 3 of the code: lists of calls of `tallied_solve` or `solve_into`, of which nothing is known but what their contract says. Definitions only.
use Rattle.std.specs.Prelude.{ℕ, ◌≤◌, ◌≡◌, length, drop, Float}
use mathlib.Core.List.{List, [], ◌∷◌, map, Permᴰ}
use Rattle.report.specs.Joins.{NOTHING}
use Rattle.report.specs.declared.SolveReport.{SolveReport}
use Rattle.boxed.specs.Solve.{Result, answer_of}
use Rattle.boxed.specs.declared.BoxOutcome.{BoxOutcome}
use Rattle.refusals.specs.declared.Refusal.{Refusal}
use Rattle.std.specs.Prelude.{None, Result as ResultOf, Ok, Err}
use Rattle.tally.specs.Tally.{Call, refusal, tallied, all}
use Rattle.tallied.specs.Joining.{Entered}
use Rattle.demand3.specs.Claims.{BoundsInOrder}
use Rattle.demand3.specs.Demand.{Every, Demanded}

-- what a call answers and leaves in the multipliers, the states and the row list
pub record Told : Type 0 where
  pub answer : ResultOf BoxOutcome Refusal
  pub nu : List Float
  pub states : List ℕ
  pub listed : List ℕ

abbrev pub told_of : Result → Told
told_of x = record { answer = answer_of x.outcome; nu = x.nu; states = x.states; listed = x.listed }

-- what the workspace that a call is lent holds before and after it: any contents, at each call
pub record Workspace : Type 0 where
  pub before : List Float
  pub after : List Float

-- a refused call changes nothing of it; any other one frees the first 2,304 values and keeps the rest
abbrev pub WorkspaceLeft : ResultOf BoxOutcome Refusal → Workspace → Type 0
WorkspaceLeft (Err k) w = w.after ≡ w.before
WorkspaceLeft (Ok o) w = drop 2304 w.after ≡ drop 2304 w.before

abbrev pub WorkspacesLeft : List Told → List Workspace → Type 0
WorkspacesLeft [] [] = Unit {0}
WorkspacesLeft [] (w ∷ ws) = ⊥
WorkspacesLeft (a ∷ r) [] = ⊥
WorkspacesLeft (a ∷ r) (w ∷ ws) = WorkspaceLeft a.answer w × WorkspacesLeft r ws

-- Calls one after another from the tally t to the tally u: each is given the tally that the one before left, and nothing else writes it. Of each call what its contract says.
abbrev pub Made : SolveReport → List Call → List Told → List Workspace → SolveReport → Type 0
Made t [] [] [] u = u ≡ t
Made t [] [] (w ∷ ws) u = ⊥
Made t [] (a ∷ r) ws u = ⊥
Made t (c ∷ l) [] ws u = ⊥
Made t (c ∷ l) (a ∷ r) [] u = ⊥
Made t (c ∷ l) (a ∷ r) (w ∷ ws) u =
    (s : SolveReport) × Entered (tallied t c) s a.answer a.nu a.states a.listed w.before w.after × Made s l r ws u

-- the code made the list l with the workspaces ws, telling r and leaving u, and the list k with the workspaces xs, telling s and leaving v
pub record Kept (l k : List Call) (r s : List Told) (ws xs : List Workspace) (u v : SolveReport) : Type 0 where
  pub same : u ≡ v
  pub demanded : Demanded l k
  -- the tallies and answers that `Demanded` speaks of are the code's
  pub tally_one : u ≡ (all NOTHING l).tally
  pub told_one : r ≡ map told_of (all NOTHING l).answers
  pub tally_other : v ≡ (all NOTHING k).tally
  pub told_other : s ≡ map told_of (all NOTHING k).answers
  -- and the workspaces are left as each answer says
  pub workspaces_one : WorkspacesLeft r ws
  pub workspaces_other : WorkspacesLeft s xs

abbrev pub DemandOfCode : Type 0
DemandOfCode = (l k : List Call) → Permᴰ l k → length l ≤ 20000000 → Every (λ c. refusal c ≡ None → BoundsInOrder c.problem) l
    → (r s : List Told) (ws xs : List Workspace) (u v : SolveReport) → Made NOTHING l r ws u → Made NOTHING k s xs v → Kept l k r s ws xs u v
