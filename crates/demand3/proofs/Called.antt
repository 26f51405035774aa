-- Demand 3 of the code: lists of calls are the lists of the definition, by each call's contract.
use mathlib.Core.Path.{◌≡◌, refl, sym, ◌∙◌, ap}
use mathlib.Core.List.{List, [], ◌∷◌, map}
use lib.ListN.{drop}
use lib.Ieee.{Float}
use Rattle.report.specs.declared.SolveReport.{SolveReport}
use Rattle.boxed.specs.Solve.{Outcome, refused, solved, infeasible, Result, answer_of, used, Left}
use Rattle.boxed.specs.declared.BoxOutcome.{BoxOutcome}
use Rattle.refusals.specs.declared.Refusal.{Refusal}
use Rattle.std.specs.Prelude.{Result as ResultOf}
use Rattle.tally.specs.Tally.{Call, tallied, before, all}
use Rattle.demand3.specs.Called.{Told, told_of, Workspace, WorkspaceLeft, WorkspacesLeft, Made, DemandOfCode}
use Rattle.demand3.proofs.Theorem.{demand3}

told_is : (x : Result) (a : Told) (w w' : List Float) → Left x a.answer a.nu a.states a.listed w w' → a ≡ told_of x
told_is x a w w' h = rw (← h.answer, ← h.multipliers, ← h.states, ← h.listed)

workspace_left : (x : Outcome) (a : ResultOf BoxOutcome Refusal) (w : Workspace) → a ≡ answer_of x → drop (used x) w.after ≡ drop (used x) w.before → WorkspaceLeft a w
workspace_left (refused k) a w e h = rw e h
workspace_left (solved r) a w e h = rw e h
workspace_left (infeasible c l r) a w e h = rw e h

made-is : (l : List Call) (t : SolveReport) (r : List Told) (ws : List Workspace) (u : SolveReport) → Made t l r ws u
    → (u ≡ (all t l).tally) × (r ≡ map told_of (all t l).answers) × WorkspacesLeft r ws
unfolding all before
made-is [] t [] [] u h = (h, refl, tt)
made-is [] t [] (w ∷ ws) u h = absurd h
made-is [] t (a ∷ r) ws u h = absurd h
made-is (c ∷ l) t [] ws u h = absurd h
made-is (c ∷ l) t (a ∷ r) [] u h = absurd h
made-is (c ∷ l) t (a ∷ r) (w ∷ ws) u h =
    let g = made-is l h.0 r ws u h.2 in
    let e = h.1.tally in
    let left = h.1.left in
    let d = told_is (tallied t c).answer a w.before w.after left in (
      g.0 ∙ ap (λ (s : SolveReport). (all s l).tally) e,
      ap (λ (b : Told). b ∷ r) d ∙ ap (λ (b : List Told). told_of (tallied t c).answer ∷ b) (g.1 ∙ ap (λ (s : SolveReport). map told_of (all s l).answers) e),
      (workspace_left (tallied t c).answer.outcome a.answer w left.answer left.workspace, g.2),
    )

pub demand3_of_code : DemandOfCode
demand3_of_code l k d b fair r s ws xs u v one other =
    let x = made-is l _ r ws u one in
    let y = made-is k _ s xs v other in
    let h = demand3 l k d b fair in
    record {
      same = x.0 ∙ h.tally ∙ sym y.0;
      demanded = h;
      tally_one = x.0;
      told_one = x.1;
      tally_other = y.0;
      told_other = y.1;
      workspaces_one = x.2;
      workspaces_other = y.2;
    }
