-- The tallied solve as its code has it. Definitions only; what a tallied solve is stands in crates/tally.
use Rattle.std.specs.Prelude.{ℕ, ◌≡◌, List, length, Float, Result}
use Rattle.box_rows.specs.Rows.{Problem}
use Rattle.box_rows.specs.Rows as box
use Rattle.boxed.specs.Solve.{Watch, Left}
use Rattle.boxed.specs.declared.BoxOutcome.{BoxOutcome}
use Rattle.refusals.specs.declared.Refusal.{Refusal}
use Rattle.triangle.specs.Triangle as triangle
use Rattle.report.specs.declared.SolveReport.{SolveReport}
use Rattle.tally.specs.Tally.{Call, Tallied}
use Rattle.tallied.specs.declared.sent.Sent.{Sent}
use Rattle.tallied.specs.declared.sent.Sent.TheVariants.{Whole, Triangle}

-- the form in which a matrix is sent
abbrev pub form : Sent → triangle.Sent
form (Whole w) = triangle.whole
form (Triangle t) = triangle.triangle (length t.now)

-- the problem: of a triangle it has the mirrored matrix
abbrev pub problem : Sent → List Float → List Float → List Float → List Float → Problem
problem (Whole w) u_free lo hi scale = box.problem w.now u_free lo hi scale
problem (Triangle t) u_free lo hi scale = triangle.problem t.now u_free lo hi scale

-- what is lent to a call
abbrev pub call : triangle.Sent → Problem → Watch → List Float → List ℕ → List ℕ → ℕ → Call
call sent p m nu st l room =
    record { sent = sent; problem = p; watch = m; nu = nu; states = st; listed = l; room = room }

-- The tally that a call leaves is that of the tallied solve x, and so are its answer and what it leaves in the
-- multipliers, the states, the row list and the workspace, which held w before the call and w' after it.
pub record Entered (x : Tallied) (t : SolveReport) (r : Result BoxOutcome Refusal) (nu : List Float) (st q : List ℕ)
    (w w' : List Float)
    : Type 0 where
  pub tally : t ≡ x.tally
  pub left : Left x.answer r nu st q w w'
