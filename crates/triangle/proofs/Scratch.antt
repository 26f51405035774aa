-- The mirrored matrix at the front of scratch that is larger.
use Prim.Native.Nat.{ℕ, ◌*◌}
use mathlib.Core.Path.{◌≡◌, sym, ap, ◌∙◌}
use mathlib.Core.List.{List, ◌++◌}
use lib.ListN.{length, take}
use lib.Seq.{take_at}
use lib.Ieee.{Float}
use Rattle.box_rows.specs.Rows as box
use Rattle.boxed.specs.Solve.{Watch, Left, solve_reply}
use Rattle.boxed.specs.declared.BoxOutcome.{BoxOutcome}
use Rattle.refusals.specs.declared.Refusal.{Refusal}
use Rattle.std.specs.Prelude.{Result}
use Rattle.triangle.specs.Triangle.{mirrored}
use Rattle.triangle.proofs.Mirrored.{mirrors}

-- x is what the mirroring left at the front, and y what lies past it
module _ (n : ℕ) (t x y : List Float) (e : x ≡ mirrored n t) where
  long : length x ≡ n * n
  long = ap length e ∙ (mirrors n t).square

  pub front-is : take (n * n) (x ++ y) ≡ mirrored n t
  front-is = take_at x y (n * n) long ∙ e

  pub front_length : n * n ≡ length (take (n * n) (x ++ y))
  front_length = sym (ap length front-is ∙ (mirrors n t).square)

  -- the full solve of the front is that of the mirrored matrix
  pub solved-front : (u_free lo hi scale : List Float) (m : Watch) (nu : List Float) (st l : List ℕ) (room : ℕ) (r : Result BoxOutcome Refusal) (nu' : List Float) (st' l' : List ℕ) (w w' : List Float)
      → Left (solve_reply (box.problem (take (n * n) (x ++ y)) u_free lo hi scale) m nu st l room) r nu' st' l' w w'
      → Left (solve_reply (box.problem (mirrored n t) u_free lo hi scale) m nu st l room) r nu' st' l' w w'
  solved-front u_free lo hi scale m nu st l room r nu' st' l' w w' h = rw (← front-is) h
