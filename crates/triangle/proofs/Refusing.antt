-- The refusals of a triangle's solve: 5, then 16, then the full solve's of the mirrored matrix; and the calls from what their parts promise.
use Prim.Native.Nat.{ℕ, ◌*◌, ◌≤◌}
use mathlib.Core.Path.{◌≡◌, refl, sym, ◌∙◌}
use mathlib.Core.Bool.{Bool, true, false, not, cond, ◌&&◌, ◌||◌}
use mathlib.Core.List.{List, [], ◌∷◌}
use lib.Dec.{ltb, eqb}
use lib.ListN.{length}
use lib.Ieee.{Float}
use borrow.Author.Tests.{ltb-false, eqb-true, not-false}
use Rattle.std.specs.Prelude.{Option, Some, None, Result, Err}
use Rattle.box_rows.specs.Rows as box
use Rattle.boxed.specs.Solve.{Watch, Left, first, refusal, reply, solve_reply}
use Rattle.boxed.specs.declared.BoxOutcome.{BoxOutcome}
use Rattle.refusals.specs.declared.Refusal.{Refusal}
use Rattle.refusals.specs.declared.Refusal.TheVariants as by
use Rattle.triangle.specs.Triangle.{row_start, mirrored, problem, within_limits, wrong_length, measured, triangle_refusal, triangle_reply}
use Rattle.triangle.proofs.Mirrored.{mirrors, right-length, as-mirrored}

-- ---- the two tests that come first

or_left : (a b : Bool) → a || b ≡ false → a ≡ false
or_left true b h = h
or_left false b h = refl

neither : (a z : Bool) → None ≡ first ((a, by.TooLarge) ∷ (z, by.Triangle) ∷ []) → (a ≡ false) × (z ≡ false)
neither true z h = cc
neither false true h = cc
neither false false h = (refl, refl)

-- they find at most 32 rows, and a triangle of as many
pub fits : (k n motion : ℕ) → None ≡ measured k n motion → (n ≤ 32) × (k ≡ row_start n)
fits k n motion h =
    let e = neither (ltb 32 n || ltb 2048 motion) (not (eqb k (row_start n))) h in
    (ltb-false 32 n (or_left _ _ e.0), eqb-true k (row_start n) (not-false _ e.1))

one : (a z : Bool) (r : Option Refusal) (x : Refusal) → Some x ≡ first ((a, by.TooLarge) ∷ (z, by.Triangle) ∷ [])
    → cond (not a && z) (Some by.Triangle) (cond a (Some by.TooLarge) r) ≡ Some x
one true z r x h = sym h
one false true r x h = sym h
one false false r x h = cc

pub measured_first : (k : ℕ) (p : box.Problem) (motion nu : List Float) (st l : List ℕ) (room : ℕ) (x : Refusal) → Some x ≡ measured k (box.size p) (length motion)
    → triangle_refusal k p motion nu st l room ≡ Some x
unfolding triangle_refusal wrong_length within_limits refusal
measured_first k p motion nu st l room x h = one (ltb 32 (box.size p) || ltb 2048 (length motion)) (not (eqb k (row_start (box.size p)))) _ x h

-- of W a refusal looks at the length alone
by_length : (w w' u_free lo hi scale motion nu : List Float) (st l : List ℕ) (room : ℕ) → length w ≡ length w'
    → refusal (box.problem w u_free lo hi scale) motion nu st l room ≡ refusal (box.problem w' u_free lo hi scale) motion nu st l room
unfolding refusal
by_length w w' u_free lo hi scale motion nu st l room e = rw e

-- so any n * n values stand for the mirrored matrix
pub is_other : (t w u_free lo hi scale motion nu : List Float) (st l : List ℕ) (room k : ℕ) → length w ≡ length u_free * length u_free → k ≡ row_start (length u_free)
    → refusal (box.problem w u_free lo hi scale) motion nu st l room ≡ triangle_refusal k (problem t u_free lo hi scale) motion nu st l room
unfolding triangle_refusal
is_other t w u_free lo hi scale motion nu st l room k long e =
    rw (right-length k (length u_free) (length motion) e)
    (by_length w (mirrored (length u_free) t) u_free lo hi scale motion nu st l room (long ∙ sym (mirrors (length u_free) t).square))

-- ---- the call

module _ (k : ℕ) (p : box.Problem) (m : Watch) (nu : List Float) (st l : List ℕ) (room : ℕ) where
  pub refused : (x : Refusal) → Some x ≡ measured k (box.size p) (length m.motion) → (w : List Float) → Left (triangle_reply k p m nu st l room) (Err x) nu st l w w
  unfolding triangle_reply reply
  refused x h w = rw (measured_first k p m.motion nu st l room x h) (record { answer = refl; multipliers = refl; states = refl; listed = refl; workspace = refl })

  pub taken : k ≡ row_start (box.size p) → (r : Result BoxOutcome Refusal) (nu' : List Float) (st' l' : List ℕ) (w w' : List Float) → Left (solve_reply p m nu st l room) r nu' st' l' w w' → Left (triangle_reply k p m nu st l room) r nu' st' l' w w'
  taken e r nu' st' l' w w' h = rw (as-mirrored p m nu st l room k e) h
