-- A sweep leaves the multipliers of later rows as they are.
use Prim.Native.Nat.{ℕ, zero, suc, ◌≤◌}
use mathlib.Core.Path.{◌≡◌, refl, ◌∙◌}
use mathlib.Core.Bool.{Bool, true, false, cond}
use mathlib.Core.List.{List}
use native.Mathlib.Omega.{arith}
use lib.ListN.{set}
use lib.Seq.{get_or-set_other}
use lib.Ieee.{Float, nan}
use Rattle.loops.specs.Loops.{turns}
use Rattle.floats.specs.Ops.{at}
use Rattle.box_rows.specs.Rows as box
use Rattle.boxed.specs.Sweep as sweep
use Rattle.boxed.specs.Private as private

set_later : (b : Bool) (l : List Float) (i j : ℕ) (v : Float) → suc i ≤ j → at (cond b (set l i v) l) j ≡ at l j
set_later true l i j v h = get_or-set_other l i j v nan (λ e. omega (arith, e, h))
set_later false l i j v h = refl

module _ (w u_free lo hi : List Float) (st : List ℕ) (nu : List Float) where
  pub sweep_later : (i j : ℕ) → i ≤ j → at (sweep.sweep w u_free lo hi st nu i) j ≡ at nu j
  unfolding sweep.sweep private.sweep_row turns
  sweep_later zero j h = refl
  sweep_later (suc i) j h = set_later (box.acts st i) (sweep.sweep w u_free lo hi st nu i) i j _ h ∙ sweep_later i j (omega arith)
