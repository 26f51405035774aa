-- A sweep as its loop makes it: the multipliers, and how many rows are stopped.
use Rattle.std.proofs.Common.{ap}
use Rattle.std.specs.Option.{is_some}
use Rattle.loops.proofs.Common.{ℕ, suc, ◌+◌, ◌≡◌, refl, sym, ◌∙◌, true, false, List, set, add-one}
use mathlib.Core.Bool.{◌||◌}
use lib.Ieee.{Float, lt}
use Rattle.floats.specs.Ops.{◌⊖◌, ◌⊘◌}
use Rattle.floats.specs.declared.Clamped.{Clamped}
use Rattle.floats.proofs.Box.{stops-past}
use Rattle.loops.specs.Loops.{turns}
use Rattle.box_rows.specs.Rows as box
use Rattle.box_rows.specs.declared.Row.{Row}
use Rattle.box_rows.specs.Rows.{Updated, row_at}
use Rattle.boxed.specs.Sweep as sweep
use Rattle.boxed.proofs.Rows.{row-idle, row-acts}

-- an update is stopped where what it clamps is past a bound
is-past : (v u d l h : Float) → is_some (box.update_side v u d l h) ≡ (lt (v ⊖ u ⊘ d) l || lt h (v ⊖ u ⊘ d))
unfolding box.update_side
is-past v u d l h = stops-past (v ⊖ u ⊘ d) l h

module _ (p : box.Problem) (st : List ℕ) (nu : List Float) where
  abbrev multipliers_at : ℕ → List Float
  multipliers_at i = sweep.sweep p.w p.u_free p.lo p.hi st nu i

  abbrev stopped_at : ℕ → ℕ
  stopped_at i = sweep.stopped p.w p.u_free p.lo p.hi st nu i

  -- when the sweep from the multipliers nu comes to row i, it has made the multipliers v, and stopped k rows
  pub record Sweeping (i k : ℕ) (v : List Float) : Type 0 where
    pub multipliers : v ≡ multipliers_at i
    pub stopped : k ≡ stopped_at i

  pub sweep_start : Sweeping 0 0 nu
  unfolding sweep.sweep sweep.stopped turns
  sweep_start = record { multipliers = refl; stopped = refl }

  module _ (i k : ℕ) (v : List Float) (so_far : Sweeping i k v) where
    pub row_stays : box.state st i ≡ box.idle → Sweeping (i + 1) k v
    unfolding sweep.sweep sweep.stopped turns
    row_stays h = let a = row-idle st i h in record { multipliers = rw (add-one, a) so_far.multipliers; stopped = rw (add-one, a) so_far.stopped }

    -- q are the row's numbers, and x its update
    module _ (acts : box.state st i ≡ box.idle → ⊥) (q : Row) (is : q ≡ row_at p v i) (x : Clamped) (e : Updated q x) where
      past : is_some x.side ≡ (lt (q.nu ⊖ q.u ⊘ q.diagonal) q.lo || lt q.hi (q.nu ⊖ q.u ⊘ q.diagonal))
      past = rw e.side (is-past q.nu q.u q.diagonal q.lo q.hi)

      updated : set v i x.value ≡ multipliers_at (i + 1)
      unfolding sweep.sweep turns
      updated = rw (add-one, row-acts st i acts, e.value, is, ← so_far.multipliers)

      pub row_moves : is_some x.side ≡ false → Sweeping (i + 1) k (set v i x.value)
      unfolding sweep.stopped turns
      row_moves h = record { multipliers = updated; stopped = rw (add-one, row-acts st i acts, ← so_far.multipliers, sym (rw is at past) ∙ h) so_far.stopped }

      pub row_stops : is_some x.side ≡ true → Sweeping (i + 1) (k + 1) (set v i x.value)
      unfolding sweep.stopped turns
      row_stops h = record { multipliers = updated; stopped = rw (add-one i, add-one k, row-acts st i acts, ← so_far.multipliers, sym (rw is at past) ∙ h) (ap suc so_far.stopped) }
