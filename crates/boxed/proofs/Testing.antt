-- The tests after a sweep, from what their calls promise: one law for each return.
use Prim.Native.Nat.{ℕ, ◌/◌, ◌≤◌}
use mathlib.Core.Path.{◌≡◌, refl, ap, ◌∙◌}
use mathlib.Core.Bool.{true, false}
use mathlib.Core.List.{List, [], ◌∷◌, ◌++◌}
use native.Mathlib.Omega.{arith}
use lib.ListN.{length, take}
use lib.Seq.{take_at}
use lib.Ieee.{Float, le}
use borrow.Author.Tests.{eq-eqb, le-leb}
use Rattle.loops.proofs.Fill.{tab-length}
use Rattle.floats.specs.Ops.{1e-9}
use Rattle.box_rows.specs.Rows as box
use Rattle.exact_pass.specs.Ray.{ray}
use Rattle.exact_pass.specs.Promise.{fits, ray_reply, count_of, Front}
use Rattle.std.specs.Prelude.{Option, Some, None}
use Rattle.boxed.specs.Sweep as sweep
use Rattle.boxed.specs.Private as private
use Rattle.boxed.specs.Solve as solve
use Rattle.boxed.specs.Solve.{iterate, Watch, going}
use Rattle.box_rows.specs.Rows.{Sized}
use Rattle.boxed.specs.Private.{Ran, TestLists}
use Rattle.boxed.specs.declared.Cause.{Cause}
use Rattle.boxed.specs.declared.Cause.TheVariants as cause
use Rattle.boxed.specs.declared.Counts.{Counts}
use Rattle.boxed.specs.declared.Ended.{Ended}
use Rattle.boxed.specs.declared.Ended.TheVariants.{Converged, Infeasible}

-- ---- rows that fight end a solve, and none do not: they are k at the front of what was rows

pub none_counted : (l : List ℕ) → length l ≡ 0 → None ≡ count_of l
none_counted [] e = refl
none_counted (b ∷ l) e = absurd (omega arith)

pub some_counted : (l : List ℕ) (k : ℕ) → k ≡ length l → (k ≡ 0 → ⊥) → Some k ≡ count_of l
some_counted [] k e h = absurd (h e)
some_counted (b ∷ l) k e h = ap Some e

module _ (a : Cause) (nu : List Float) (st rows rows' : List ℕ) where
  pub none_fight : (l : List ℕ) → Front l rows None rows' → (c : Counts) → Ran (solve.unless a (iterate nu st c) l) rows None nu st c rows'
  unfolding solve.unless
  none_fight [] f c = record { answer = refl; reached = refl; listed = f.front }
  none_fight (b ∷ l) f c = cc (f.count)

  pub some_fight : (l : List ℕ) (k : ℕ) → Front l rows (Some k) rows' → (c : Counts) → Ran (solve.unless a (iterate nu st c) l) rows (Some (Infeasible a k)) nu st c rows'
  unfolding solve.unless
  some_fight [] k f c = cc (f.count)
  some_fight (b ∷ l) k f c = record { answer = let e : k ≡ length (b ∷ l) = cc (f.count) in ap (λ j. Some (Infeasible a j)) e; reached = refl; listed = f.front }

-- ---- lists of the problem's lengths are none that the ray refuses

pub all_fit : (p : box.Problem) → Sized (box.size p) p.w p.lo p.hi p.scale → (st : List ℕ) (v : List Float) (rows : List ℕ)
    → length st ≡ box.size p → length v ≡ box.size p → box.size p ≤ length rows → fits p (length st) (length v) (length rows) ≡ true
all_fit p z st v rows d e h =
    rw (
      le-leb _ _ z.0,
      eq-eqb _ _ z.1,
      eq-eqb _ _ z.2,
      eq-eqb _ _ z.3,
      eq-eqb _ _ z.4,
      eq-eqb _ _ d,
      eq-eqb _ _ e,
      le-leb _ _ h,
    )

-- ---- the change of the multipliers is the direction of the ray: y is the front of an array that z ends

change-length : (nu before : List Float) (n : ℕ) → length (private.change nu before n) ≡ n
unfolding private.change
change-length nu before n = tab-length (private.change_at nu before) n

module _ {p : box.Problem} (sized : Sized (box.size p) p.w p.lo p.hi p.scale) {st : List ℕ} {nu before : List Float} {rows : List ℕ} (lent : TestLists p st nu before rows)
    (y z : List Float) (e : y ≡ private.change nu before (length nu)) (k : Option ℕ) (rows' : List ℕ)
    (f : Front (ray_reply p st (take (length nu) (y ++ z)) rows) rows k rows') where
  abbrev fighting : List ℕ
  fighting = ray p st (private.change nu before (box.size p))

  direction : take (length nu) (y ++ z) ≡ private.change nu before (box.size p)
  direction = take_at y z (length nu) (ap length e ∙ change-length nu before (length nu)) ∙ e ∙ ap (private.change nu before) lent.sweep.lists.multipliers

  ray-front : Front fighting rows k rows'
  unfolding ray_reply
  ray-front =
      let c : List Float = private.change nu before (box.size p) in
      let fit = all_fit p sized st c rows lent.sweep.lists.states (change-length nu before (box.size p)) lent.listed in
      rw (direction, fit) at f

  pub no-ray : k ≡ None → (c : Counts) → Ran (solve.unless cause.Sweep (iterate nu st c) fighting) rows None nu st c rows'
  no-ray h = none_fight cause.Sweep nu st rows rows' fighting (rw h at ray-front)

  pub some-ray : (j : ℕ) → k ≡ Some j → (c : Counts) → Ran (solve.unless cause.Sweep (iterate nu st c) fighting) rows (Some (Infeasible cause.Sweep j)) nu st c rows'
  some-ray j h = some_fight cause.Sweep nu st rows rows' fighting j (rw h at ray-front)

-- ---- the tests: v is the motion, and r the residual

module _ (p : box.Problem) (m : Watch) (nu before : List Float) (st rows : List ℕ) (v : Float) (e : v ≡ sweep.moved m.motion nu before (length m.motion / length nu)) where
  pub still_moves : le v m.tolerance ≡ false → (c : Counts) → Ran (solve.tested p m before (going (iterate nu st c))) rows None nu st c rows
  unfolding solve.tested
  still_moves h c = rw (← e, h) (record { answer = refl; reached = refl; listed = refl })

  module _ (h : le v m.tolerance ≡ true) (r : Float) (f : r ≡ sweep.residual p st nu (box.size p)) where
    pub has-converged : le r 1e-9 ≡ true → (c : Counts) → Ran (solve.tested p m before (going (iterate nu st c))) rows (Some Converged) nu st c rows
    unfolding solve.tested
    has-converged g c = rw (← e, h, ← f, g) (record { answer = refl; reached = refl; listed = refl })

    pub tries-ray : le r 1e-9 ≡ false → (q : Option Ended) (rows' : List ℕ) → ((c : Counts) → Ran (solve.unless cause.Sweep (iterate nu st c) (ray p st (private.change nu before (box.size p)))) rows q nu st c rows') → (c : Counts) → Ran (solve.tested p m before (going (iterate nu st c))) rows q nu st c rows'
    unfolding solve.tested private.change
    tries-ray g q rows' m c = rw (← e, h, ← f, g) (m c)
