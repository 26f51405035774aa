-- What the start of a solve and its sweeps leave: multipliers that are NaN or in their boxes, and at the start each row Idle or inside.
use Prim.Native.Nat.{ℕ, suc, ◌<◌}
use mathlib.Core.Path.{◌≡◌, refl, sym, ◌∙◌, ap}
use mathlib.Core.Bool.{Bool, true, false, cond}
use mathlib.Core.List.{List}
use native.Mathlib.Omega.{arith}
use native.Mathlib.Nat.{not-suc-le-zero, le_of_suc-le-suc}
use lib.Arith.{lt_of_le-ne}
use lib.Dec.{eqb}
use lib.ListN.{length, set, length-set}
use lib.Ieee.{Float, nan, le}
use borrow.Author.Tests.{eqb-true, eqb-false}
use Rattle.loops.proofs.Turns.{turns_keep}
use Rattle.loops.proofs.Gather.{get_d_set}
use Rattle.floats.specs.Ops.{at, 0ᶠ, ◌⊖◌, ◌⊘◌}
use Rattle.floats.specs.Helpers.{clamp}
use Rattle.floats.proofs.Box.{in_box, clamped}
use Rattle.box_rows.specs.Rows.{Problem, size, state, acts, is_idle, row_sum, update}
use Rattle.box_rows.specs.Private.{row_of}
use Rattle.boxed.specs.Sweep as sweep
use Rattle.boxed.specs.Private.{start_row, started, sweep_row}
use Rattle.demand3.specs.Claims.{one_sweep}

-- ---- boxes

-- every lower bound at most its upper
abbrev pub Ordered : Problem → Type 0
Ordered p = (i : ℕ) → i < size p → le (at p.lo i) (at p.hi i) ≡ true

abbrev pub Inside : Problem → List Float → ℕ → Type 0
Inside p nu i = in_box (at p.lo i) (at p.hi i) (at nu i) ≡ true

-- the first k multipliers
pub record BoxedTo (p : Problem) (k : ℕ) (nu : List Float) : Type 0 where
  pub long : length nu ≡ size p
  pub boxes : Ordered p → (i : ℕ) → i < k → Inside p nu i

abbrev pub Boxed : Problem → List Float → Type 0
Boxed p nu = BoxedTo p (size p) nu

abbrev boxed : Problem → ℕ → Float → Float
boxed p i v = clamp v (at p.lo i) (at p.hi i)

-- a clamped value stored at i
module _ (p : Problem) (nu : List Float) (i : ℕ) (b : i < size p) (v : Float) where
  stored : (k : ℕ) → length nu ≡ size p → (Ordered p → (j : ℕ) → j < k → eqb j i ≡ false → Inside p nu j) → BoxedTo p k (set nu i (boxed p i v))
  stored k l h =
      record {
        long = length-set nu i (boxed p i v) ∙ l;
        boxes = λ u j d. rw (get_d_set nu i j (boxed p i v) nan (omega arith)) (go u j d (eqb j i) refl);
      }
    where
      go : Ordered p → (j : ℕ) → j < k → (a : Bool) → eqb j i ≡ a → in_box (at p.lo j) (at p.hi j) (cond a (boxed p i v) (at nu j)) ≡ true
      go u j d true e = rw (eqb-true j i e) (clamped v (at p.lo i) (at p.hi i) (u i b))
      go u j d false e = h u j d e

pub sweep-boxed : (p : Problem) (st : List ℕ) (nu : List Float) → Boxed p nu → Boxed p (one_sweep p st nu)
unfolding sweep.sweep sweep_row update
sweep-boxed p st nu h =
    turns_keep (sweep_row p.w p.u_free p.lo p.hi st) nu (λ i. Boxed p) (size p) h λ i x b k. go i x b k (acts st i)
  where
    go : (i : ℕ) (x : List Float) → i < size p → Boxed p x → (a : Bool)
        → Boxed p (cond a (set x i (boxed p i (at x i ⊖ row_sum (row_of p i) (at p.u_free i) x ⊘ at (row_of p i) i))) x)
    go i x b k true = stored p x i b (at x i ⊖ row_sum (row_of p i) (at p.u_free i) x ⊘ at (row_of p i) i) (size p) k.long (λ u j d e. k.boxes u j d)
    go i x b k false = k

-- ---- the start

-- whether row i cannot act
abbrev pub idle_row : Problem → ℕ → Bool
idle_row p i = is_idle (at (row_of p i) i)

abbrev pub first_state : Problem → ℕ → ℕ
first_state p i = cond (idle_row p i) 3 0

-- of the first k rows
pub record StartedTo (p : Problem) (k : ℕ) (s : sweep.Start) : Type 0 where
  pub boxed : BoxedTo p k s.nu
  pub long : length s.states ≡ size p
  pub states : (i : ℕ) → i < k → state s.states i ≡ first_state p i

-- a first state stored at i, with a clamped multiplier
module _ (p : Problem) (i : ℕ) (b : i < size p) (x : sweep.Start) (h : StartedTo p i x) where
  started-one : (s : ℕ) (v : Float) (k : ℕ) → s ≡ first_state p i → StartedTo p (suc i) (started (set x.nu i (boxed p i v)) (set x.states i s) k)
  started-one s v k e =
      let l = h.long in
      record {
        boxed = stored p x.nu i b v (suc i) h.boxed.long (λ u j d f. h.boxed.boxes u j (lt_of_le-ne (le_of_suc-le-suc d) (eqb-false j i f)));
        long = length-set x.states i s ∙ h.long;
        states = λ j d. get_d_set x.states i j s 0 (omega arith) ∙ go j d (eqb j i) refl;
      }
    where
      go : (j : ℕ) → j < suc i → (a : Bool) → eqb j i ≡ a → cond a s (state x.states j) ≡ first_state p j
      go j d true f = e ∙ sym (ap (first_state p) (eqb-true j i f))
      go j d false f = h.states j (lt_of_le-ne (le_of_suc-le-suc d) (eqb-false j i f))

  started-row : StartedTo p (suc i) (start_row (at (row_of p i) i) (at p.lo i) (at p.hi i) i x)
  unfolding start_row
  started-row = go (idle_row p i) refl
    where
      go : (a : Bool) → idle_row p i ≡ a
          → StartedTo p (suc i)
          (cond a
          (started (set x.nu i (boxed p i 0ᶠ)) (set x.states i 3) (suc x.idle))
          (started (set x.nu i (boxed p i (at x.nu i))) (set x.states i 0) x.idle))
      go true e = started-one 3 0ᶠ (suc x.idle) (rw e)
      go false e = started-one 0 (at x.nu i) x.idle (rw e)

pub start-started : (p : Problem) (nu : List Float) (st : List ℕ) → length nu ≡ size p → length st ≡ size p
    → StartedTo p (size p) (sweep.start p.w (size p) p.lo p.hi nu st (size p))
unfolding sweep.start start_row
start-started p nu st l m =
    turns_keep (λ i s. start_row (at (row_of p i) i) (at p.lo i) (at p.hi i) i s) (started nu st 0) (StartedTo p) (size p)
    (record {
      boxed = record { long = l; boxes = λ u i d. absurd (not-suc-le-zero d) };
      long = m;
      states = λ i d. absurd (not-suc-le-zero d);
    })
    λ i x b h. started-row p i b x h
