-- The clamp before the first sweep, a sweep and the rows that it stops, in the claims' own words: they are the solver's, whichever states mark the Idle rows.
use Prim.Native.Nat.{ℕ, zero, suc, ◌+◌, ◌≤◌, ◌<◌, zero-le}
use mathlib.Core.Path.{◌≡◌, refl, sym, ◌∙◌, ap}
use mathlib.Core.Bool.{Bool, true, false, not, cond}
use mathlib.Core.List.{List}
use native.Mathlib.Omega.{arith}
use native.Mathlib.Nat.{le_refl, not-suc-le-zero, le_of_suc-le-suc}
use lib.Arith.{lt_of_le-ne}
use lib.Dec.{eqb}
use lib.ListN.{length, set, length-set}
use lib.Seq.{get_or-set_other}
use lib.Ieee.{Float, nan}
use borrow.Author.Tests.{eqb-true, eqb-false}
use Rattle.loops.specs.Loops.{turns}
use Rattle.floats.specs.Ops.{at, ◌⊖◌, ◌⊘◌, 0ᶠ}
use Rattle.floats.specs.Helpers.{clamp}
use Rattle.box_rows.specs.Private.{row_of}
use Rattle.box_rows.specs.Rows.{Problem, size, acts, row_sum, update}
use Rattle.boxed.specs.Sweep as sweep
use Rattle.boxed.specs.Private.{start_row, started, stops, sweep_row}
use Rattle.demand3.specs.Claims.{within, acting, NoneActs, clamped_to, unclamped, updated_at, swept_to, is_stopped_at, stopped_to, sweeps_alone, stopped_by_last}
use Rattle.demand3.proofs.Words.{sum_is, diagonal, above-acts, idle-not-above}
use Rattle.demand3.proofs.Boxes.{idle_row}
use Rattle.demand3.proofs.Trials.{Stated}

-- the rows that the solver counts of one sweep
abbrev pub stopped_of : Problem → List ℕ → List Float → ℕ
stopped_of p st nu = sweep.stopped p.w p.u_free p.lo p.hi st nu (size p)

module _ (p : Problem) where
  -- a row is Idle where it does not act
  pub idle-not-acting : (i : ℕ) → i < size p → idle_row p i ≡ not (acting p i)
  idle-not-acting i h = go (acting p i) refl
    where
      go : (b : Bool) → acting p i ≡ b → idle_row p i ≡ not b
      go true e = above-acts (at (row_of p i) i) (rw (diagonal p i h) e)
      go false e = idle-not-above (at (row_of p i) i) (rw (diagonal p i h) e)

  -- ---- the clamp before the first sweep

  -- it leaves later rows as they are
  clamped_later : (nu : List Float) (i j : ℕ) → i ≤ j → at (clamped_to p nu i) j ≡ at nu j
  unfolding clamped_to
  clamped_later nu zero j h = refl
  clamped_later nu (suc i) j h = get_or-set_other (clamped_to p nu i) i j _ nan (λ e. omega arith) ∙ clamped_later nu i j (omega arith)

  start-row : (i : ℕ) → i < size p → (s : sweep.Start)
      → (start_row (at (row_of p i) i) (at p.lo i) (at p.hi i) i s).nu ≡ set s.nu i (within (cond (acting p i) (at s.nu i) 0ᶠ) (at p.lo i) (at p.hi i))
  unfolding start_row clamp
  start-row i h s = rw (idle-not-acting i h) (go (acting p i))
    where
      go : (b : Bool)
          → (cond (not b)
          (started (set s.nu i (within 0ᶠ (at p.lo i) (at p.hi i))) (set s.states i 3) (suc s.idle))
          (started (set s.nu i (within (at s.nu i) (at p.lo i) (at p.hi i))) (set s.states i 0) s.idle)).nu
          ≡ set s.nu i (within (cond b (at s.nu i) 0ᶠ) (at p.lo i) (at p.hi i))
      go true = refl
      go false = refl

  pub start_is : (nu : List Float) (st : List ℕ) (i : ℕ) → i ≤ size p → (sweep.start p.w (size p) p.lo p.hi nu st i).nu ≡ clamped_to p nu i
  unfolding sweep.start start_row turns clamped_to
  start_is nu st zero h = refl
  start_is nu st (suc i) h =
      start-row i h (sweep.start p.w (size p) p.lo p.hi nu st i)
      ∙ rw (start_is nu st i (omega arith), clamped_later nu i i (le_refl i))

  -- ---- the rows that the start counts as Idle

  idle-row : (i : ℕ) → i < size p → (s : sweep.Start) → (start_row (at (row_of p i) i) (at p.lo i) (at p.hi i) i s).idle ≡ s.idle + cond (acting p i) 0 1
  unfolding start_row
  idle-row i h s = rw (idle-not-acting i h) (go (acting p i) (clamp 0ᶠ (at p.lo i) (at p.hi i)) (clamp (at s.nu i) (at p.lo i) (at p.hi i)))
    where
      go : (b : Bool) (x y : Float)
          → (cond (not b) (started (set s.nu i x) (set s.states i 3) (suc s.idle)) (started (set s.nu i y) (set s.states i 0) s.idle)).idle
          ≡ s.idle + cond b 0 1
      go true x y = omega arith
      go false x y = omega arith

  module _ (nu : List Float) (st : List ℕ) where
    abbrev idle_to : ℕ → ℕ
    idle_to i = (sweep.start p.w (size p) p.lo p.hi nu st i).idle

    idle-next : (i : ℕ) → i < size p → idle_to (suc i) ≡ idle_to i + cond (acting p i) 0 1
    unfolding sweep.start start_row turns
    idle-next i h = idle-row i h (sweep.start p.w (size p) p.lo p.hi nu st i)

    idle-few : (i : ℕ) → i ≤ size p → idle_to i ≤ i
    idle-few zero h = unfold sweep.start turns in zero-le
    idle-few (suc i) h = rw (idle-next i h) (go (acting p i) (idle-few i (omega arith)))
      where
        go : (b : Bool) → idle_to i ≤ i → idle_to i + cond b 0 1 ≤ suc i
        go true e = omega arith
        go false e = omega arith

    -- where none acts, it counts all of them,
    pub all-idle : NoneActs p → (i : ℕ) → i ≤ size p → idle_to i ≡ i
    all-idle n zero h = unfold sweep.start turns in refl
    all-idle n (suc i) h = idle-next i h ∙ rw (n i h, all-idle n i (omega arith)) (omega arith)

    -- and nowhere else
    pub none-acts : (i : ℕ) → i ≤ size p → idle_to i ≡ i → (j : ℕ) → j < i → acting p j ≡ false
    none-acts zero h e j b = absurd (not-suc-le-zero b)
    none-acts (suc i) h e j b = go (acting p i) refl (sym (idle-next i h) ∙ e) (eqb j i) refl λ f d. none-acts i (omega arith) f j d
      where
        go : (a : Bool) → acting p i ≡ a → idle_to i + cond a 0 1 ≡ suc i → (d : Bool) → eqb j i ≡ d → (idle_to i ≡ i → j < i → acting p j ≡ false) → acting p j ≡ false
        go true q f d g before = let k = idle-few i (omega arith) in absurd (omega arith)
        go false q f true g before = rw (eqb-true j i g) q
        go false q f false g before = before (omega arith) (lt_of_le-ne (le_of_suc-le-suc b) (eqb-false j i g))

  -- ---- a sweep

  set_long : (b : Bool) (l : List Float) (i : ℕ) (x : Float) → length (cond b (set l i x) l) ≡ length l
  set_long true l i x = length-set l i x
  set_long false l i x = refl

  swept-long : (nu : List Float) → length nu ≡ size p → (i : ℕ) → length (swept_to p nu i) ≡ size p
  unfolding swept_to updated_at
  swept-long nu l zero = l
  swept-long nu l (suc i) = set_long (acting p i) (swept_to p nu i) i _ ∙ swept-long nu l i

  -- where an update puts a row before its box is looked at
  unclamped-is : (nu : List Float) → length nu ≡ size p → (i : ℕ) → i < size p
      → at nu i ⊖ row_sum (row_of p i) (at p.u_free i) nu ⊘ at (row_of p i) i ≡ unclamped p nu i
  unclamped-is nu l i h = rw (sum_is p i nu l, diagonal p i h)

  module _ (st : List ℕ) (m : Stated p st) where
    acts-is : (i : ℕ) → i < size p → acts st i ≡ acting p i
    acts-is i h = ap not (m.idle i h ∙ idle-not-acting i h) ∙ twice (acting p i)
      where
        twice : (b : Bool) → not (not b) ≡ b
        twice true = refl
        twice false = refl

    row_is : (nu : List Float) → length nu ≡ size p → (i : ℕ) → i < size p → sweep_row p.w p.u_free p.lo p.hi st i nu ≡ updated_at p i nu
    unfolding sweep_row updated_at update clamp
    row_is nu l i h = rw (acts-is i h, unclamped-is nu l i h)

    pub swept-is : (nu : List Float) → length nu ≡ size p → (i : ℕ) → i ≤ size p → sweep.sweep p.w p.u_free p.lo p.hi st nu i ≡ swept_to p nu i
    unfolding sweep.sweep sweep_row turns swept_to
    swept-is nu l zero h = refl
    swept-is nu l (suc i) h =
        ap (sweep_row p.w p.u_free p.lo p.hi st i) (swept-is nu l i (omega arith))
        ∙ row_is (swept_to p nu i) (swept-long nu l i) i h

    -- ---- the rows that it stops

    stops-is : (nu : List Float) → length nu ≡ size p → (i : ℕ) → i < size p → stops p.w p.u_free p.lo p.hi st i nu ≡ is_stopped_at p nu i
    unfolding stops
    stops-is nu l i h = rw (acts-is i h, unclamped-is nu l i h)

    counted_is : (b : Bool) (k : ℕ) → cond b (suc k) k ≡ k + cond b 1 0
    counted_is true k = omega arith
    counted_is false k = omega arith

    pub stopped-is : (nu : List Float) → length nu ≡ size p → (i : ℕ) → i ≤ size p → sweep.stopped p.w p.u_free p.lo p.hi st nu i ≡ stopped_to p nu i
    unfolding sweep.stopped stops turns stopped_to
    stopped-is nu l zero h = refl
    stopped-is nu l (suc i) h =
        rw (swept-is nu l i (omega arith), stops-is (swept_to p nu i) (swept-long nu l i) i h, stopped-is nu l i (omega arith))
        (counted_is (is_stopped_at p (swept_to p nu i) i) (stopped_to p nu i))

  -- ---- they are no more than the rows

  stopped-few : (nu : List Float) (i : ℕ) → stopped_to p nu i ≤ i
  unfolding stopped_to
  stopped-few nu zero = zero-le
  stopped-few nu (suc i) = go (is_stopped_at p (swept_to p nu i) i) (stopped-few nu i)
    where
      go : (b : Bool) → stopped_to p nu i ≤ i → stopped_to p nu i + cond b 1 0 ≤ suc i
      go true h = omega arith
      go false h = omega arith

  pub last-few : (nu : List Float) → size p ≤ 32 → (k : ℕ) → stopped_by_last p nu k ≤ 32
  unfolding stopped_by_last
  last-few nu h zero = zero-le
  last-few nu h (suc k) = omega (arith, stopped-few (sweeps_alone p nu k) (size p))
