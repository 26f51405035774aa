-- What holds through an exact pass: Idle rows keep their state and multiplier, a row on a bound holds exactly that bound, and a pass that finds an answer has moved every free row last.
use Prim.Native.Nat.{ℕ, suc, ◌+◌, ◌*◌, ◌≤◌, ◌<◌}
use mathlib.Core.Path.{◌≡◌, refl, sym, ◌∙◌, ap, subst}
use mathlib.Core.Bool.{Bool, true, false, cond, ◌&&◌, true≢false}
use mathlib.Core.List.{List, [], ◌∷◌}
use native.Mathlib.Omega.{arith}
use native.Mathlib.Nat.{not-suc-le-zero, le_of_suc-le-suc}
use lib.Arith.{lt_of_le-ne}
use lib.Dec.{eqb}
use lib.ListN.{length, get_or, set, replicate, length-set}
use lib.Seq.{set-get_or}
use lib.Ieee.{Float, nan, lt}
use borrow.Author.Tests.{eqb-true, eqb-false, eq-eqb, ne_eqb, not-true, not-false}
use Rattle.loops.proofs.Turns.{turns_keep, turns-start, turns-step}
use Rattle.loops.proofs.Gather.{Gathered, get_d_set}
use Rattle.floats.specs.Ops.{◌⊕◌, ◌⊖◌, ◌⊗◌, ◌⊘◌, at, 0ᶠ, 1e-9}
use Rattle.floats.specs.Helpers.{is_finite, larger}
use Rattle.box_rows.specs.Rows.{Problem, size, state, acts, on_bound, state_of, placed, pushed, ratio_row, row_sum, residual_at}
use Rattle.box_rows.specs.Private.{row_of, nearer}
use Rattle.exact_pass.specs.Ray.{ray}
use Rattle.exact_pass.specs.Pass as pass
use Rattle.exact_pass.specs.Pass.{Trial, trial, Pass, moved, found, failed, infeasible, free_rows, exact_pass}
use Rattle.exact_pass.specs.Private.{free_step, release_row, start_row, started, take_step, unbounded, worse, worst_row}
use Rattle.box_rows.specs.States.{byte}
use Rattle.box_rows.specs.declared.Block.{Block}
use Rattle.box_rows.specs.declared.Blocking.{Blocking}
use Rattle.box_rows.specs.declared.RowState.{RowState}
use Rattle.box_rows.specs.declared.RowState.TheVariants.{AtLo, AtHi}
use Rattle.std.proofs.Common.{Option, Some, None}
use Rattle.exact_pass.specs.declared.Worst.{Worst}
use Rattle.demand3.specs.Claims.{first_tried, free_in, direction_of, direction_at, target_of, step_length, LastStep}
use Rattle.demand3.proofs.Rays.{ActsUnlimited, ray-gathered}
use Rattle.demand3.proofs.Boxes.{idle_row}
use Rattle.demand3.proofs.Advance.{none_free, free-below, free-is, advanced-long, advanced_other, advanced-at}

-- ---- states: Idle exactly where the row is

pub record Stated (p : Problem) (st : List ℕ) : Type 0 where
  pub long : length st ≡ size p
  pub idle : (i : ℕ) → i < size p → eqb (state st i) 3 ≡ idle_row p i
  pub known : (i : ℕ) → i < size p → state st i ≤ 3

-- a row that acts is not Idle
pub acts-not-idle : (p : Problem) (st : List ℕ) (i : ℕ) → Stated p st → i < size p → acts st i ≡ true → idle_row p i ≡ false
acts-not-idle p st i m b h = sym (m.idle i b) ∙ not-true (eqb (state st i) 3) h

pub state-not-idle : (p : Problem) (st : List ℕ) (i v : ℕ) → Stated p st → i < size p → state st i ≡ v → eqb v 3 ≡ false → idle_row p i ≡ false
state-not-idle p st i v m b h k = sym (m.idle i b) ∙ ap (λ (x : ℕ). eqb x 3) h ∙ k

state_of-few : (lo hi s v : Float) → state_of lo hi s v ≤ 2
unfolding state_of
state_of-few lo hi s v = go (on_bound lo (v ⊖ lo) s) (on_bound hi (hi ⊖ v) s)
  where
    go : (a b : Bool) → cond a 1 (cond b 2 0) ≤ 2
    go true b = omega arith
    go false true = omega arith
    go false false = omega arith

-- ---- multipliers: a row on a bound holds it

-- of the first k rows; `base` is what the pass began with: an Idle row keeps it
pub record TriesTo (p : Problem) (base : List Float) (k : ℕ) (t : Trial) : Type 0 where
  pub stated : Stated p t.states
  pub long : length t.nu ≡ size p
  pub low : (i : ℕ) → i < k → state t.states i ≡ 1 → at t.nu i ≡ at p.lo i
  pub high : (i : ℕ) → i < k → state t.states i ≡ 2 → at t.nu i ≡ at p.hi i
  pub rest : (i : ℕ) → i < size p → state t.states i ≡ 3 → at t.nu i ≡ at base i

abbrev pub Tries : Problem → List Float → Trial → Type 0
Tries p base t = TriesTo p base (size p) t

placed-lo : (lo hi v : Float) (s : ℕ) → s ≡ 1 → placed lo hi s v ≡ lo
placed-lo lo hi v s e = rw e

placed-hi : (lo hi v : Float) (s : ℕ) → s ≡ 2 → placed lo hi s v ≡ hi
placed-hi lo hi v s e = rw e

-- row i, which is not Idle, set to the state s and its multiplier to v
module _ (p : Problem) (base : List Float) (i s : ℕ) (v : Float) (b : i < size p) (act : idle_row p i ≡ false) (few : s ≤ 2)
    (low : s ≡ 1 → v ≡ at p.lo i) (high : s ≡ 2 → v ≡ at p.hi i) where
  set_stated : (st : List ℕ) → Stated p st → Stated p (set st i s)
  set_stated st m =
      let h = m.long in
      record {
        long = length-set st i s ∙ m.long;
        idle = λ j c. rw (get_d_set st i j s 0 (omega arith)) (go j c (eqb j i) refl);
        known = λ j c. rw (get_d_set st i j s 0 (omega arith)) (one j c (eqb j i));
      }
    where
      go : (j : ℕ) → j < size p → (b : Bool) → eqb j i ≡ b → eqb (cond b s (state st j)) 3 ≡ idle_row p j
      go j c true k = ne_eqb s 3 (λ e. omega arith) ∙ sym (ap (idle_row p) (eqb-true j i k) ∙ act)
      go j c false k = m.idle j c

      one : (j : ℕ) → j < size p → (b : Bool) → cond b s (state st j) ≤ 3
      one j c true = omega arith
      one j c false = m.known j c

  -- from what holds of the first k rows to what holds of the first k'
  set_tries : (k k' : ℕ) → ((j : ℕ) → j < k' → eqb j i ≡ false → j < k) → (t : Trial) → TriesTo p base k t → TriesTo p base k' (trial (set t.nu i v) (set t.states i s))
  set_tries k k' up t h =
      let m = h.long in
      let n = h.stated.long in
      record {
        stated = set_stated t.states h.stated;
        long = length-set t.nu i v ∙ h.long;
        low = λ j f e. rw (get_d_set t.nu i j v nan (omega arith)) (low' j f (eqb j i) refl (sym (get_d_set t.states i j s 0 (omega arith)) ∙ e));
        high = λ j f e. rw (get_d_set t.nu i j v nan (omega arith)) (high' j f (eqb j i) refl (sym (get_d_set t.states i j s 0 (omega arith)) ∙ e));
        rest = λ j f e. rw (get_d_set t.nu i j v nan (omega arith)) (rest' j f (eqb j i) (sym (get_d_set t.states i j s 0 (omega arith)) ∙ e));
      }
    where
      low' : (j : ℕ) → j < k' → (a : Bool) → eqb j i ≡ a → cond a s (state t.states j) ≡ 1 → cond a v (at t.nu j) ≡ at p.lo j
      low' j f true q e = low e ∙ sym (ap (at p.lo) (eqb-true j i q))
      low' j f false q e = h.low j (up j f q) e

      high' : (j : ℕ) → j < k' → (a : Bool) → eqb j i ≡ a → cond a s (state t.states j) ≡ 2 → cond a v (at t.nu j) ≡ at p.hi j
      high' j f true q e = high e ∙ sym (ap (at p.hi) (eqb-true j i q))
      high' j f false q e = h.high j (up j f q) e

      rest' : (j : ℕ) → j < size p → (a : Bool) → cond a s (state t.states j) ≡ 3 → cond a v (at t.nu j) ≡ at base j
      rest' j f true e = absurd (omega arith)
      rest' j f false e = h.rest j f e

-- ---- the start of a pass

module _ (p : Problem) (base : List Float) (i : ℕ) (b : i < size p) where
  -- an Idle row is on no bound
  skip_tries : (t : Trial) → state t.states i ≡ 3 → TriesTo p base i t → TriesTo p base (suc i) t
  skip_tries t idle h =
      record {
        stated = h.stated;
        long = h.long;
        low = λ j d e. h.low j (lower j 1 (λ q. omega arith) d e) e;
        high = λ j d e. h.high j (lower j 2 (λ q. omega arith) d e) e;
        rest = h.rest;
      }
    where
      lower : (j v : ℕ) → (v ≡ 3 → ⊥) → j < suc i → state t.states j ≡ v → j < i
      lower j v n d e = lt_of_le-ne (le_of_suc-le-suc d) (λ q. n (sym e ∙ ap (state t.states) q ∙ idle))

  start-row : (s : pass.Start) → TriesTo p base i s.trial → TriesTo p base (suc i) (start_row p.lo p.hi p.scale i s).trial
  unfolding start_row
  start-row s h = go (acts s.trial.states i) refl
    where
      v : Float
      v = at s.trial.nu i

      classified : ℕ
      classified = state_of (at p.lo i) (at p.hi i) (at p.scale i) (at s.trial.nu i)

      go : (a : Bool) → acts s.trial.states i ≡ a
          → TriesTo p base (suc i)
          (cond a
          (started (set s.trial.nu i (placed (at p.lo i) (at p.hi i) (state_of (at p.lo i) (at p.hi i) (at p.scale i) (at s.trial.nu i)) (at s.trial.nu i)))
          (set s.trial.states i (state_of (at p.lo i) (at p.hi i) (at p.scale i) (at s.trial.nu i))) (suc s.acting)) s).trial
      go true e =
          set_tries p base i classified (placed (at p.lo i) (at p.hi i) classified v) b (acts-not-idle p s.trial.states i h.stated b e)
          (state_of-few (at p.lo i) (at p.hi i) (at p.scale i) v) (placed-lo (at p.lo i) (at p.hi i) v classified) (placed-hi (at p.lo i) (at p.hi i) v classified)
          i (suc i) (λ j d q. lt_of_le-ne (le_of_suc-le-suc d) (eqb-false j i q)) s.trial h
      go false e = skip_tries s.trial (eqb-true (state s.trial.states i) 3 (not-false (eqb (state s.trial.states i) 3) e)) h

start_tries : (p : Problem) (st : List ℕ) (nu : List Float) → Stated p st → length nu ≡ size p → Tries p nu (first_tried p st nu)
unfolding pass.start start_row
start_tries p st nu m l =
    turns_keep (start_row p.lo p.hi p.scale) (started nu st 0) (λ k s. TriesTo p nu k s.trial) (size p)
    (record { stated = m; long = l; low = λ i d e. absurd (not-suc-le-zero d); high = λ i d e. absurd (not-suc-le-zero d); rest = λ i d e. refl })
    λ i s b h. start-row p nu i b s h

-- ---- a step along the free rows changes only them

advanced_tries : (p : Problem) (base : List Float) (t : Trial) (y : List Float) (alpha : Float) → Tries p base t
    → Tries p base (trial (pass.advance (free_in p t) y alpha t.nu (length (free_in p t))) t.states)
advanced_tries p base t y alpha h =
    let same = advanced_other t.states (size p) y alpha t.nu h.long in
    record {
      stated = h.stated;
      long = advanced-long t.states (size p) y alpha t.nu h.long;
      low = λ i b e. same i (λ z. omega arith) ∙ h.low i b e;
      high = λ i b e. same i (λ z. omega arith) ∙ h.high i b e;
      rest = λ i b e. same i (λ z. omega arith) ∙ h.rest i b e;
    }

-- ---- the row that blocks a step is free

abbrev Blocks : Problem → List ℕ → Option Block → Type 0
Blocks p st None = Unit {0}
Blocks p st (Some b) = (byte b.state ≤ 2) × (b.row < size p) × (state st b.row ≡ 0)

module _ (p : Problem) (st : List ℕ) where
  nearer_blocks : (a : ℕ) (s : RowState) (ratio : Float) (r : Blocking) → byte s ≤ 2 → a < size p → state st a ≡ 0 → Blocks p st r.block → Blocks p st (nearer a s ratio r).block
  unfolding nearer
  nearer_blocks a s ratio r few b e h = go (lt ratio r.alpha)
    where
      go : (c : Bool) → Blocks p st (cond c (record { alpha = larger ratio 0ᶠ; block = Some (record { row = a; state = s }) }) r).block
      go true = (few, b, e)
      go false = h

  row_blocks : (a : ℕ) (v y lo hi : Float) (r : Blocking) → a < size p → state st a ≡ 0 → Blocks p st r.block → Blocks p st (ratio_row a v y lo hi r).block
  unfolding ratio_row nearer
  row_blocks a v y lo hi r b e h = go (lt 0ᶠ y) (lt y 0ᶠ)
    where
      go : (c d : Bool) → Blocks p st (cond c (nearer a AtHi ((hi ⊖ v) ⊘ y) r) (cond d (nearer a AtLo ((lo ⊖ v) ⊘ y) r) r)).block
      go true d = nearer_blocks a AtHi ((hi ⊖ v) ⊘ y) r (omega arith) b e h
      go false true = nearer_blocks a AtLo ((lo ⊖ v) ⊘ y) r (omega arith) b e h
      go false false = h

  test_blocks : (nu y : List Float) (alpha : Float) → Blocks p st (pass.ratio_test p.lo p.hi (free_rows st (size p)) nu y alpha (length (free_rows st (size p)))).block
  unfolding pass.ratio_test ratio_row nearer
  test_blocks nu y alpha =
      let l = free_rows st (size p) in
      turns_keep (λ i r. ratio_row (get_or l i 0) (at nu (get_or l i 0)) (at y i) (at p.lo (get_or l i 0)) (at p.hi (get_or l i 0)) r)
      (record { alpha = alpha; block = None }) (λ i r. Blocks p st r.block) (length l) tt
      λ i r c h. row_blocks (get_or l i 0) (at nu (get_or l i 0)) (at y i) (at p.lo (get_or l i 0)) (at p.hi (get_or l i 0)) r (free-below st (size p) i c) (free-is st (size p) i c) h

-- ---- a row released is one that was placed, and where none is, none is pushed inside too hard

abbrev pub pushed_at : Problem → List ℕ → List Float → ℕ → Bool
pushed_at p st nu i = pushed (state st i) (row_sum (row_of p i) (at p.u_free i) nu)

abbrev pub hard : Problem → List ℕ → List Float → ℕ → Bool
hard p st nu i = pushed_at p st nu i && lt 1e-9 (residual_at p nu i)

data Released (p : Problem) (st : List ℕ) (nu : List Float) (k : ℕ) (b : Worst) : Type 0 where
  nothing : b.row ≡ None → b.residual ≡ 1e-9 → ((i : ℕ) → i < k → hard p st nu i ≡ false) → Released p st nu k b
  this : (a : ℕ) → b.row ≡ Some a → a < size p → pushed_at p st nu a ≡ true → Released p st nu k b

below_more : {P : ℕ → Type 0} (k : ℕ) → ((i : ℕ) → i < k → P i) → P k → (i : ℕ) → i < suc k → P i
below_more {P} k h q i b = go (eqb i k) refl
  where
    go : (c : Bool) → eqb i k ≡ c → P i
    go true e = subst P (sym (eqb-true i k e)) q
    go false e = h i (lt_of_le-ne (le_of_suc-le-suc b) (eqb-false i k e))

module _ (p : Problem) (st : List ℕ) (nu : List Float) where
  row_released : (i : ℕ) (b : Worst) → i < size p → Released p st nu i b → Released p st nu (suc i) (release_row p st nu i b)
  unfolding release_row worse
  row_released i b c (nothing e w h) = go (pushed_at p st nu i) refl (lt b.residual (residual_at p nu i)) refl
    where
      go : (x : Bool) → pushed_at p st nu i ≡ x → (z : Bool) → lt b.residual (residual_at p nu i) ≡ z
          → Released p st nu (suc i) (cond x (cond z (record { residual = residual_at p nu i; row = Some i }) b) b)
      go true f true g = this i refl c f
      go true f false g = nothing e w (below_more {P = λ i. hard p st nu i ≡ false} i h (rw (f, ← w, g)))
      go false f z g = nothing e w (below_more {P = λ i. hard p st nu i ≡ false} i h (rw f))
  row_released i b c (this a e l w) = go (pushed_at p st nu i) refl (lt b.residual (residual_at p nu i))
    where
      go : (x : Bool) → pushed_at p st nu i ≡ x → (z : Bool) → Released p st nu (suc i) (cond x (cond z (record { residual = residual_at p nu i; row = Some i }) b) b)
      go true f true = this i refl c f
      go true f false = this a e l w
      go false f z = this a e l w

  worst_released : Released p st nu (size p) (worst_row p st nu (size p))
  worst_released =
      turns_keep (release_row p st nu) (record { residual = 1e-9; row = None }) (Released p st nu) (size p) (nothing refl refl λ i b. absurd (not-suc-le-zero b))
      λ i x c k. row_released i x c k

pushed-acts : (s : ℕ) (u : Float) → pushed s u ≡ true → eqb s 3 ≡ false
unfolding pushed
pushed-acts s u h = go (eqb s 1) refl (eqb s 2) refl h
  where
    go : (a : Bool) → eqb s 1 ≡ a → (b : Bool) → eqb s 2 ≡ b → cond a (lt u 0ᶠ) (cond b (lt 0ᶠ u) false) ≡ true → eqb s 3 ≡ false
    go true e b f k = ap (λ (x : ℕ). eqb x 3) (eqb-true s 1 e)
    go false e true f k = ap (λ (x : ℕ). eqb x 3) (eqb-true s 2 f)
    go false e false f k = absurd (true≢false (sym k))

-- ---- a pass

-- at least one row, and each may grow
pub record NoMotion (p : Problem) (st : List ℕ) (l : List ℕ) : Type 0 where
  pub some : 0 < length l
  pub these : Gathered (ActsUnlimited p st) (size p) l

-- `first` is what it tries first
abbrev pub Passing : Problem → List Float → Trial → Pass → Type 0
Passing p base first (moved t) = Tries p base t
Passing p base first (failed t) = Tries p base t
Passing p base first (found t) = Tries p base t × ((i : ℕ) → i < size p → hard p t.states t.nu i ≡ false) × LastStep p first t.nu t.states
Passing p base first (infeasible l t) = Tries p base t × NoMotion p t.states l

-- a step has come to the multipliers nu, the free rows written
record Wrote (p : Problem) (first : Trial) (nu : List Float) (st : List ℕ) : Type 0 where
  before : ℕ
  from : List Float
  tried : pass.steps p first before ≡ moved (trial from st)
  written : (i : ℕ) → i < size p → state st i ≡ 0 → at nu i ≡ at from i ⊕ step_length p (trial from st) ⊗ direction_at p (trial from st) i

module _ (p : Problem) (base : List Float) (first : Trial) where
  release_passing : (t : Trial) → Tries p base t → (w : Wrote p first t.nu t.states) → pass.steps p first (suc w.before) ≡ pass.release p t
      → Passing p base first (pass.release p t)
  unfolding pass.release release_row pushed worse
  release_passing t h w came = go (worst_row p t.states t.nu (size p)) (worst_released p t.states t.nu) came
    where
      go : (b : Worst) → Released p t.states t.nu (size p) b
          → pass.steps p first (suc w.before) ≡ pass.freed t b.row → Passing p base first (pass.freed t b.row)
      go b (nothing e d f) q =
          let last : LastStep p first t.nu t.states
          = record { before = w.before; from = w.from; tried = w.tried; came = rw e at q; written = w.written } in
          rw e (h, f, last)
      go b (this a e c w) q =
          let act = sym (h.stated.idle a c) ∙ pushed-acts (state t.states a) (row_sum (row_of p a) (at p.u_free a) t.nu) w in
          rw e
          (rw set-get_or at
          (set_tries p base a 0 (at t.nu a) c act (omega arith) (λ e. absurd (omega arith)) (λ e. absurd (omega arith)) (size p) (size p) (λ j d q. d) t h))

  -- the blocking row on its bound
  hold_tries : (t : Trial) (r : Block) → byte r.state ≤ 2 → r.row < size p → state t.states r.row ≡ 0 → Tries p base t → Tries p base (pass.hold p.lo p.hi t r)
  unfolding pass.hold
  hold_tries t r few b z h =
      let a = r.row in
      let on = byte r.state in
      set_tries p base a on (placed (at p.lo a) (at p.hi a) on (at t.nu a)) b (state-not-idle p t.states a 0 h.stated b z refl) few
      (placed-lo (at p.lo a) (at p.hi a) (at t.nu a) on) (placed-hi (at p.lo a) (at p.hi a) (at t.nu a) on) (size p) (size p) (λ j d q. d) t h

  arrived_passing : (t : Trial) (x : Option Block) → Tries p base t → (w : Wrote p first t.nu t.states) → Blocks p t.states x
      → pass.steps p first (suc w.before) ≡ pass.arrived p t x → Passing p base first (pass.arrived p t x)
  arrived_passing t None h w b came = release_passing t h w came
  arrived_passing t (Some r) h w b came = hold_tries t r b.0 b.1 b.2 h

  unmet_passing : (t : Trial) (l : List ℕ) → Tries p base t → Gathered (ActsUnlimited p t.states) (size p) l → Passing p base first (pass.unmet t l)
  unfolding pass.unmet
  unmet_passing t [] h g = h
  unmet_passing t (a ∷ l) h g = (h, record { some = omega arith; these = g })

  -- a step from t, which stands in the pass after k steps
  module _ (k : ℕ) (t : Trial) (h : Tries p base t) (tried : pass.steps p first k ≡ moved t) where
    abbrev next : Pass
    next = pass.steps p first (suc k)

    wrote : (alpha : Float) → alpha ≡ step_length p t → Wrote p first (pass.advance (free_in p t) (direction_of p t) alpha t.nu (length (free_in p t))) t.states
    unfolding direction_at
    wrote alpha e =
        record {
          before = k;
          from = t.nu;
          tried = tried;
          written = λ i b z. advanced-at t.states (size p) (direction_of p t) alpha t.nu h.long i b z ∙ ap (λ (f : Float). at t.nu i ⊕ f ⊗ direction_at p t i) e;
        }

    -- the step that the ratio test r allows
    abbrev stepped : Blocking → Pass
    stepped r =
        let u = trial (pass.advance (free_in p t) (direction_of p t) r.alpha t.nu (length (free_in p t))) t.states in
        cond (is_finite r.alpha) (pass.arrived p u r.block) (unbounded p t (free_in p t) (direction_of p t))

    stepped_passing : (r : Blocking) → r.alpha ≡ step_length p t → Blocks p t.states r.block → next ≡ stepped r → Passing p base first (stepped r)
    unfolding unbounded wrote
    stepped_passing r e s came = pick (is_finite r.alpha) came
      where
        u : Trial
        u = trial (pass.advance (free_in p t) (direction_of p t) r.alpha t.nu (length (free_in p t))) t.states

        y : List Float
        y = pass.scattered (free_in p t) (direction_of p t) (replicate (size p) 0ᶠ) (length (free_in p t))

        pick : (b : Bool) → next ≡ cond b (pass.arrived p u r.block) (pass.unmet t (ray p t.states y))
            → Passing p base first (cond b (pass.arrived p u r.block) (pass.unmet t (ray p t.states y)))
        pick true c = arrived_passing u r.block (advanced_tries p base t (direction_of p t) r.alpha h) (wrote r.alpha e) s c
        pick false c = unmet_passing t (ray p t.states y) h (ray-gathered p t.states y)

    free_step_passing : next ≡ free_step p t (free_in p t) → Passing p base first (free_step p t (free_in p t))
    unfolding free_step take_step direction_of step_length
    free_step_passing came =
        stepped_passing (pass.ratio_test p.lo p.hi (free_in p t) t.nu (direction_of p t) (pass.longest (target_of p t).inconsistent) (length (free_in p t))) refl
        (test_blocks p t.states t.nu (direction_of p t) (pass.longest (target_of p t).inconsistent)) came

    free_passing : (l : List ℕ) → l ≡ free_in p t → next ≡ pass.step_of p t l → Passing p base first (pass.step_of p t l)
    unfolding pass.step_of free_step take_step unbounded
    free_passing [] e came =
        release_passing t h (record { before = k; from = t.nu; tried = tried; written = λ i b z. absurd (none_free t.states (size p) i (sym e) b z) }) came
    free_passing (a ∷ l) e came = subst (λ (l : List ℕ). next ≡ free_step p t l → Passing p base first (free_step p t l)) (sym e) free_step_passing came

  step_passing : (k : ℕ) (x : Pass) → pass.steps p first k ≡ x → pass.steps p first (suc k) ≡ pass.step p k x → Passing p base first x → Passing p base first (pass.step p k x)
  unfolding pass.step
  step_passing k (moved t) e came h = free_passing k t h e (free_in p t) refl came
  step_passing k (found t) e came h = h
  step_passing k (failed t) e came h = h
  step_passing k (infeasible l t) e came h = h

  steps_passing : Tries p base first → (k : ℕ) → Passing p base first (pass.steps p first k)
  unfolding pass.steps
  steps_passing h k =
      (turns_keep (pass.step p) (moved first) (λ i x. (pass.steps p first i ≡ x) × Passing p base first x) k (turns-start (moved first) (pass.step p), h)
      (λ i x c g. let q = turns-step (moved first) (pass.step p) i ∙ ap (pass.step p i) g.0 in (q, step_passing i x g.0 q g.1))).1

  -- a pass whose steps are used up
  closed_passing : (x : Pass) → Passing p base first x → Passing p base first (pass.closed x)
  unfolding pass.closed
  closed_passing (moved t) h = h
  closed_passing (found t) h = h
  closed_passing (failed t) h = h
  closed_passing (infeasible l t) h = h

pub exact_passing : (p : Problem) (st : List ℕ) (nu : List Float) → Stated p st → length nu ≡ size p → Passing p nu (first_tried p st nu) (exact_pass p st nu)
unfolding exact_pass
exact_passing p st nu m l =
    let s = pass.start p.lo p.hi p.scale nu st (size p) in
    closed_passing p nu (first_tried p st nu) (pass.steps p s.trial (8 * s.acting + 8)) (steps_passing p nu (first_tried p st nu) (start_tries p st nu m l) (8 * s.acting + 8))
