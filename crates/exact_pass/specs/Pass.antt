-- The exact pass of boxed.rs, by its steps. Definitions only. l lists the free rows; the right-hand side, z and y
-- have a value for each of them.
use Rattle.std.specs.Prelude.{ℕ, suc, ◌+◌, ◌*◌, Bool, false, cond, ◌||◌, Option, Some, None, List, [], ◌∷◌, ◌++◌, eqb, get_or, set, length, replicate, Float}
use Rattle.std.specs.Float.Ieee.{lt, neg}
use Rattle.loops.specs.Loops.{turns, tab, those}
use Rattle.floats.specs.Ops.{◌⊕◌, ◌⊖◌, ◌⊗◌, ◌⊘◌, at, 0ᶠ, 1ᶠ, 1e-9, ∞}
use Rattle.floats.specs.Helpers.{abs, is_finite}
use Rattle.least_norm.specs.LeastNorm.{least_norm}
use Rattle.box_rows.specs.Rows as box
use Rattle.exact_pass.specs.Ray.{ray}
use Rattle.box_rows.specs.States.{byte}
use Rattle.box_rows.specs.declared.Block.{Block}
use Rattle.box_rows.specs.declared.Blocking.{Blocking}
use Rattle.exact_pass.specs.declared.Worst.{Worst}

-- the multipliers tried and the states
pub record Trial : Type 0 where
  pub nu : List Float
  pub states : List ℕ

abbrev pub trial : List Float → List ℕ → Trial
trial nu st = record { nu = nu; states = st }

-- how a pass goes on after a step, or ended
pub data Pass : Type 0 where
  moved found failed : Trial → Pass
  infeasible : List ℕ → Trial → Pass

-- ---- the start: each row in the state that its multiplier shows, a row on a bound exactly there

pub record Start : Type 0 where
  pub trial : Trial
  pub acting : ℕ

unfoldable pub start : List Float → List Float → List Float → List Float → List ℕ → ℕ → Start
start lo hi scale nu st n =
    turns n (record { trial = trial nu st; acting = 0 }) λ i s.
    let nu = s.trial.nu in
    let st = s.trial.states in
    let state = box.state_of (at lo i) (at hi i) (at scale i) (at nu i) in
    cond (box.acts st i)
    (record {
      trial = trial (set nu i (box.placed (at lo i) (at hi i) state (at nu i))) (set st i state);
      acting = suc s.acting;
    })
    s

-- ---- the free rows, strictly inside their boxes

abbrev pub free_rows : List ℕ → ℕ → List ℕ
free_rows st n = those (λ (i : ℕ). eqb (box.state st i) box.inside) n

-- ---- the system of the free rows: what the rows on a bound leave to each, and the matrix in scaled multipliers

unfoldable pub right_hand_side : List Float → List Float → List ℕ → List Float → List ℕ → ℕ → List Float
right_hand_side w u_free st nu l k =
    tab
    (λ (i : ℕ).
    let r = box.row w (length nu) (get_or l i 0) in
    turns (length nu) (neg (at u_free (get_or l i 0))) λ j s.
    cond (eqb (box.state st j) box.inside) s (s ⊖ at r j ⊗ at nu j))
    k

unfoldable pub matrix : List Float → List Float → List ℕ → ℕ → List Float
matrix w scale l k =
    turns k [] λ i m.
    let r = box.row w (length scale) (get_or l i 0) in
    m ++ tab (λ (j : ℕ). at r (get_or l j 0) ⊗ at scale (get_or l j 0)) (length l)

-- what the solution z leaves of row i of the system
unfoldable pub residual : List Float → List Float → List ℕ → List Float → List Float → ℕ → Float
residual w scale l rhs z i =
    let r = box.row w (length scale) (get_or l i 0) in
    turns (length l) (neg (at rhs i)) λ j s. s ⊕ at r (get_or l j 0) ⊗ at scale (get_or l j 0) ⊗ at z j

-- the least-norm solution z of the system, minus what it leaves, and whether that is too much for some row
-- (EXACT_RESIDUAL): then no multipliers make the free rows still
pub record Target : Type 0 where
  pub z : List Float
  pub y : List Float
  pub inconsistent : Bool

unfoldable pub target : List Float → List Float → List Float → List ℕ → List Float → List ℕ → Target
target w u_free scale st nu l =
    let k = length l in
    let rhs = right_hand_side w u_free st nu l k in
    let z = (least_norm k k (matrix w scale l k) rhs).x in
    record {
      z = z;
      y = tab (λ (i : ℕ). neg (residual w scale l rhs z i)) k;
      inconsistent =
          turns k false λ i b.
          let a = get_or l i 0 in
          b || lt 1e-9 (abs (residual w scale l rhs z i ⊘ at (box.row w (length scale) a) a) ⊘ at scale a);
    }

-- ---- the direction, to the target or what its solution leaves, and the longest step

unfoldable pub direction : Bool → List Float → List ℕ → List Float → List Float → List Float → List Float
direction inconsistent scale l z nu y =
    cond inconsistent y (tab (λ (i : ℕ). at scale (get_or l i 0) ⊗ at z i ⊖ at nu (get_or l i 0)) (length l))

unfoldable pub longest : Bool → Float
longest inconsistent = cond inconsistent ∞ 1ᶠ

-- ---- the ratio test: how far the boxes let the free rows go in the direction y, and the row that blocks it

unfoldable pub ratio_test : List Float → List Float → List ℕ → List Float → List Float → Float → ℕ → Blocking
ratio_test lo hi l nu y alpha k =
    turns k (record { alpha = alpha; block = None }) λ i r.
    let a = get_or l i 0 in
    box.ratio_row a (at nu a) (at y i) (at lo a) (at hi a) r

-- the free rows moved by alpha times y
unfoldable pub advance : List ℕ → List Float → Float → List Float → ℕ → List Float
advance l y alpha nu k = turns k nu λ i nu. set nu (get_or l i 0) (at nu (get_or l i 0) ⊕ alpha ⊗ at y i)

-- the blocking row on its bound
unfoldable pub hold : List Float → List Float → Trial → Block → Trial
hold lo hi t r =
    let a = r.row in
    trial (set t.nu a (box.placed (at lo a) (at hi a) (byte r.state) (at t.nu a))) (set t.states a (byte r.state))

-- ---- the release of the row on a bound pushed inside the hardest, the first of equals

-- where no row is left to free, the multipliers meet every condition
abbrev pub freed : Trial → Option ℕ → Pass
freed t None = found t
freed t (Some i) = moved (trial t.nu (set t.states i box.inside))

unfoldable pub release : box.Problem → Trial → Pass
release p t =
    let n = box.size p in
    let worst : Worst =
    turns n (record { residual = 1e-9; row = None }) λ i worst.
    let u = box.row_sum (box.row p.w n i) (at p.u_free i) t.nu in
    let r = box.residual_at p t.nu i in
    cond (box.pushed (box.state t.states i) u)
    (cond (lt worst.residual r) (record { residual = r; row = Some i }) worst)
    worst in
    freed t worst.row

-- ---- no bound is met: the rows of a ray, or the pass has failed

-- y as the direction of all rows
unfoldable pub scattered : List ℕ → List Float → List Float → ℕ → List Float
scattered l y d k = turns k d λ i d. set d (get_or l i 0) (at y i)

unfoldable pub unmet : Trial → List ℕ → Pass
unmet t [] = failed t
unmet t (a ∷ l) = infeasible (a ∷ l) t

-- ---- one step, where l lists the free rows

-- after the step that the boxes let be: the row that blocks it on its bound; where none does, one is released
abbrev pub arrived : box.Problem → Trial → Option Block → Pass
arrived p u None = release p u
arrived p u (Some r) = moved (hold p.lo p.hi u r)

unfoldable pub step_of : box.Problem → Trial → List ℕ → Pass
step_of p t [] = release p t
step_of p t (a ∷ r) =
    let l = a ∷ r in
    let g = target p.w p.u_free p.scale t.states t.nu l in
    let y = direction g.inconsistent p.scale l g.z t.nu g.y in
    let b = ratio_test p.lo p.hi l t.nu y (longest g.inconsistent) (length l) in
    let u = trial (advance l y b.alpha t.nu (length l)) t.states in
    cond (is_finite b.alpha) (arrived p u b.block)
    (unmet t (ray p t.states (scattered l y (replicate (box.size p) 0ᶠ) (length l))))

unfoldable pub step : box.Problem → ℕ → Pass → Pass
step p k (moved t) = step_of p t (free_rows t.states (box.size p))
step p k (found t) = found t
step p k (failed t) = failed t
step p k (infeasible l t) = infeasible l t

-- ---- the pass: at most 8 steps for each row that acts, and 8

unfoldable pub steps : box.Problem → Trial → ℕ → Pass
steps p t k = turns k (moved t) (step p)

-- a pass whose steps are used up has failed
unfoldable pub closed : Pass → Pass
closed (moved t) = failed t
closed (found t) = found t
closed (failed t) = failed t
closed (infeasible l t) = infeasible l t

unfoldable pub exact_pass : box.Problem → List ℕ → List Float → Pass
exact_pass p st nu =
    let s = start p.lo p.hi p.scale nu st (box.size p) in
    closed (steps p s.trial (8 * s.acting + 8))
