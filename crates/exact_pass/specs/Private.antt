-- Words of private contracts: what they are lent. No promise of a public call stands on them; those are in
-- Promise.antt. Definitions only.
use Rattle.std.specs.Prelude.{ℕ, suc, ◌+◌, ◌-◌, ◌*◌, ◌≤◌, ◌<◌, ◌≡◌, Bool, false, not, cond, ◌&&◌, ◌||◌, Option, Some, None, MatchOption, List, eqb, get_or, set, length, take, drop, replicate, Float}
use Rattle.std.specs.Float.{nan}
use Rattle.std.specs.Float.Ieee.{lt, le, neg}
use Rattle.loops.specs.Loops.{turns, tab}
use Rattle.loops.specs.Updates.{updated}
use Rattle.floats.specs.Ops.{◌⊕◌, ◌⊖◌, ◌⊗◌, ◌⊘◌, at, 0ᶠ, 1e6, 1e-9}
use Rattle.floats.specs.Helpers.{larger, abs, is_finite}
use Rattle.least_norm.specs.LeastNorm.{least_norm}
use Rattle.box_rows.specs.Rows as box
use Rattle.exact_pass.specs.Ray.{ray}
use Rattle.exact_pass.specs.Pass as pass
use Rattle.exact_pass.specs.Walk as walks
use Rattle.exact_pass.specs.Promise as promise
use Rattle.exact_pass.specs.Promise.{WORKSPACE}
use Rattle.exact_pass.specs.Below.{Below}
use Rattle.exact_pass.specs.declared.row_values.RowValues.{RowValues}
use Rattle.exact_pass.specs.declared.RayRows.{RayRows}
use Rattle.exact_pass.specs.declared.Residuals.{Residuals}
use Rattle.exact_pass.specs.declared.Worst.{Worst}
use Rattle.exact_pass.specs.declared.Cycle.{Cycle}
use Rattle.exact_pass.specs.declared.Exact.{Exact}
use Rattle.exact_pass.specs.declared.Exact.TheVariants.{Found, Failed, Infeasible}

-- places of the workspace: the right-hand side of the free rows and then, in the same place, their direction; the
-- multipliers marked
abbrev pub RIGHT_HAND_SIDE : ℕ
RIGHT_HAND_SIDE = 1056

abbrev pub DIRECTION : ℕ
DIRECTION = 1056

abbrev pub MARKED : ℕ
MARKED = 1088

-- how a step ends the pass, if it does
abbrev pub end_of : pass.Pass → Option Exact
end_of (pass.moved t) = None
end_of (pass.found t) = Some Found
end_of (pass.failed t) = Some Failed
end_of (pass.infeasible l t) = Some (Infeasible (length l))

-- after a step, which was lent the row list r₀
pub record Passed (p : pass.Pass) (r₀ : List ℕ) (e : Option Exact) (nu : List Float) (st r : List ℕ) : Type 0 where
  pub answer : e ≡ end_of p
  pub tried : pass.trial nu st ≡ promise.trial_of p
  pub listed : r ≡ promise.rows_of p r₀

-- a copy of `from` in `to`, which was to₀, from place a on; what lies past it stays
pub record Copied {A : Type 0} (from : List A) (a : ℕ) (to₀ to : List A) : Type 0 where
  pub part : take (length from) (drop a to) ≡ from
  pub after : drop (a + length from) to ≡ drop (a + length from) to₀

-- ---- what the functions are lent

-- a system of k rows, at most 32, a place for each value of its solution, and the workspace of a least-norm call
pub record SolveLent (k : ℕ) (m z work : List Float) : Type 0 where
  pub few : k ≤ box.MAX_ROWS
  pub matrix : length m ≡ k * k
  pub solution : length z ≡ k
  pub workspace : RIGHT_HAND_SIDE ≤ length work

-- what a run and each of its steps are lent
pub record RunLent (p : box.Problem) (st : List ℕ) (nu : List Float) (rows : List ℕ) (work : List Float) : Type 0 where
  pub states : length st ≡ box.size p
  pub multipliers : length nu ≡ box.size p
  pub list : box.size p ≤ length rows
  pub workspace : WORKSPACE ≤ length work

-- what marks are made in: multipliers of n rows in the workspace, their states in `marks`
pub record MarksLent (n : ℕ) (st : List ℕ) (work : List Float) (marks : List ℕ) : Type 0 where
  pub states : length st ≡ n
  pub few : n ≤ box.MAX_ROWS
  pub workspace : WORKSPACE ≤ length work
  pub long : n ≤ length marks

-- the same after a step, by the counters m before it, when some step remained
pub record AfterLent (n : ℕ) (st : List ℕ) (work : List Float) (marks : List ℕ) (m : Cycle) : Type 0 where
  pub lent : MarksLent n st work marks
  pub some : 0 < m.remaining
  pub since : m.since + m.remaining ≤ 264
  pub span : m.span ≤ 528

-- ---- what they leave

-- the start x, with at most m rows that act
pub record Started (x : pass.Start) (m : ℕ) (nu : List Float) (st : List ℕ) (k : ℕ) : Type 0 where
  pub start : record { trial = pass.trial nu st; acting = k } ≡ x
  pub within : k ≤ m

abbrev pub targeted : List Float → List Float → Bool → pass.Target
targeted z y b = record { z = z; y = y; inconsistent = b }

-- after a step: what is marked in the workspace stays
pub record Stepped (p : pass.Pass) (rows : List ℕ) (work : List Float) (e : Option Exact)
    (nu : List Float) (st rows' : List ℕ) (work' : List Float) : Type 0 where
  pub passed : Passed p rows e nu st rows'
  pub workspace : drop MARKED work' ≡ drop MARKED work

-- after a pass
pub record Ran (p : box.Problem) (st : List ℕ) (nu : List Float) (rows : List ℕ) (work : List Float) (e : Exact)
    (nu' : List Float) (st' rows' : List ℕ) (work' : List Float) : Type 0 where
  pub passed : promise.Passed (pass.exact_pass p st nu) rows e nu' st' rows'
  pub workspace : drop WORKSPACE work' ≡ drop WORKSPACE work

-- after a system of the matrix m and the right-hand side b is solved
pub record Solved (m b work z work' : List Float) : Type 0 where
  pub solution : z ≡ (least_norm (length b) (length b) m b).x
  pub workspace : drop 1056 work' ≡ drop 1056 work

-- column j of w times v, taken from the right-hand sides of the first k rows of l
abbrev pub column_taken : List Float → ℕ → List ℕ → ℕ → Float → ℕ → List Float → List Float
column_taken w n l j v k rhs =
    updated nan (λ (i : ℕ). i) (λ (i : ℕ) (x : Float). x ⊖ at (box.row w n (get_or l i 0)) j ⊗ v) 0 k rhs

-- k values from place a on
abbrev pub part : ℕ → ℕ → List Float → List Float
part a k work = take k (drop a work)

-- after the direction of the free rows l is found, for the target t of their system: it is in the workspace
pub record Directed (t : pass.Target) (scale : List Float) (l : List ℕ) (nu work : List Float) (b : Bool)
    (work' : List Float) : Type 0 where
  pub direction : part DIRECTION (length l) work' ≡ pass.direction t.inconsistent scale l t.z nu t.y
  pub inconsistent : b ≡ t.inconsistent
  pub workspace : drop MARKED work' ≡ drop MARKED work

-- the same for the target of the system of the free rows l, at the trial t
abbrev pub DirectedTo : RowValues → List ℕ → List Float → Bool → List Float → Type 0
DirectedTo t l work b work' =
    let p = t.problem.now in
    Directed (pass.target p.w.now p.u_free.now p.scale.now t.states.now t.values.now l) p.scale.now l t.values.now work b
    work'

-- the rows that a walk over n rows has, and their farthest; none where it was stopped
abbrev pub Collected : Option RayRows → List ℕ → ℕ → walks.Walked → Type 0
Collected c rows n walks.none = c ≡ None
Collected c rows n (walks.these l far) =
    MatchOption c ⊥ λ r. (rows ≡ l) × (r.count ≡ length l) × (r.farthest ≡ far) × (length l ≤ n) × Below n l

-- the multipliers and states marked, of n rows
abbrev pub marked : ℕ → List Float → List ℕ → pass.Trial
marked n work marks = pass.trial (part MARKED n work) (take n marks)

-- if a pass comes to the trial t in k steps from the trial s, then i steps from t lead to the same as j of them
pub record Shortened (s t : pass.Trial) (k i j : ℕ) : Type 0 where
  pub steps : (p : box.Problem) → pass.steps p s k ≡ pass.moved t → pass.steps p t i ≡ pass.steps p t j
  pub fewer : j ≤ i

-- After a step to the trial t, by the counters m before it: if the pass came to t from what was marked, it came to t
-- from what is marked now, and the steps that remain by m' lead to where those by m do.
pub record MarkedOn (t : pass.Trial) (m : Cycle) (work : List Float) (marks : List ℕ) (m' : Cycle)
    (work' : List Float) (marks' : List ℕ) : Type 0 where
  pub round : (p : box.Problem) → pass.steps p (marked (length t.nu) work marks) (m.since + 1) ≡ pass.moved t
      → pass.steps p (marked (length t.nu) work' marks') m'.since ≡ pass.moved t
  pub remaining : Shortened (marked (length t.nu) work marks) t (m.since + 1) (m.remaining - 1) m'.remaining
  pub since : m'.since ≤ m.since + 1
  pub span : m'.span ≤ 528
  pub beyond : drop WORKSPACE work' ≡ drop WORKSPACE work

-- ---- single rows and short words of Pass.antt, as the functions have them

abbrev pub started : List Float → List ℕ → ℕ → pass.Start
started nu st k = record { trial = pass.trial nu st; acting = k }

unfoldable pub start_row : List Float → List Float → List Float → ℕ → pass.Start → pass.Start
start_row lo hi scale i s =
    let nu = s.trial.nu in
    let st = s.trial.states in
    let state = box.state_of (at lo i) (at hi i) (at scale i) (at nu i) in
    cond (box.acts st i)
    (started (set nu i (box.placed (at lo i) (at hi i) state (at nu i))) (set st i state) (suc s.acting))
    s

abbrev pub is_free : List ℕ → ℕ → Bool
is_free st i = eqb (box.state st i) box.inside

unfoldable pub right_hand_row : List Float → List ℕ → List Float → Float → ℕ → Float
right_hand_row r st nu u n = turns n (neg u) λ j s. cond (is_free st j) s (s ⊖ at r j ⊗ at nu j)

abbrev pub right_hand_at : List Float → List Float → List ℕ → List Float → List ℕ → ℕ → Float
right_hand_at w u_free st nu l i =
    right_hand_row (box.row w (length nu) (get_or l i 0)) st nu (at u_free (get_or l i 0)) (length nu)

abbrev pub scaled : List Float → List Float → List ℕ → ℕ → Float
scaled r scale l j = at r (get_or l j 0) ⊗ at scale (get_or l j 0)

unfoldable pub matrix_row : List Float → List Float → List ℕ → ℕ → List Float
matrix_row r scale l k = tab (scaled r scale l) k

unfoldable pub residual_row : List Float → List Float → List ℕ → List Float → Float → ℕ → Float
residual_row r scale l z b k = turns k (neg b) λ j s. s ⊕ scaled r scale l j ⊗ at z j

-- q is what z leaves of two rows r and s, whose right-hand sides are a and b
pub record TwoResiduals (r s scale : List Float) (l : List ℕ) (z : List Float) (a b : Float)
    (q : Residuals) : Type 0 where
  pub first : q.first ≡ residual_row r scale l z a (length l)
  pub second : q.second ≡ residual_row s scale l z b (length l)

-- whether x, what is left of row a, is too large: r is its row of w
unfoldable pub too_large : List Float → List Float → ℕ → Float → Bool
too_large r scale a x = lt 1e-9 (abs (x ⊘ at r a) ⊘ at scale a)

abbrev pub too_large_at : List Float → List Float → List ℕ → List Float → List Float → ℕ → Bool
too_large_at w scale l rhs z i =
    let a = get_or l i 0 in
    too_large (box.row w (length scale) a) scale a (pass.residual w scale l rhs z i)

abbrev pub inconsistent : List Float → List Float → List ℕ → List Float → List Float → ℕ → Bool
inconsistent w scale l rhs z k = turns k false λ i b. b || too_large_at w scale l rhs z i

abbrev pub downhill_at : List Float → List Float → List ℕ → List Float → List Float → ℕ → Float
downhill_at w scale l rhs z i = neg (pass.residual w scale l rhs z i)

abbrev pub downhill : List Float → List Float → List ℕ → List Float → List Float → ℕ → List Float
downhill w scale l rhs z k = tab (downhill_at w scale l rhs z) k

-- after rows i and e are tested: y' has minus what z leaves of them, and b tells whether one is too large
pub record TwoTested (w scale : List Float) (l : List ℕ) (rhs z : List Float) (i e : ℕ) (y : List Float) (b : Bool)
    (y' : List Float) : Type 0 where
  pub downhill : y' ≡ set (set y i (downhill_at w scale l rhs z i)) e (downhill_at w scale l rhs z e)
  pub inconsistent : b ≡ (too_large_at w scale l rhs z i || too_large_at w scale l rhs z e)

-- after all rows are
pub record Tested (w scale : List Float) (l : List ℕ) (rhs z : List Float) (b : Bool) (y : List Float) : Type 0 where
  pub downhill : y ≡ downhill w scale l rhs z (length l)
  pub inconsistent : b ≡ inconsistent w scale l rhs z (length l)

abbrev pub to_target : List Float → List ℕ → List Float → List Float → ℕ → List Float
to_target scale l z nu k = tab (λ (i : ℕ). at scale (get_or l i 0) ⊗ at z i ⊖ at nu (get_or l i 0)) k

unfoldable pub worse : ℕ → Float → Worst → Worst
worse i r worst = cond (lt worst.residual r) (record { residual = r; row = Some i }) worst

unfoldable pub release_row : box.Problem → List ℕ → List Float → ℕ → Worst → Worst
release_row p st nu i worst =
    cond (box.pushed (box.state st i) (box.row_sum (box.row p.w (box.size p) i) (at p.u_free i) nu))
    (worse i (box.residual_at p nu i) worst)
    worst

abbrev pub worst_row : box.Problem → List ℕ → List Float → ℕ → Worst
worst_row p st nu n = turns n (record { residual = 1e-9; row = None }) (release_row p st nu)

unfoldable pub unbounded : box.Problem → pass.Trial → List ℕ → List Float → pass.Pass
unbounded p t l y = pass.unmet t (ray p t.states (pass.scattered l y (replicate (box.size p) 0ᶠ) (length l)))

-- the step in the direction y that the ratio test allows
unfoldable pub take_step : box.Problem → pass.Trial → List ℕ → List Float → Bool → pass.Pass
take_step p t l y inconsistent =
    let r = pass.ratio_test p.lo p.hi l t.nu y (pass.longest inconsistent) (length l) in
    let u = pass.trial (pass.advance l y r.alpha t.nu (length l)) t.states in
    cond (is_finite r.alpha) (pass.arrived p u r.block) (unbounded p t l y)

unfoldable pub free_step : box.Problem → pass.Trial → List ℕ → pass.Pass
free_step p t l =
    let g = pass.target p.w p.u_free p.scale t.states t.nu l in
    take_step p t l (pass.direction g.inconsistent p.scale l g.z t.nu g.y) g.inconsistent

-- ---- and of Ray.antt

unfoldable pub largest_row : List Float → List ℕ → List Float → ℕ → Float → Float
largest_row scale st y a worst = cond (box.acts st a) (larger worst (walks.size_at scale y a)) worst

-- the largest size of the first n rows, of those that act
unfoldable pub largest : List Float → List ℕ → List Float → ℕ → Float
largest scale st y n = turns n 0ᶠ (largest_row scale st y)

unfoldable pub linear : List Float → List Float → List ℕ → ℕ → Float
linear u_free y l k = turns k 0ᶠ λ i s. s ⊕ at u_free (get_or l i 0) ⊗ at y (get_or l i 0)

-- row r of the matrix, whose own place in y holds v
unfoldable pub quadratic_row : List Float → Float → List Float → List ℕ → Float → ℕ → Float
quadratic_row r v y l q k = turns k q λ j q. q ⊕ v ⊗ at r (get_or l j 0) ⊗ at y (get_or l j 0)

unfoldable pub quadratic : List Float → ℕ → List Float → List ℕ → ℕ → Float
quadratic w n y l k = turns k 0ᶠ λ i q. quadratic_row (box.row w n (get_or l i 0)) (at y (get_or l i 0)) y l q (length l)

unfoldable pub falls : Float → Float → Float → Bool
falls lin quad far = not (le 0ᶠ lin) && (le quad 0ᶠ || lt 1e6 (neg lin ⊘ quad ⊗ far))
