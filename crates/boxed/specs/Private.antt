-- Words of private contracts: what the code tells of a run between two sweeps, and what it leaves. No promise of a
-- public call rests on them; those are in Solve.antt.
-- Definitions only.
use Rattle.std.specs.Prelude.{ℕ, suc, ◌+◌, ◌≤◌, ◌<◌, ◌≡◌, Bool, true, cond, ◌&&◌, ◌||◌, List, length, drop, set, Float, Option, None, Some, Ok}
use Rattle.std.specs.Float.Ieee.{lt}
use Rattle.loops.specs.Loops.{turns, tab, fronted}
use Rattle.floats.specs.Ops.{◌⊕◌, ◌⊖◌, ◌⊗◌, ◌⊘◌, at, 0ᶠ, 1e6}
use Rattle.floats.specs.Helpers.{clamp, larger, abs, is_finite}
use Rattle.box_rows.specs.Rows as box
use Rattle.exact_pass.specs.Promise as promise
use Rattle.boxed.specs.declared.Counts.{Counts}
use Rattle.boxed.specs.declared.Ended.{Ended}
use Rattle.boxed.specs.declared.Ended.TheVariants.{Exact, Converged, Infeasible}
use Rattle.boxed.specs.declared.Watch.{Watch}
use Rattle.boxed.specs.declared.BoxReport.{BoxReport}
use Rattle.boxed.specs.declared.BoxOutcome.{BoxOutcome}
use Rattle.boxed.specs.Sweep as sweep
use Rattle.boxed.specs.Solve.{Run, going, ended, exact, converged, conflict}
use Rattle.boxed.specs.Solve as solve
use Rattle.boxed.specs.Solve.{Iterate, iterate, Outcome, Result, result, answer_of}

-- what the code tells of a run: how it ended, if it did
abbrev pub ended_of : Run → Option Ended
ended_of (going s) = None
ended_of (ended exact s) = Some Exact
ended_of (ended converged s) = Some Converged
ended_of (ended (conflict c l) s) = Some (Infeasible c (length l))

abbrev pub iterate_of : Run → Iterate
iterate_of (going s) = s
iterate_of (ended e s) = s

-- the row list: the rows that fight at its front
abbrev pub listed_of : Run → List ℕ → List ℕ
listed_of (going s) l = l
listed_of (ended exact s) l = l
listed_of (ended converged s) l = l
listed_of (ended (conflict c r) s) l = fronted r l

-- ---- what private functions are lent

-- the motion that is watched, of the lists that are lent
abbrev pub watched : Watch → solve.Watch
watched m = solve.watch m.motion.now m.tolerance

-- a state and a multiplier for each row
pub record Lists (p : box.Problem) (st : List ℕ) (nu : List Float) : Type 0 where
  pub states : length st ≡ box.size p
  pub multipliers : length nu ≡ box.size p

-- the same, with a place for each multiplier before a sweep
pub record SweepLists (p : box.Problem) (st : List ℕ) (nu old : List Float) : Type 0 where
  pub lists : Lists p st nu
  pub before : length old ≡ box.size p

-- what the tests after a sweep are lent: there is a row, and the row list has a place for each
pub record TestLists (p : box.Problem) (st : List ℕ) (nu old : List Float) (l : List ℕ) : Type 0 where
  pub sweep : SweepLists p st nu old
  pub listed : box.size p ≤ length l
  pub some : 0 < box.size p

-- where a workspace has the multipliers before a sweep: past an exact pass's own values and the multipliers that the
-- pass starts from
abbrev pub BEFORE : ℕ
BEFORE = promise.WORKSPACE + box.MAX_ROWS

-- where they end, which is the end of what a solve uses of the workspace
abbrev pub SOLVE_END : ℕ
SOLVE_END = BEFORE + box.MAX_ROWS

-- the most that a count can be
abbrev pub MOST : ℕ
MOST = 0xffff_ffff

-- what a whole solve is lent
pub record Lent (p : box.Problem) (st : List ℕ) (nu : List Float) (l : List ℕ) (work : List Float) : Type 0 where
  pub lists : Lists p st nu
  pub listed : box.size p ≤ length l
  pub workspace : SOLVE_END ≤ length work

-- the same at a checkpoint, where one more pass can be counted
pub record CheckLent (p : box.Problem) (st : List ℕ) (nu : List Float) (l : List ℕ) (work : List Float) (c : Counts)
    : Type 0 where
  pub lent : Lent p st nu l work
  pub passes : c.passes < MOST

-- the same before a sweep: there is a row, and one more sweep can be counted too
pub record TurnLent (p : box.Problem) (st : List ℕ) (nu : List Float) (l : List ℕ) (work : List Float) (c : Counts)
    : Type 0 where
  pub check : CheckLent p st nu l work c
  pub some : 0 < box.size p
  pub sweeps : c.sweeps < MOST

-- ---- what they answer and leave

-- a start by its parts
abbrev pub started : List Float → List ℕ → ℕ → sweep.Start
started nu st k = record { nu = nu; states = st; idle = k }

-- the start x, with at most m rows Idle
pub record Started (x : sweep.Start) (m : ℕ) (nu : List Float) (st : List ℕ) (k : ℕ) : Type 0 where
  pub start : started nu st k ≡ x
  pub within : k ≤ m

-- a sweep from the multipliers nu₀, of which `old` is a copy
pub record Swept (p : box.Problem) (st : List ℕ) (nu₀ nu old : List Float) (k : ℕ) : Type 0 where
  pub multipliers : nu ≡ sweep.sweep p.w p.u_free p.lo p.hi st nu₀ (box.size p)
  pub before : old ≡ nu₀
  pub stopped : k ≡ sweep.stopped p.w p.u_free p.lo p.hi st nu₀ (box.size p)

-- what the code tells of a run r, where the row list was l₀
pub record Ran (r : Run) (l₀ : List ℕ) (e : Option Ended) (nu : List Float) (st : List ℕ) (c : Counts) (l : List ℕ)
    : Type 0 where
  pub answer : e ≡ ended_of r
  pub reached : iterate nu st c ≡ iterate_of r
  pub listed : l ≡ listed_of r l₀

-- the same, and past the first u values the workspace is as it was in work₀
pub record Worked (u : ℕ) (r : Run) (l₀ : List ℕ) (work₀ : List Float)
    (e : Option Ended) (nu : List Float) (st : List ℕ) (c : Counts) (l : List ℕ) (work : List Float)
    : Type 0 where
  pub ran : Ran r l₀ e nu st c l
  pub workspace : drop u work ≡ drop u work₀

-- the same, with k sweeps counted and at most m passes
pub record Counted (u : ℕ) (r : Run) (l₀ : List ℕ) (work₀ : List Float) (k m : ℕ)
    (e : Option Ended) (nu : List Float) (st : List ℕ) (c : Counts) (l : List ℕ) (work : List Float)
    : Type 0 where
  pub worked : Worked u r l₀ work₀ e nu st c l work
  pub sweeps : c.sweeps ≡ k
  pub passes : c.passes ≤ m

-- a solve that is not refused ends with this result: its answer, and what it leaves in the multipliers, the states and
-- the row list
pub record Finished (x : Result) (r : BoxOutcome) (nu : List Float) (st l : List ℕ) : Type 0 where
  pub answer : Ok r ≡ answer_of x.outcome
  pub multipliers : nu ≡ x.nu
  pub states : st ≡ x.states
  pub listed : l ≡ x.listed

-- the answer a, and the states st' left, where a run has come to the iterate of nu, st and c and ended as e tells
abbrev pub Answered : box.Problem → ℕ → Option Ended → List Float → List ℕ → Counts → BoxOutcome → List ℕ → Type 0
Answered p idle e nu st c a st' =
    (r : Run) (l₀ l : List ℕ) → Ran r l₀ e nu st c l → Finished (result p idle l₀ r) a nu st' l

-- ---- single rows and short words of Sweep.antt, as the functions have them

-- row i, of which d is the diagonal
unfoldable pub start_row : Float → Float → Float → ℕ → sweep.Start → sweep.Start
start_row d lo hi i s =
    cond (box.is_idle d)
    (started (set s.nu i (clamp 0ᶠ lo hi)) (set s.states i box.idle) (suc s.idle))
    (started (set s.nu i (clamp (at s.nu i) lo hi)) (set s.states i box.inside) s.idle)

unfoldable pub sweep_row : List Float → List Float → List Float → List Float → List ℕ → ℕ → List Float → List Float
sweep_row w u_free lo hi st i nu =
    let r = box.row w (length u_free) i in
    cond (box.acts st i)
    (set nu i (box.update (at nu i) (box.row_sum r (at u_free i) nu) (at r i) (at lo i) (at hi i)))
    nu

-- whether row i is stopped at a bound
unfoldable pub stops : List Float → List Float → List Float → List Float → List ℕ → ℕ → List Float → Bool
stops w u_free lo hi st i nu =
    let r = box.row w (length u_free) i in
    let x = at nu i ⊖ box.row_sum r (at u_free i) nu ⊘ at r i in
    box.acts st i && (lt x (at lo i) || lt (at hi i) x)

unfoldable pub is_grown : Float → Float → Bool
is_grown v s = lt (1e6 ⊗ s) (abs v)

abbrev pub grown_at : List Float → List Float → ℕ → Bool
grown_at nu scale i = is_grown (at nu i) (at scale i)

unfoldable pub residual_row : box.Problem → List ℕ → List Float → ℕ → Float → Float
residual_row p st nu i worst = cond (box.acts st i) (larger worst (box.residual_at p nu i)) worst

unfoldable pub coordinate : List Float → List Float → List Float → ℕ → Float
coordinate r nu before k = turns k 0ᶠ λ i s. s ⊕ at r i ⊗ (at nu i ⊖ at before i)

abbrev pub change_at : List Float → List Float → ℕ → Float
change_at nu before i = at nu i ⊖ at before i

-- the direction in which a sweep moved the multipliers
unfoldable pub change : List Float → List Float → ℕ → List Float
change nu before k = tab (change_at nu before) k

-- ---- and of Solve.antt

-- a result by its parts
abbrev pub result_with : Outcome → List Float → List ℕ → List ℕ → Result
result_with o nu st l = record { outcome = o; nu = nu; states = st; listed = l }

-- the report where all rows are Idle
abbrev pub nothing : ℕ → BoxReport
nothing idle =
    record {
      sweeps = 0;
      exact_passes = 0;
      converged = true;
      exact = true;
      residual = 0ᶠ;
      idle = idle;
      stopped = 0;
    }

unfoldable pub good_scale : Float → Bool
good_scale s = is_finite s && lt 0ᶠ s

abbrev pub good_scale_at : List Float → ℕ → Bool
good_scale_at scale i = good_scale (at scale i)
