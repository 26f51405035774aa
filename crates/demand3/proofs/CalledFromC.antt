-- Demand 3 of the C interface: what one call leaves is what the next one reads, so a list of calls is a list of tallied solves.
use Prim.Native.Nat.{ℕ, ◌≤◌}
use mathlib.Core.Path.{◌≡◌, refl, sym, ◌∙◌, ap, subst}
use mathlib.Core.Bool.{Bool, true, false}
use mathlib.Core.List.{List, [], ◌∷◌}
use native.Mathlib.Omega.{arith}
use native.Mathlib.Nat.{not-suc-le-zero}
use lib.ListN.{length, set, length-set}
use lib.Ieee.{Float}
use borrow.Author.Tests.{le-leb}
use Rattle.floats.specs.Ops.{at}
use Rattle.report.specs.declared.SolveReport.{SolveReport}
use Rattle.boxed.specs.Solve.{Outcome, refused, solved, infeasible, answer_of}
use Rattle.flags.specs.Flags.{flag, flagged}
use Rattle.std.specs.Prelude.{Result, Ok, Err}
use Rattle.boxed.specs.declared.BoxOutcome.{BoxOutcome}
use Rattle.refusals.specs.declared.Refusal.{Refusal}
use Rattle.tally.specs.Tally.{Call, Tallied, tallied, joined_to, with}
use Rattle.tallied.specs.Joining.{Entered}
use Rattle.capi.specs.Reports as report
use Rattle.capi.specs.Tallies as tallies
use Rattle.demand3.specs.Called.{Told, told_of, Workspace, Made}
use Rattle.demand3.specs.CalledFromC.{Buffers, held, Long, Lent, Answer, MadeFromC, taken, solves, unless, Tells, AtOnce, OneTells, EachTells, ListOfSolves, FromC, DemandFromC}
use Rattle.demand3.proofs.Called.{demand3_of_code}

-- ---- a report that was written reads back

flag-read : (b : Bool) → flagged (flag b) ≡ b
flag-read true = refl
flag-read false = refl

read-written : (t : SolveReport) (l : List ℕ) (v : Float) → 10 ≤ length l → v ≡ t.residual → report.read (report.written t l) v ≡ t
unfolding report.read report.written
read-written t (a ∷ b ∷ c ∷ d ∷ e ∷ f ∷ g ∷ h ∷ i ∷ j ∷ l) v n q = rw (flag-read t.converged, flag-read t.exact, q)
read-written t [] v n q = absurd (not-suc-le-zero n)
read-written t (a ∷ []) v n q = absurd (omega (arith, n))
read-written t (a ∷ b ∷ []) v n q = absurd (omega (arith, n))
read-written t (a ∷ b ∷ c ∷ []) v n q = absurd (omega (arith, n))
read-written t (a ∷ b ∷ c ∷ d ∷ []) v n q = absurd (omega (arith, n))
read-written t (a ∷ b ∷ c ∷ d ∷ e ∷ []) v n q = absurd (omega (arith, n))
read-written t (a ∷ b ∷ c ∷ d ∷ e ∷ f ∷ []) v n q = absurd (omega (arith, n))
read-written t (a ∷ b ∷ c ∷ d ∷ e ∷ f ∷ g ∷ []) v n q = absurd (omega (arith, n))
read-written t (a ∷ b ∷ c ∷ d ∷ e ∷ f ∷ g ∷ h ∷ []) v n q = absurd (omega (arith, n))
read-written t (a ∷ b ∷ c ∷ d ∷ e ∷ f ∷ g ∷ h ∷ i ∷ []) v n q = absurd (omega (arith, n))

first-set : (l : List Float) (v : Float) → 1 ≤ length l → at (set l 0 v) 0 ≡ v
first-set [] v n = absurd (not-suc-le-zero n)
first-set (a ∷ l) v n = refl

-- ---- the buffers keep their lengths

written-length : (t : SolveReport) (l : List ℕ) → length (report.written t l) ≡ length l
unfolding report.written
written-length t l = simp (length-set)

counts-length : (a : Result BoxOutcome Refusal) (t : SolveReport) (l : List ℕ) → length (tallies.counts_kept a t l) ≡ length l
counts-length (Ok o) t l = written-length t l
counts-length (Err k) t l = refl

residual-length : (a : Result BoxOutcome Refusal) (t : SolveReport) (l : List Float) → length (tallies.residual_kept a t l) ≡ length l
residual-length (Ok o) t l = length-set l 0 t.residual
residual-length (Err k) t l = refl

-- ---- what a tallied solve leaves is what the next one reads

module _ (t : Buffers) (long : Long t) (c : Call) where
  -- the buffers that an answer a and a tally s leave
  abbrev next : Result BoxOutcome Refusal → SolveReport → Buffers
  next a s = record { counts = tallies.counts_kept a s t.counts; residual = tallies.residual_kept a s t.residual }

  next-long : (a : Result BoxOutcome Refusal) (s : SolveReport) → Long (next a s)
  next-long a s =
      record {
        ten = rw (counts-length a s t.counts) long.ten;
        one = rw (residual-length a s t.residual) long.one;
      }

  joined : (s : SolveReport) → report.read (report.written s t.counts) (at (set t.residual 0 s.residual) 0) ≡ s
  joined s = read-written s t.counts (at (set t.residual 0 s.residual) 0) long.ten (first-set t.residual s.residual long.one)

  replies : (x : Outcome) (nu : List Float) → held (next (answer_of x) (joined_to (held t) x nu)) ≡ joined_to (held t) x nu
  replies (refused k) nu = refl
  replies (solved r) nu = joined (joined_to (held t) (solved r) nu)
  replies (infeasible f l r) nu = joined (joined_to (held t) (infeasible f l r) nu)

  pub reads : held (next (answer_of (tallied (held t) c).answer.outcome) (tallied (held t) c).tally) ≡ (tallied (held t) c).tally
  unfolding tallied with
  reads = replies (tallied (held t) c).answer.outcome (tallied (held t) c).answer.nu

-- ---- one call

-- the tally's buffers being long, the lengths of the answer's decide
taken_is : (t : Buffers) (c : Lent) → Long t → tallies.taken t.counts t.residual c.counts c.residual ≡ taken c
unfolding tallies.taken
taken_is t c long = rw (le-leb 10 (length t.counts) long.ten, le-leb 1 (length t.residual) long.one)

abbrev Called : Bool → Buffers → Buffers → Lent → Answer → Type 0
Called b t s c a =
    tallies.Answered (tallies.reply b (held t) c.call) a.number
    t.counts s.counts t.residual s.residual a.nu a.states a.listed c.counts a.counts c.residual a.residual c.workspace a.workspace

-- a call that is refused at once leaves the tally as it was
at_once : (t s : Buffers) (c : Lent) (a : Answer) → Called false t s c a → (s ≡ t) × AtOnce c a
unfolding tallies.reply
at_once t s c a h =
    let x = h.answer_is in
    let n = x.number_is in
    let counts : s.counts ≡ t.counts = h.tally_is in
    let residual : s.residual ≡ t.residual = h.kept_is in (
      ap (λ (l : List ℕ). record { counts = l; residual = s.residual }) counts ∙ ap (λ (l : List Float). record { counts = t.counts; residual = l }) residual,
      record { number = n; nu = x.nu_is; states = x.states_are; listed = x.rows_are; counts = x.counts_are; residual = x.residual_is; workspace = x.workspace_left },
    )

module _ (t s : Buffers) (c : Lent) (a : Answer) (long : Long t) (h : Called true t s c a) where
  abbrev x : Tallied
  x = tallied (held t) c.call

  abbrev told : Told
  told = told_of x.answer

  abbrev workspace : Workspace
  workspace = record { before = c.workspace; after = a.workspace }

  left : s ≡ next t long c.call (answer_of x.answer.outcome) x.tally
  unfolding tallies.reply
  left =
      ap (λ (l : List ℕ). record { counts = l; residual = s.residual }) h.tally_is
      ∙ ap (λ (l : List Float). record { counts = tallies.counts_kept (answer_of x.answer.outcome) x.tally t.counts; residual = l }) h.kept_is

  tells : Tells c a told
  unfolding tallies.reply
  tells =
      let y = h.answer_is in
      record { number = y.number_is; nu = y.nu_is; states = y.states_are; listed = y.rows_are; counts = y.counts_are; residual = y.residual_is }

  entered : Entered x (held s) told.answer told.nu told.states told.listed c.workspace a.workspace
  unfolding tallies.reply
  entered =
      record {
        tally = ap held left ∙ reads t long c.call;
        left = record { answer = refl; multipliers = refl; states = refl; listed = refl; workspace = h.answer_is.workspace_left };
      }

-- ---- a list of calls

next-is-long : (b : Bool) (t s : Buffers) (c : Lent) (a : Answer) → Long t → Called b t s c a → Long s
next-is-long true t s c a long h = subst Long (sym (left t s c a long h)) (next-long t long c.call _ _)
next-is-long false t s c a long h = subst Long (sym (at_once t s c a h).0) long

one_more : (b : Bool) (t s u : Buffers) (c : Lent) (a : Answer) (l : List Lent) (r : List Answer) → Long t → Called b t s c a → ListOfSolves s u l r
    → (d : List Told) × (ws : List Workspace) × Made (held t) (unless b c.call (solves l)) d ws (held u) × OneTells b c a (EachTells l r) d
one_more true t s u c a l r long h g = (
  told t s c a long h ∷ g.told,
  workspace t s c a long h ∷ g.workspaces,
  (held s, entered t s c a long h, g.made),
  (tells t s c a long h, g.tells),
)
one_more false t s u c a l r long h g =
    let x = at_once t s c a h in
    (g.told, g.workspaces, subst (λ (b : Buffers). Made (held b) (solves l) g.told g.workspaces (held u)) x.0 g.made, (x.1, g.tells))

list_of-solves : (l : List Lent) (t u : Buffers) (r : List Answer) → Long t → MadeFromC t l r u → ListOfSolves t u l r
list_of-solves [] t u [] long h = record { told = []; workspaces = []; made = ap held h; tells = tt }
list_of-solves [] t u (a ∷ r) long h = absurd h
list_of-solves (c ∷ l) t u [] long h = absurd h
list_of-solves (c ∷ l) t u (a ∷ r) long h =
    let called : Called (taken c) t h.0 c a = rw (taken_is t c long) at h.1 in
    let x = one_more (taken c) t h.0 u c a l r long called (list_of-solves l h.0 u r (next-is-long (taken c) t h.0 c a long called) h.2) in
    record { told = x.0; workspaces = x.1; made = x.2; tells = x.3 }

pub from-c : FromC
from-c t u l r long h = list_of-solves l t u r long h

pub demand3-from-c : DemandFromC
demand3-from-c l k d b fair r s t t' u v long long' e e' one other =
    let x = list_of-solves l t u r long one in
    let y = list_of-solves k t' v s long' other in
    let h =
    demand3_of_code (solves l) (solves k) d b fair x.told y.told x.workspaces y.workspaces (held u) (held v)
    (subst (λ (n : SolveReport). Made n (solves l) x.told x.workspaces (held u)) e x.made)
    (subst (λ (n : SolveReport). Made n (solves k) y.told y.workspaces (held v)) e' y.made) in
    record {
      same = h.same;
      demanded = h.demanded;
      tally_one = h.tally_one;
      told_one = subst (EachTells l r) h.told_one x.tells;
      tally_other = h.tally_other;
      told_other = subst (EachTells k s) h.told_other y.tells;
    }
