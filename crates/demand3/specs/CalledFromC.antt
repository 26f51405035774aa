-- Demand 3 of the C interface: lists of calls of `piskorlu_tallied`, of which nothing is known but what its contract says. Definitions only.
-- A tally is ten counts and a residual there, which a call reads and leaves joined. Where a flag is yes, the counts that a rig begins with may have any number but 0.
use Rattle.std.specs.Prelude.{ℕ, ◌≤◌, ◌≡◌, Bool, true, false, length, Float}
use mathlib.Core.List.{List, [], ◌∷◌, map, Permᴰ}
use Rattle.floats.specs.Ops.{at}
use Rattle.report.specs.Joins.{NOTHING}
use Rattle.report.specs.declared.SolveReport.{SolveReport}
use Rattle.std.specs.Prelude.{None}
use Rattle.tally.specs.Tally.{Call, refusal, all}
use Rattle.capi.specs.Reports as report
use Rattle.capi.specs.Solves as plain
use Rattle.capi.specs.Tallies as tallies
use Rattle.demand3.specs.Claims.{BoundsInOrder}
use Rattle.demand3.specs.Demand.{Every, Demanded}
use Rattle.demand3.specs.Called.{Told, told_of, Workspace, Made}

-- the buffers of a tally, and the report that they hold
pub record Buffers : Type 0 where
  pub counts : List ℕ
  pub residual : List Float

abbrev pub held : Buffers → SolveReport
held b = report.read b.counts (at b.residual 0)

-- ten counts and a residual, or more
pub record Long (b : Buffers) : Type 0 where
  pub ten : 10 ≤ length b.counts
  pub one : 1 ≤ length b.residual

-- what a call is lent beside the tally: the solve and its own buffers, those of its answer, and the workspace
pub record Lent : Type 0 where
  pub call : Call
  pub counts : List ℕ
  pub residual : List Float
  pub workspace : List Float

-- what it answers, and what it leaves in each
pub record Answer : Type 0 where
  pub number : ℕ
  pub nu : List Float
  pub states : List ℕ
  pub listed : List ℕ
  pub counts : List ℕ
  pub residual : List Float
  pub workspace : List Float

-- Calls one after another on one tally, from what its buffers hold in t to what they hold in u: each finds what the one before left, and nothing else writes them. Of each
-- call what its contract says.
abbrev pub MadeFromC : Buffers → List Lent → List Answer → Buffers → Type 0
MadeFromC t [] [] u = u ≡ t
MadeFromC t [] (a ∷ r) u = ⊥
MadeFromC t (c ∷ l) [] u = ⊥
MadeFromC t (c ∷ l) (a ∷ r) u =
    (s : Buffers) ×
    tallies.Answered (tallies.reply (tallies.taken t.counts t.residual c.counts c.residual) (held t) c.call) a.number
    t.counts s.counts t.residual s.residual a.nu a.states a.listed c.counts a.counts c.residual a.residual c.workspace a.workspace ×
    MadeFromC s l r u

-- ---- the list of tallied solves that such calls are

-- whether there is room for the answer; where there is not, the call gets 10 at once and is no solve
abbrev pub taken : Lent → Bool
taken c = plain.taken c.counts c.residual

abbrev pub unless : Bool → Call → List Call → List Call
unless true c l = c ∷ l
unless false c l = l

abbrev pub solves : List Lent → List Call
solves [] = []
solves (c ∷ l) = unless (taken c) c.call (solves l)

-- the call answers what the tallied solve told
pub record Tells (c : Lent) (a : Answer) (d : Told) : Type 0 where
  pub number : a.number ≡ plain.number d.answer
  pub nu : a.nu ≡ d.nu
  pub states : a.states ≡ d.states
  pub listed : a.listed ≡ d.listed
  pub counts : a.counts ≡ plain.counts_left d.answer c.counts
  pub residual : a.residual ≡ plain.residual_left d.answer c.residual

-- the call is refused at once and changes nothing
pub record AtOnce (c : Lent) (a : Answer) : Type 0 where
  pub number : a.number ≡ 10
  pub nu : a.nu ≡ c.call.nu
  pub states : a.states ≡ c.call.states
  pub listed : a.listed ≡ c.call.listed
  pub counts : a.counts ≡ c.counts
  pub residual : a.residual ≡ c.residual
  pub workspace : a.workspace ≡ c.workspace

abbrev pub OneTells : Bool → Lent → Answer → (List Told → Type 0) → List Told → Type 0
OneTells true c a rest [] = ⊥
OneTells true c a rest (d ∷ r) = Tells c a d × rest r
OneTells false c a rest r = AtOnce c a × rest r

-- each call of a list, with its answer and what the solves told
abbrev pub EachTells : List Lent → List Answer → List Told → Type 0
EachTells [] [] [] = Unit {0}
EachTells [] [] (d ∷ s) = ⊥
EachTells [] (a ∷ r) s = ⊥
EachTells (c ∷ l) [] s = ⊥
EachTells (c ∷ l) (a ∷ r) s = OneTells (taken c) c a (EachTells l r) s

-- what the calls made, read as reports, is a list of tallied solves, each on the tally that the one before left
pub record ListOfSolves (t u : Buffers) (l : List Lent) (r : List Answer) : Type 0 where
  pub told : List Told
  pub workspaces : List Workspace
  pub made : Made (held t) (solves l) told workspaces (held u)
  pub tells : EachTells l r told

abbrev pub FromC : Type 0
FromC = (t u : Buffers) (l : List Lent) (r : List Answer) → Long t → MadeFromC t l r u → ListOfSolves t u l r

-- ---- demand 3 of two lists of calls, each from the report of no solve, whose solves are one list in two orders

pub record KeptFromC (l k : List Lent) (r s : List Answer) (u v : Buffers) : Type 0 where
  pub same : held u ≡ held v
  pub demanded : Demanded (solves l) (solves k)
  -- the tallies and answers that `Demanded` speaks of are those of the calls
  pub tally_one : held u ≡ (all NOTHING (solves l)).tally
  pub told_one : EachTells l r (map told_of (all NOTHING (solves l)).answers)
  pub tally_other : held v ≡ (all NOTHING (solves k)).tally
  pub told_other : EachTells k s (map told_of (all NOTHING (solves k)).answers)

abbrev pub DemandFromC : Type 0
DemandFromC = (l k : List Lent) → Permᴰ (solves l) (solves k) → length (solves l) ≤ 20000000 → Every (λ c. refusal c ≡ None → BoundsInOrder c.problem) (solves l)
    → (r s : List Answer) (t t' u v : Buffers) → Long t → Long t' → held t ≡ NOTHING → held t' ≡ NOTHING → MadeFromC t l r u → MadeFromC t' k s v
    → KeptFromC l k r s u v
