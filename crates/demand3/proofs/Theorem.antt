-- Demand 3.
use Prim.Native.Nat.{ℕ, suc, ◌+◌}
use mathlib.Core.Path.{◌≡◌, refl, sym, ◌∙◌, ap}
use mathlib.Core.List.{List, [], ◌∷◌, map, Permᴰ}
use native.Mathlib.Omega.{arith}
use native.Mathlib.Nat.{zero-add}
use lib.ListN.{length}
use lib.Ieee.{binary64}
use lib.Ieee.Bits.{of_bits-fits}
use Rattle.report.specs.Joins.{NOTHING, both}
use Rattle.report.specs.declared.SolveReport.{SolveReport}
use Rattle.boxed.specs.Solve.{Result}
use Rattle.std.specs.Prelude.{None}
use Rattle.tally.specs.Tally.{Call, refusal, alone, turned, taken, Tallies}
use Rattle.demand3.specs.Claims.{BoundsInOrder, Claims}
use Rattle.demand3.specs.Demand.{Every, EachAnswer, beside, Accepted, accepted, sum_of, taken_as, turned_into, Sums, converged_without_nan, exact_without_nan, Flags, Demand}
use Rattle.demand3.proofs.Orders.{total, total-sum, total-most, total-flag, within-nothing, all-is, total-perm}
use Rattle.demand3.proofs.Flags.{all_same, converged-is, exact-is}
use Rattle.demand3.proofs.Solves.{modest, claims}

perm-length : {l k : List Call} → Permᴰ l k → length l ≡ length k
perm-length Permᴰ.nil = refl
perm-length (Permᴰ.cons e d) = ap suc (perm-length d)
perm-length (Permᴰ.swap e g) = refl
perm-length (Permᴰ.trans d g) = perm-length d ∙ perm-length g

-- ---- answers

abbrev answered : Call → Call × Result
answered c = (c, alone c)

beside-alone : (l : List Call) → beside l (map alone l) ≡ map answered l
beside-alone [] = refl
beside-alone (c ∷ l) = ap (λ (r : List (Call × Result)). (c, alone c) ∷ r) (beside-alone l)

perm-answered : {l k : List Call} → Permᴰ l k → Permᴰ (map answered l) (map answered k)
perm-answered Permᴰ.nil = Permᴰ.nil
perm-answered (Permᴰ.cons e d) = Permᴰ.cons (ap answered e) (perm-answered d)
perm-answered (Permᴰ.swap e g) = Permᴰ.swap (ap answered e) (ap answered g)
perm-answered (Permᴰ.trans d g) = Permᴰ.trans (perm-answered d) (perm-answered g)

each-claims : (l : List Call) → Every (λ c. refusal c ≡ None → BoundsInOrder c.problem) l → EachAnswer Claims l (map alone l)
each-claims [] h = tt
each-claims (c ∷ l) h = (claims c h.0, each-claims l h.1)

-- ---- sums

from_nothing : (f : SolveReport → ℕ) → ((a b : SolveReport) → f (both a b) ≡ f a + f b) → f NOTHING ≡ 0 → (l : List Call) → f (total NOTHING l) ≡ sum_of f (turned_into (map alone l))
from_nothing f adds z l =
    total-sum f adds l NOTHING ∙ ap (λ (x : ℕ). x + sum_of f (turned_into (map alone l))) z ∙ zero-add (sum_of f (turned_into (map alone l)))

one_each : (l : List Accepted) → sum_of (λ (r : SolveReport). r.increments) (map taken_as l) ≡ length l
unfolding taken turned
one_each [] = refl
one_each (r ∷ l) = rw (one_each l) (omega arith)

none_each : (l : List Accepted) → sum_of (λ (r : SolveReport). r.most_iterations) (map taken_as l) ≡ 0
unfolding taken turned
none_each [] = refl
none_each (r ∷ l) = rw (none_each l)

sweeps-each : (l : List Accepted) → sum_of (λ (r : SolveReport). r.sweeps) (map taken_as l) ≡ sum_of (λ (a : Accepted). a.report.sweeps) l
unfolding taken turned
sweeps-each [] = refl
sweeps-each (r ∷ l) = rw (sweeps-each l)

passes-each : (l : List Accepted) → sum_of (λ (r : SolveReport). r.exact_passes) (map taken_as l) ≡ sum_of (λ (a : Accepted). a.report.exact_passes) l
unfolding taken turned
passes-each [] = refl
passes-each (r ∷ l) = rw (passes-each l)

stopped-each : (l : List Accepted) → sum_of (λ (r : SolveReport). r.stopped) (map taken_as l) ≡ sum_of (λ (a : Accepted). a.report.stopped) l
unfolding taken turned
stopped-each [] = refl
stopped-each (r ∷ l) = rw (stopped-each l)

sums_of : (l : List Call) → Sums (record { tally = total NOTHING l; answers = map alone l })
sums_of l =
    record {
      increments = from_nothing (λ r. r.increments) (λ a b. refl) refl l ∙ one_each (accepted (map alone l));
      iterations = from_nothing (λ r. r.iterations) (λ a b. refl) refl l;
      most_iterations = total-most l NOTHING refl ∙ sym (none_each (accepted (map alone l)));
      rejected = from_nothing (λ r. r.rejected) (λ a b. refl) refl l;
      anchors = from_nothing (λ r. r.anchors) (λ a b. refl) refl l;
      sweeps = from_nothing (λ r. r.sweeps) (λ a b. refl) refl l;
      exact_passes = from_nothing (λ r. r.exact_passes) (λ a b. refl) refl l;
      stopped = from_nothing (λ r. r.stopped) (λ a b. refl) refl l;
      sweeps_reported = from_nothing (λ r. r.sweeps) (λ a b. refl) refl l ∙ sweeps-each (accepted (map alone l));
      passes_reported = from_nothing (λ r. r.exact_passes) (λ a b. refl) refl l ∙ passes-each (accepted (map alone l));
      stopped_reported = from_nothing (λ r. r.stopped) (λ a b. refl) refl l ∙ stopped-each (accepted (map alone l));
    }

-- ---- flags

flags_of : (l : List Call) → Flags (record { tally = total NOTHING l; answers = map alone l })
flags_of l =
    record {
      converged = total-flag (λ r. r.converged) (λ a b. refl) l NOTHING ∙ all_same (λ a. (taken_as a).converged) converged_without_nan converged-is (accepted (map alone l));
      exact = total-flag (λ r. r.exact) (λ a b. refl) l NOTHING ∙ all_same (λ a. (taken_as a).exact) exact_without_nan exact-is (accepted (map alone l));
    }

-- ---- the theorem

pub demand3 : Demand
demand3 l k d b fair =
    let n = perm-length d in
    let e = all-is modest l 0 NOTHING (omega arith) within-nothing in
    let g = all-is modest k 0 NOTHING (omega arith) within-nothing in
    record {
      tally = ap (λ (t : Tallies). t.tally) e ∙ total-perm modest d NOTHING (of_bits-fits binary64 0) ∙ sym (ap (λ (t : Tallies). t.tally) g);
      answers = rw (e, g, beside-alone l, beside-alone k) (perm-answered d);
      alone_one = ap (λ (t : Tallies). t.answers) e;
      alone_other = ap (λ (t : Tallies). t.answers) g;
      sums = rw e (sums_of l);
      flags = rw e (flags_of l);
      claims = rw e (each-claims l fair);
    }
