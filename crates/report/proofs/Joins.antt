-- Laws of the joins. Where the residuals are values that an f64 holds, two reports come to the same in either order and
-- three in either grouping, refusals included. NOTHING is no identity of `and`: a residual that is negative or NaN
-- becomes +0.
use Prim.Native.Nat.{ℕ, max}
use mathlib.Core.Path.{◌≡◌, refl, sym, ◌∙◌}
use mathlib.Core.Bool.{Bool, true, false, cond, and_comm, and_assoc, true≢false}
use native.Mathlib.Omega.{arith}
use borrow.Author.Rules.{rules}
use native.Mathlib.Nat.{add_comm, add_assoc}
use Rattle.floats.specs.Ops.{Fits}
use Rattle.floats.proofs.Maximum.{larger-fits, larger_comm, larger_assoc}
use Rattle.std.specs.Prelude.{Ok, Err}
use Rattle.refusals.specs.declared.Refusal.TheVariants.{Join}
use Rattle.report.specs.declared.SolveReport.{SolveReport}
use Rattle.report.specs.Joins.{both, onward, sum_fits, sums_fit, all_sums_fit, Summable, AllSummable, Answer, and, continued, next}
use Rattle.report.proofs.Sums.{summable, sums-fit, all_summable, all-sums-fit}

-- the residual is a value that an f64 holds, as every f64 of the code is
abbrev pub Held : SolveReport → Type 0
Held a = Fits a.residual

-- ---- both

pub both-held : (a b : SolveReport) → Held a → Held b → Held (both a b)
both-held a b p q = larger-fits a.residual b.residual p q

pub both_comm : (a b : SolveReport) → Held a → Held b → both a b ≡ both b a
both_comm a b p q =
    let top : (x y : ℕ) → max x y ≡ max y x = λ x y. omega arith in
    λ i. record {
      increments = add_comm a.increments b.increments i;
      iterations = add_comm a.iterations b.iterations i;
      most_iterations = top a.most_iterations b.most_iterations i;
      rejected = add_comm a.rejected b.rejected i;
      anchors = add_comm a.anchors b.anchors i;
      sweeps = add_comm a.sweeps b.sweeps i;
      exact_passes = add_comm a.exact_passes b.exact_passes i;
      stopped = add_comm a.stopped b.stopped i;
      converged = and_comm a.converged b.converged i;
      exact = and_comm a.exact b.exact i;
      residual = larger_comm a.residual b.residual p q i;
    }

pub both_assoc : (a b c : SolveReport) → Held a → Held b → Held c → both (both a b) c ≡ both a (both b c)
both_assoc a b c p q r =
    let top : (x y z : ℕ) → max (max x y) z ≡ max x (max y z) = λ x y z. omega arith in
    λ i. record {
      increments = add_assoc a.increments b.increments c.increments i;
      iterations = add_assoc a.iterations b.iterations c.iterations i;
      most_iterations = top a.most_iterations b.most_iterations c.most_iterations i;
      rejected = add_assoc a.rejected b.rejected c.rejected i;
      anchors = add_assoc a.anchors b.anchors c.anchors i;
      sweeps = add_assoc a.sweeps b.sweeps c.sweeps i;
      exact_passes = add_assoc a.exact_passes b.exact_passes c.exact_passes i;
      stopped = add_assoc a.stopped b.stopped c.stopped i;
      converged = and_assoc a.converged b.converged c.converged i;
      exact = and_assoc a.exact b.exact c.exact i;
      residual = larger_assoc a.residual b.residual c.residual p q r i;
    }

-- ---- when a join answers, and what

pub and_joins : (a b : SolveReport) → AllSummable a b → and a b ≡ Ok (both a b)
unfolding and
and_joins a b s = rw (all-sums-fit a b s)

-- it refuses by 13 alone, and only where some sum is too large
pub and-refuses : (a b : SolveReport) → (AllSummable a b → ⊥) → and a b ≡ Err Join
unfolding and
and-refuses a b h = go (all_sums_fit a b) refl
  where
    go : (t : Bool) → all_sums_fit a b ≡ t → cond t (Ok (both a b)) (Err Join) ≡ Err Join
    go true e = absurd (h (all_summable a b e))
    go false e = refl

pub continued_joins : (a b : SolveReport) → Summable a b → continued a b ≡ Ok (onward a b)
unfolding continued
continued_joins a b s = rw (sums-fit a b s)

pub continued-refuses : (a b : SolveReport) → (Summable a b → ⊥) → continued a b ≡ Err Join
unfolding continued
continued-refuses a b h = go (sums_fit a b) refl
  where
    go : (t : Bool) → sums_fit a b ≡ t → cond t (Ok (onward a b)) (Err Join) ≡ Err Join
    go true e = absurd (h (summable a b e))
    go false e = refl

-- ---- and

all_sums_comm : (a b : SolveReport) → all_sums_fit a b ≡ all_sums_fit b a
unfolding all_sums_fit sums_fit sum_fits
all_sums_comm a b =
    rw (
      add_comm a.increments b.increments,
      add_comm a.iterations b.iterations,
      add_comm a.rejected b.rejected,
      add_comm a.anchors b.anchors,
      add_comm a.sweeps b.sweeps,
      add_comm a.exact_passes b.exact_passes,
      add_comm a.stopped b.stopped,
    )

pub and_is_comm : (a b : SolveReport) → Held a → Held b → and a b ≡ and b a
unfolding and
and_is_comm a b p q = rw (all_sums_comm a b, both_comm a b p q)

-- a joined to what b and others came to, if they came to a report
abbrev pub before : SolveReport → Answer → Answer
before a (Err e) = Err e
before a (Ok b) = and a b

module _ (a b c : SolveReport) where
  shift : AllSummable a b → AllSummable (both a b) c → AllSummable b c × AllSummable a (both b c)
  shift s t = (search rules, search rules)

  shift_back : AllSummable b c → AllSummable a (both b c) → AllSummable a b × AllSummable (both a b) c
  shift_back s t = (search rules, search rules)

  -- both groupings refuse by 13, or both come to the same report
  pub and_is_assoc : Held a → Held b → Held c → next (and a b) c ≡ before a (and b c)
  unfolding and
  and_is_assoc p q r = go (all_sums_fit a b) refl (all_sums_fit (both a b) c) refl (all_sums_fit b c) refl (all_sums_fit a (both b c)) refl
    where
      never : (t : Bool) → t ≡ false → t ≡ true → ⊥
      never t e f = true≢false (sym f ∙ e)

      go : (x : Bool) → all_sums_fit a b ≡ x → (y : Bool) → all_sums_fit (both a b) c ≡ y → (z : Bool) → all_sums_fit b c ≡ z
          → (w : Bool) → all_sums_fit a (both b c) ≡ w
          → next (cond x (Ok (both a b)) (Err Join)) c ≡ before a (cond z (Ok (both b c)) (Err Join))
      go true i true j true k true l = rw (j, l, both_assoc a b c p q r)
      go true i true j true k false l =
          absurd (never _ l (all-sums-fit a (both b c) (shift (all_summable a b i) (all_summable (both a b) c j)).1))
      go true i true j false k w l = absurd (never _ k (all-sums-fit b c (shift (all_summable a b i) (all_summable (both a b) c j)).0))
      go true i false j true k true l =
          absurd
          (never _ j (all-sums-fit (both a b) c (shift_back (all_summable b c k) (all_summable a (both b c) l)).1))
      go true i false j true k false l = rw (j, l)
      go true i false j false k w l = rw j
      go false i y j true k true l =
          absurd (never _ i (all-sums-fit a b (shift_back (all_summable b c k) (all_summable a (both b c) l)).0))
      go false i y j true k false l = rw l
      go false i y j false k w l = refl
