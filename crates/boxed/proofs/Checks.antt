-- The checkpoints, and the exact pass tried at one, from what the calls promise.
use Prim.Native.Nat.{ℕ, ◌+◌, ◌-◌, ◌≤◌}
use mathlib.Core.Path.{◌≡◌, refl, sym, ap, ◌∙◌}
use mathlib.Core.Bool.{Bool, true, false, ◌||◌}
use mathlib.Core.List.{List, [], ◌∷◌, ◌++◌}
use native.Mathlib.Omega.{arith}
use native.Mathlib.Numerals.{add-one}
use lib.Dec.{eqb}
use lib.ListN.{length, take, drop, length-take, length-drop}
use lib.Seq.{drop_at, take_at, length-take-le}
use lib.Ieee.{Float}
use borrow.Author.Tests.{le-leb, eq-eqb, ne_eqb, eqb-true, eqb-false}
use borrow.Rule.Slice.PartMut.{put_mid, post_of, same_len_mid, drop_put}
use Rattle.std.specs.Prelude.{Option, Some, None}
use Rattle.std.specs.List.{list_any}
use Rattle.box_rows.specs.Rows as box
use Rattle.box_rows.specs.Rows.{Sized}
use Rattle.box_rows.proofs.Matrix.{later}
use Rattle.exact_pass.specs.Pass.{Trial, Pass, moved, found, failed, infeasible, exact_pass}
use Rattle.exact_pass.specs.Promise.{WORKSPACE, fits, reply, Passed, Left}
use Rattle.exact_pass.specs.declared.Exact.{Exact}
use Rattle.exact_pass.specs.declared.Exact.TheVariants as exact
use Rattle.boxed.specs.declared.Cause.TheVariants as cause
use Rattle.boxed.specs.declared.Counts.{Counts}
use Rattle.boxed.specs.declared.Ended.{Ended}
use Rattle.boxed.specs.declared.Ended.TheVariants as ended
use Rattle.boxed.specs.Solve as solve
use Rattle.boxed.specs.Private.{BEFORE, Lent, Ran, Worked, Counted}
use Rattle.boxed.proofs.Testing.{all_fit}

-- ---- the checkpoints, and the last sweep

eqb_swap : (a b : ℕ) → eqb a b ≡ eqb b a
eqb_swap a b = go (eqb b a) refl
  where
    go : (c : Bool) → eqb b a ≡ c → eqb a b ≡ c
    go true h = eq-eqb a b (sym (eqb-true b a h))
    go false h = ne_eqb a b (λ g. eqb-false b a h (sym g))

pub member_any : (k c : ℕ) (l : List ℕ) → (list_any (λ y. eqb y k) l || eqb k c) ≡ solve.member k (l ++ (c ∷ []))
unfolding solve.member
member_any k c [] = go (eqb k c)
  where
    go : (b : Bool) → b ≡ b || false
    go true = refl
    go false = refl
member_any k c (a ∷ l) = rw (eqb_swap a k, ← member_any k c l) (go (eqb k a) (list_any (λ y. eqb y k) l))
  where
    go : (b d : Bool) → (b || d || eqb k c) ≡ (b || (d || eqb k c))
    go true d = refl
    go false d = refl

-- ---- a workspace that keeps multipliers

-- a workspace w with multipliers t kept at its n places from a on
abbrev pub keeping : ℕ → ℕ → List Float → List Float → List Float
keeping a n w t = put_mid a (a + n - a) w t

put-length : (a n : ℕ) (w t : List Float) → a + n ≤ length w → length t ≡ n → length (keeping a n w t) ≡ length w
put-length a n w t h l = same_len_mid a (a + n - a) w t (omega (arith, length-take (a + n - a) (drop a w), length-drop a w))

-- w' has t at these places, and past the most that multipliers take it is w
pub record Keeps (a n : ℕ) (w t w' : List Float) : Type 0 where
  pub part : take (a + n - a) (drop a w') ≡ t
  pub beyond : drop (a + box.MAX_ROWS) w' ≡ drop (a + box.MAX_ROWS) w

-- w' is what a pass over the places before leaves
pub keeps : (a n : ℕ) (w t w' : List Float) → n ≤ box.MAX_ROWS → a + box.MAX_ROWS ≤ length w → length t ≡ n → drop a w' ≡ drop a (keeping a n w t) → Keeps a n w t w'
keeps a n w t w' few enough long kept =
    let k : a + n - a ≡ n = omega arith in
    record {
      part = rw (kept, drop_at (take a w) (t ++ post_of a (a + n - a) w) a (length-take-le a w (omega arith)), k, take_at t (post_of a n w) n long);
      beyond = later a (a + box.MAX_ROWS) w' (keeping a n w t) (omega arith) kept
          ∙ later (a + n) (a + box.MAX_ROWS) (keeping a n w t) w (omega arith) (drop_put a (a + n) w t (omega arith) (omega arith) (omega (arith, long)));
    }

-- ---- how a pass x ends the solve: it began at nu and st, tells e, and leaves v, st' and rows'

module _ (x : Pass) (nu : List Float) (st rows : List ℕ) (e : Exact) (v : List Float) (st' rows' : List ℕ) (h : Passed x rows e v st' rows') (c : Counts) where
  abbrev PassRan : Option Ended → List Float → Type 0
  PassRan g nu' = Ran (solve.passed (solve.iterate nu st c) x) rows g nu' st' c rows'

found-ran : (x : Pass) (nu : List Float) (st rows : List ℕ) (e : Exact) (v : List Float) (st' rows' : List ℕ) (h : Passed x rows e v st' rows') (c : Counts)
    → e ≡ exact.Found → PassRan x nu st rows e v st' rows' h c (Some ended.Exact) v
unfolding solve.passed
found-ran (moved t) nu st rows e v st' rows' h c i = absurd (cc)
found-ran (found t) nu st rows e v st' rows' h c i = record { answer = refl; reached = ap (λ (q : Trial). solve.iterate q.nu q.states c) h.tried; listed = h.listed }
found-ran (failed t) nu st rows e v st' rows' h c i = absurd (cc)
found-ran (infeasible l t) nu st rows e v st' rows' h c i = absurd (cc)

failed-ran : (x : Pass) (nu : List Float) (st rows : List ℕ) (e : Exact) (v : List Float) (st' rows' : List ℕ) (h : Passed x rows e v st' rows') (c : Counts)
    → e ≡ exact.Failed → PassRan x nu st rows e v st' rows' h c None nu
unfolding solve.passed
failed-ran (moved t) nu st rows e v st' rows' h c i = record { answer = refl; reached = ap (λ (q : Trial). solve.iterate nu q.states c) h.tried; listed = h.listed }
failed-ran (found t) nu st rows e v st' rows' h c i = absurd (cc)
failed-ran (failed t) nu st rows e v st' rows' h c i = record { answer = refl; reached = ap (λ (q : Trial). solve.iterate nu q.states c) h.tried; listed = h.listed }
failed-ran (infeasible l t) nu st rows e v st' rows' h c i = absurd (cc)

infeasible-ran : (x : Pass) (nu : List Float) (st rows : List ℕ) (e : Exact) (v : List Float) (st' rows' : List ℕ) (h : Passed x rows e v st' rows') (c : Counts)
    → (k : ℕ) → e ≡ exact.Infeasible k → PassRan x nu st rows e v st' rows' h c (Some (ended.Infeasible cause.Pass k)) nu
unfolding solve.passed
infeasible-ran (moved t) nu st rows e v st' rows' h c k i = absurd (cc)
infeasible-ran (found t) nu st rows e v st' rows' h c k i = absurd (cc)
infeasible-ran (failed t) nu st rows e v st' rows' h c k i = absurd (cc)
infeasible-ran (infeasible l t) nu st rows e v st' rows' h c k i =
    record {
      answer = let q : k ≡ length l = cc in ap (λ j. Some (ended.Infeasible cause.Pass j)) q;
      reached = ap (λ (q : Trial). solve.iterate nu q.states c) h.tried;
      listed = h.listed;
    }

-- ---- a pass whose lists fit, in a workspace that keeps t, a copy of the multipliers

module _ (p : box.Problem) (sized : Sized (box.size p) p.w p.lo p.hi p.scale) (st : List ℕ) (nu : List Float) (rows : List ℕ) (work : List Float) (z : Lent p st nu rows work)
    (t : List Float) (copied : t ≡ nu) (e : Exact) (st' : List ℕ) (v : List Float) (rows' : List ℕ) (work' : List Float)
    (h : Left p st nu rows (keeping WORKSPACE (length nu) work t) e st' v rows' work') where
  fit : fits p (length st) (length nu) (length rows) ≡ true
  fit = all_fit p sized st nu rows z.lists.states z.lists.multipliers z.listed

  few : length nu ≤ box.MAX_ROWS
  few = omega (arith, sized.0, z.lists.multipliers)

  long : length t ≡ length nu
  long = ap length copied

  enough : WORKSPACE ≤ length (keeping WORKSPACE (length nu) work t)
  enough = omega (arith, few, z.workspace, put-length WORKSPACE (length nu) work t (omega (arith, few, z.workspace)) long)

  ran : Passed (exact_pass p st nu) rows e v st' rows'
  unfolding reply
  ran = rw (le-leb _ _ enough, fit) at h.passed

  kept : Keeps WORKSPACE (length nu) work t work'
  kept = keeps WORKSPACE (length nu) work t work' few (omega (arith, z.workspace)) long (rw (le-leb _ _ enough, fit) at h.workspace)

  abbrev AttemptWorked : Option Ended → List Float → Counts → Type 0
  AttemptWorked g nu' c = Worked BEFORE (solve.passed (solve.iterate nu st c) (exact_pass p st nu)) rows work g nu' st' c rows' work'

  pub attempt-found : e ≡ exact.Found → (c : Counts) → AttemptWorked (Some ended.Exact) v c
  attempt-found i c = record { ran = found-ran (exact_pass p st nu) nu st rows e v st' rows' ran c i; workspace = kept.beyond }

  -- the copy is copied back
  module _ (nu' : List Float) (back : nu' ≡ take (WORKSPACE + length nu - WORKSPACE) (drop WORKSPACE work')) (c : Counts) where
    restored : nu' ≡ nu
    restored = back ∙ kept.part ∙ copied

    pub attempt-failed : e ≡ exact.Failed → AttemptWorked None nu' c
    attempt-failed i = rw restored (record { ran = failed-ran (exact_pass p st nu) nu st rows e v st' rows' ran c i; workspace = kept.beyond })

    pub attempt-infeasible : (k : ℕ) → e ≡ exact.Infeasible k → AttemptWorked (Some (ended.Infeasible cause.Pass k)) nu' c
    attempt-infeasible k i = rw restored (record { ran = infeasible-ran (exact_pass p st nu) nu st rows e v st' rows' ran c k i; workspace = kept.beyond })

-- ---- a check; b tells whether a pass is due

module _ (cap : ℕ) (p : box.Problem) (nu : List Float) (st : List ℕ) (n : Counts) (rows : List ℕ) (work : List Float) (b : Bool) (due : b ≡ solve.checkpoint cap n.sweeps) where
  abbrev Checked : Option Ended → List Float → List ℕ → Counts → List ℕ → List Float → Type 0
  Checked g nu' st' c rows' work' =
      Counted BEFORE (solve.checked cap p (solve.going (solve.iterate nu st n))) rows work n.sweeps (n.passes + 1) g nu' st' c rows' work'

  pub check-tried : b ≡ true → (g : Option Ended) (nu' : List Float) (st' rows' : List ℕ) (work' : List Float)
      → ((c : Counts) → Worked BEFORE (solve.passed (solve.iterate nu st c) (exact_pass p st nu)) rows work g nu' st' c rows' work')
      → Checked g nu' st' (solve.counts n.sweeps (n.passes + 1) n.stopped) rows' work'
  unfolding solve.checked
  check-tried t g nu' st' rows' work' h =
      record { worked = rw (sym due ∙ t, ← add-one n.passes) (h (solve.counts n.sweeps (n.passes + 1) n.stopped)); sweeps = refl; passes = omega arith }

  pub check-not : b ≡ false → Checked None nu st n rows work
  unfolding solve.checked
  check-not t =
      record {
        worked = rw (sym due ∙ t) (record { ran = record { answer = refl; reached = refl; listed = refl }; workspace = refl });
        sweeps = refl;
        passes = omega arith;
      }
