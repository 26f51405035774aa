-- Every solve has the claims of demand 3, and every report is one that a tally can take.
use Prim.Native.Nat.{ℕ, zero, suc, ◌-◌, ◌≤◌, ◌<◌, zero-le}
use mathlib.Core.Path.{◌≡◌, refl, sym, ◌∙◌, ap, subst}
use mathlib.Core.Bool.{Bool, true, false, not, cond, ◌&&◌, true≢false, and-false}
use mathlib.Core.List.{List, ◌++◌}
use native.Mathlib.Omega.{arith}
use native.Mathlib.Nat.{not-suc-le-zero, le_of_suc-le-suc, le_of_eq, le_refl}
use lib.Arith.{lt_of_le-ne}
use lib.Dec.{ltb, eqb}
use lib.ListN.{length, get_or, take, drop, get_or-append}
use lib.Seq.{get_or-take, take_at, length-take-le}
use lib.Ieee.{Float, binary64, lt, le}
use lib.Ieee.Bits.{of_bits-fits}
use lib.Ieee.Fits.{div-fits}
use borrow.Author.Tests.{eqb-true, eqb-false}
use Rattle.loops.specs.Loops.{fronted}
use Rattle.loops.proofs.Turns.{turns_keep}
use Rattle.loops.proofs.Gather.{each_at, Gathered}
use Rattle.loops.proofs.Paste.{front_read}
use Rattle.floats.specs.Ops.{at, Fits, 0ᶠ, 1e-9, 1e6, ◌⊖◌, ◌⊗◌, ◌⊘◌}
use Rattle.floats.specs.Helpers.{larger, abs, clamp, nan_test}
use Rattle.floats.proofs.Maximum.{larger-fits}
use Rattle.floats.proofs.Order.{le_left, le_right}
use Rattle.floats.proofs.Box.{in_box}
use Rattle.floats.proofs.Bound.{nil, above, nil-lo, nil-hi, nil-abs, nil-div, nil-not-above, acting-above, not_lt_negative, not_lt_positive}
use Rattle.box_rows.specs.Rows.{Problem, size, state, acts, is_idle, pushed, row_sum, update, natural_residual, residual_at}
use Rattle.box_rows.specs.Private.{row_of}
use Rattle.boxed.specs.Sweep as sweep
use Rattle.boxed.specs.Private.{is_grown, residual_row}
use Rattle.boxed.specs.Private.{result_with, nothing}
use Rattle.boxed.specs.Solve.{Ending, exact, converged, conflict, Iterate, Run, going, ended, Watch, run, Outcome, refused, solved, infeasible, Result, report_of, unfound, result, solve, reply, SWEEP_CAP}
use Rattle.boxed.proofs.Accepting.{Accepted, accepted}
use Rattle.boxed.specs.declared.BoxReport.{BoxReport}
use Rattle.boxed.specs.declared.Cause.{Cause}
use Rattle.boxed.specs.declared.Cause.TheVariants as cause
use Rattle.triangle.proofs.Mirrored.{not-refused}
use Rattle.std.specs.Prelude.{Option, Some, None}
use Rattle.refusals.specs.declared.Refusal.{Refusal as Why}
use Rattle.tally.specs.Tally.{Call, refusal, alone}
use Rattle.demand3.specs.Claims.{sweeps_alone, BoundsInOrder, NaNOrInBox, acting, NoneActs, not_above, below, start_of, started, first_iterate, after_sweeps, goes_on, passes_made, passes_in, clamped_to, first_multipliers, by_sweeps, stopped_by_last, stopped_in_last, row_states, own_residual, OnBound, Sound, Reason, Listed, Claims}
use Rattle.demand3.proofs.Words.{lt-abs, acts-above, diagonal, own_is, rising-at, gathered-few}
use Rattle.demand3.proofs.Boxes.{Boxed, Inside, idle_row, StartedTo, start-started}
use Rattle.demand3.proofs.Rays.{ActsUnlimited}
use Rattle.demand3.proofs.Due.{due-zero, due-most, below-is}
use Rattle.demand3.proofs.Trials.{Stated, state-not-idle, acts-not-idle}
use Rattle.demand3.proofs.Sweeps.{idle-not-acting, start_is, all-idle, none-acts, last-few}
use Rattle.demand3.proofs.Made.{Made, made}
use Rattle.demand3.proofs.Runs.{Stands, Exact, Runs, run_runs, started_stated}

-- ---- the residual is a value that an f64 holds

residual-fits : (p : Problem) (st : List ℕ) (nu : List Float) → Fits (sweep.residual p st nu (size p))
unfolding sweep.residual residual_row residual_at natural_residual
residual-fits p st nu = turns_keep (residual_row p st nu) 0ᶠ (λ i x. Fits x) (size p) (of_bits-fits binary64 0) λ i x b h. go i x h (acts st i)
  where
    go : (i : ℕ) (x : Float) → Fits x → (a : Bool) → Fits (cond a (larger x (residual_at p nu i)) x)
    go i x h true =
        larger-fits x (residual_at p nu i) h
        (div-fits binary64 (abs (at nu i ⊖ update (at nu i) (row_sum (row_of p i) (at p.u_free i) nu) (at (row_of p i) i) (at p.lo i) (at p.hi i))) (at p.scale i))
    go i x h false = h

-- ---- a row on its bound

pushed-lo : (u : Float) → pushed 1 u ≡ lt u 0ᶠ
unfolding pushed
pushed-lo u = refl

pushed-hi : (u : Float) → pushed 2 u ≡ lt 0ᶠ u
unfolding pushed
pushed-hi u = refl

gentle : (s : ℕ) (u r : Float) → pushed s u && lt 1e-9 r ≡ false → (pushed s u ≡ false → nil r ≡ true) → lt 1e-9 r ≡ false
gentle s u r h k = go (pushed s u) refl (lt 1e-9 r) refl h
  where
    go : (a : Bool) → pushed s u ≡ a → (b : Bool) → lt 1e-9 r ≡ b → a && b ≡ false → lt 1e-9 r ≡ false
    go true e true f g = absurd (true≢false g)
    go a e false f g = f
    go false e true f g = nil-not-above r (k e)

acts-is-above : (d : Float) → is_idle d ≡ false → above d ≡ true
unfolding is_idle nan_test
acts-is-above d h = acting-above d h

not_last : (s : ℕ) → s ≤ 3 → (s ≡ 3 → ⊥) → s ≤ 2
not_last s h k = le_of_suc-le-suc (lt_of_le-ne h k)

-- ---- what is known of a report

pub record Modest (r : BoxReport) : Type 0 where
  pub few : r.sweeps ≤ 200
  pub fewer : r.exact_passes ≤ 9
  pub few_stopped : r.stopped ≤ 32
  pub held : Fits r.residual

abbrev pub Reported : (BoxReport → Type 0) → Outcome → Type 0
Reported P (refused k) = Unit {0}
Reported P (solved r) = P r
Reported P (infeasible c l r) = P r

report_modest : (p : Problem) (idle : ℕ) (c e : Bool) (s : Iterate) → s.counts.sweeps ≤ 200 → s.counts.passes ≤ 9 → s.counts.stopped ≤ 32 → Modest (report_of p idle c e s)
unfolding report_of
report_modest p idle c e s h g k = record { few = h; fewer = g; few_stopped = k; held = residual-fits p s.states s.nu }

-- the counts of a run, by what it stands on: the passes of n sweeps
stands_modest : (p : Problem) (nu₀ : List Float) (idle : ℕ) (c : Bool) (s : Iterate) (n : ℕ) → size p ≤ 32 → s.counts.sweeps ≤ 200 → Stands p nu₀ n s → Modest (report_of p idle c false s)
stands_modest p nu₀ idle c s n z h g =
    report_modest p idle c false s h (rw g.passes (due-most n)) (rw g.stopped (last-few p nu₀ z s.counts.sweeps))

result_modest : (p : Problem) (idle : ℕ) (l : List ℕ) (x : Run) (nu₀ : List Float) → size p ≤ 32 → Runs p nu₀ 200 200 x → Reported Modest (result p idle l x).outcome
unfolding result unfound
result_modest p idle l (going s) nu₀ z h = stands_modest p nu₀ idle false s 200 z (le_of_eq h.0) h.1
result_modest p idle l (ended converged s) nu₀ z h = stands_modest p nu₀ idle true s s.counts.sweeps z h.1 h.2.standing
result_modest p idle l (ended exact s) nu₀ z h =
    report_modest p idle true true s h.1 (rw h.2.passes (due-most s.counts.sweeps)) (rw h.2.stopped (last-few p nu₀ z s.counts.sweeps))
result_modest p idle l (ended (conflict cause.Growth r) s) nu₀ z h = stands_modest p nu₀ idle false s (s.counts.sweeps - 1) z h.1 h.2.standing
result_modest p idle l (ended (conflict cause.Pass r) s) nu₀ z h = stands_modest p nu₀ idle false s s.counts.sweeps z h.1 h.2.standing
result_modest p idle l (ended (conflict cause.Sweep r) s) nu₀ z h = stands_modest p nu₀ idle false s s.counts.sweeps z h.1 h.2.standing

-- ---- the claims of an accepted solve

ended-below : (k j : ℕ) → 0 < j → j ≤ 200 → k ≡ not_above (j - 1) → k ≡ below j
ended-below k zero h b e = absurd (not-suc-le-zero h)
ended-below k (suc j) h b e = let g : suc j - 1 ≡ j = omega arith in e ∙ ap not_above g ∙ sym (below-is j b)

module _ (c : Call) (zeroth : refusal c ≡ None) (fair : BoundsInOrder c.problem) (ok : Accepted c.problem c.nu c.states c.listed c.room) where
  abbrev p : Problem
  p = c.problem

  -- the answer of a call: states past those of the problem stay
  abbrev answered : Result → Result
  answered x = result_with x.outcome x.nu (x.states ++ drop (size p) c.states) x.listed

  row-states : (st : List ℕ) → length st ≡ size p → take (size p) (st ++ drop (size p) c.states) ≡ st
  row-states st h = take_at st (drop (size p) c.states) (size p) h

  in_box_lem : (nu : List Float) (i : ℕ) → Inside p nu i → NaNOrInBox p nu i
  unfolding in_box
  in_box_lem nu i h = h

  few-last : (k : ℕ) → stopped_in_last c k ≤ 32
  few-last k = last-few p (first_multipliers c) ok.sized.0 k

  -- a row that does not act is Idle
  idle-is : (i : ℕ) → i < size p → acting p i ≡ false → idle_row p i ≡ true
  idle-is i b h = idle-not-acting p i b ∙ ap not h

  acting-state : (st : List ℕ) (i : ℕ) → Stated p st → i < size p → acting p i ≡ true → state st i ≤ 2
  acting-state st i m b h =
      not_last (state st i) (m.known i b) (eqb-false (state st i) 3 (m.idle i b ∙ idle-not-acting p i b ∙ ap not h))

  -- it goes on until the last sweep that it counts, and has counted the passes that it made; it made a sweep, since a row acts
  abbrev Sweeps : Iterate → Type 0
  Sweeps s =
      ((i : ℕ) → i < s.counts.sweeps → goes_on (after_sweeps c i) ≡ true)
      × (goes_on (after_sweeps c s.counts.sweeps) && ltb s.counts.sweeps 200 ≡ false)
      × (s.counts.passes ≡ passes_in c s.counts.sweeps)
      × (0 < s.counts.sweeps)
      × (NoneActs p → ⊥)

  -- not exact: every multiplier is left by sweeps
  plain_sound : (a : Result) (idle : ℕ) (v g : Bool) (s : Iterate) → a.nu ≡ s.nu → Sweeps s → s.counts.sweeps ≤ 200 → Boxed p s.nu → s.nu ≡ by_sweeps c s.counts.sweeps
      → s.counts.passes ≡ cond g (below s.counts.sweeps) (not_above s.counts.sweeps)
      → (v ≡ true → le (sweep.residual p s.states s.nu (size p)) 1e-9 ≡ true) → s.counts.stopped ≡ stopped_in_last c s.counts.sweeps → Sound c a g (report_of p idle v false s)
  unfolding report_of
  plain_sound a idle v g s e n h b w q r k =
      record {
        made_sweeps = n.0;
        last_sweep = λ y. n.1;
        no_sweep = λ y. let o = n.3 in absurd (omega arith);
        none_acts = λ y. absurd (n.4 y);
        made_passes = n.2;
        few_sweeps = h;
        passes = q;
        stopped = k;
        few_stopped = rw k (few-last s.counts.sweeps);
        left_by_sweeps = λ z. e ∙ w;
        written = λ z. absurd (true≢false (sym z));
        idle_left = λ i d z. ap (λ (nu : List Float). at nu i) (e ∙ w);
        in_boxes = λ z i d. rw e (in_box_lem s.nu i (b.boxes fair.ordered i d));
        idle_in_boxes = λ i d z. rw e (in_box_lem s.nu i (b.boxes fair.ordered i d));
        converged = λ z y. r z;
        at_lo = λ z. absurd (true≢false (sym z));
        at_hi = λ z. absurd (true≢false (sym z));
      }

  -- exact
  module _ (nu : List Float) (long : length nu ≡ size p) (j : ℕ) (b : j < size p) (here : idle_row p j ≡ false) where
    abbrev u : Float
    u = row_sum (row_of p j) (at p.u_free j) nu

    abbrev d : Float
    d = at (row_of p j) j

    -- where it is pushed inside too hard by no more than 1e-9, or its update leaves it on its bound
    own-small : (s : ℕ) → pushed s u && lt 1e-9 (residual_at p nu j) ≡ false
        → (pushed s u ≡ false → nil (at nu j ⊖ clamp (at nu j ⊖ u ⊘ d) (at p.lo j) (at p.hi j)) ≡ true) → lt 1e-9 (own_residual p nu j) ≡ false
    unfolding residual_at natural_residual update
    own-small s h k =
        ap (lt 1e-9) (own_is p j nu long b)
        ∙ gentle s u (residual_at p nu j) h λ q.
        let v = at nu j ⊖ clamp (at nu j ⊖ u ⊘ d) (at p.lo j) (at p.hi j) in
        nil-div binary64 (abs v) (at p.scale j) (nil-abs v (k q))

    on-lo : at nu j ≡ at p.lo j → pushed 1 u && lt 1e-9 (residual_at p nu j) ≡ false → OnBound p nu j (at p.lo j)
    on-lo e h =
        record {
          equals = rw e (le_left (at p.lo j) (at p.hi j) (fair.ordered j b));
          own = own-small 1 h λ q.
              subst (λ (v : Float). nil (v ⊖ clamp (v ⊖ u ⊘ d) (at p.lo j) (at p.hi j)) ≡ true) (sym e)
              (nil-lo (at p.lo j) (at p.hi j) u d (fair.lows j b) (fair.highs j b) (fair.ordered j b) (acts-is-above d here) (not_lt_negative u (sym (pushed-lo u) ∙ q)));
        }

    on-hi : at nu j ≡ at p.hi j → pushed 2 u && lt 1e-9 (residual_at p nu j) ≡ false → OnBound p nu j (at p.hi j)
    on-hi e h =
        record {
          equals = rw e (le_right (at p.lo j) (at p.hi j) (fair.ordered j b));
          own = own-small 2 h λ q.
              subst (λ (v : Float). nil (v ⊖ clamp (v ⊖ u ⊘ d) (at p.lo j) (at p.hi j)) ≡ true) (sym e)
              (nil-hi (at p.lo j) (at p.hi j) u d (fair.lows j b) (fair.highs j b) (fair.ordered j b) (acts-is-above d here) (not_lt_positive u (sym (pushed-hi u) ∙ q)));
        }

  exact_sound : (a : Result) (idle : ℕ) (s : Iterate) → a.nu ≡ s.nu → row_states c a ≡ s.states → Sweeps s → s.counts.sweeps ≤ 200
      → Exact p (first_multipliers c) s → Sound c a false (report_of p idle true true s)
  unfolding report_of
  exact_sound a idle s e i n h x =
      let t = x.tries in
      let rest : (j : ℕ) → j < size p → acting p j ≡ false → at s.nu j ≡ at (by_sweeps c s.counts.sweeps) j
      = λ j d z. t.rest j d (eqb-true (state s.states j) 3 (t.stated.idle j d ∙ idle-is j d z)) in
      let same : (j : ℕ) → j < size p → state a.states j ≡ state s.states j
      = λ j d. sym (get_or-take (size p) a.states j 0 d) ∙ ap (λ (st : List ℕ). state st j) i in
      record {
        made_sweeps = n.0;
        last_sweep = λ y. n.1;
        no_sweep = λ y. let o = n.3 in absurd (omega arith);
        none_acts = λ y. absurd (n.4 y);
        made_passes = n.2;
        few_sweeps = h;
        passes = x.passes;
        stopped = x.stopped;
        few_stopped = rw x.stopped (few-last s.counts.sweeps);
        left_by_sweeps = λ z. absurd (true≢false z);
        written = λ z y. record {
          given = x.given;
          pass = rw (e, i) x.pass;
          states = λ j d f. rw (same j d) (acting-state s.states j t.stated d f);
          last = rw (e, i) x.last;
          low = λ j d f. rw e (t.low j d (sym (same j d) ∙ f));
          high = λ j d f. rw e (t.high j d (sym (same j d) ∙ f));
        };
        in_boxes = λ z. absurd (true≢false z);
        idle_left = λ j d z. ap (λ (nu : List Float). at nu j) e ∙ rest j d z;
        idle_in_boxes = λ j d z. rw (e, rest j d z) (in_box_lem (by_sweeps c s.counts.sweeps) j (x.boxed.boxes fair.ordered j d));
        converged = λ z y. absurd (true≢false y);
        at_lo = λ z j d y. let f : state s.states j ≡ 1 = sym (same j d) ∙ y in
            rw e
            (on-lo s.nu t.long j d (state-not-idle p s.states j 1 t.stated d f refl) (t.low j d f)
            (subst (λ (v : ℕ). pushed v (row_sum (row_of p j) (at p.u_free j) s.nu) && lt 1e-9 (residual_at p s.nu j) ≡ false) f (x.gentle j d)));
        at_hi = λ z j d y. let f : state s.states j ≡ 2 = sym (same j d) ∙ y in
            rw e
            (on-hi s.nu t.long j d (state-not-idle p s.states j 2 t.stated d f refl) (t.high j d f)
            (subst (λ (v : ℕ). pushed v (row_sum (row_of p j) (at p.u_free j) s.nu) && lt 1e-9 (residual_at p s.nu j) ≡ false) f (x.gentle j d)));
      }

  -- infeasible
  listed-rows : (a : Result) (s : Cause) (r : List ℕ) {P : ℕ → Type 0} → a.listed ≡ fronted r c.listed → 0 < length r → Gathered P (size p) r
      → ((k : ℕ) → k < length r → Reason p a.nu s (get_or r k 0)) → Listed p a s r
  listed-rows a s r e some g why =
      let few = gathered-few (size p) r g in
      let room = ok.listed in
      record {
        front = rw e (front_read r c.listed (length r) refl (omega arith));
        some = some;
        rising = rising-at 0 r g.rising;
        of_problem = each_at (λ j. j < size p) r g.below;
        reasons = why;
      }

  grew_reason : (nu : List Float) (i : ℕ) → is_grown (at nu i) (at p.scale i) ≡ true → Reason p nu cause.Growth i
  unfolding is_grown
  grew_reason nu i h = sym (lt-abs (1e6 ⊗ at p.scale i) (at nu i)) ∙ h

  unlimited_reason : (nu : List Float) (st : List ℕ) (i : ℕ) → Stated p st → i < size p → ActsUnlimited p st i → Reason p nu cause.Pass i
  unlimited_reason nu st i m b h = (rw (← diagonal p i b) (acts-above (at (row_of p i) i) (acts-not-idle p st i m b h.0)), h.1)

  unlimited-reasons : (nu : List Float) (st : List ℕ) (r : List ℕ) → Stated p st → Gathered (ActsUnlimited p st) (size p) r → (k : ℕ) → k < length r → Reason p nu cause.Pass (get_or r k 0)
  unlimited-reasons nu st r m g k b = unlimited_reason nu st (get_or r k 0) m (each_at (λ j. j < size p) r g.below k b) (each_at (ActsUnlimited p st) r g.passing k b)

  abbrev Whole : Run → Type 0
  Whole x = Runs p (first_multipliers c) 200 200 x

  abbrev MadeSo : Run → Type 0
  MadeSo x = Made p c.watch (first_iterate (started c)) 200 x

  went_on : (s : Iterate) → (NoneActs p → ⊥) → MadeSo (going s) → Sweeps s
  went_on s o h =
      let n = h.1 in (
        (λ i b. h.0 i (omega arith)),
        rw n (and-false (goes_on (after_sweeps c 200))),
        rw n h.2,
        omega arith,
        o,
      )

  ended_in : (e : Ending) (s : Iterate) → (NoneActs p → ⊥) → 0 < s.counts.sweeps → MadeSo (ended e s) → Sweeps s
  ended_in e s o z h = (h.0, ap (λ (b : Bool). b && ltb s.counts.sweeps 200) h.1, h.2, z, o)

  result-claims : (idle : ℕ) (x : Run) → (NoneActs p → ⊥) → MadeSo x → Whole x → Claims c (answered (result p idle c.listed x))
  unfolding result unfound
  result-claims idle (going s) o n h =
      let q = h.0 in
      let g = h.1 in
      (zeroth, plain_sound _ idle false false s refl (went_on s o n) (le_of_eq q) g.boxed g.alone (rw q g.passes) (λ z. absurd (true≢false (sym z))) g.stopped)
  result-claims idle (ended converged s) o n h =
      let g = h.2.standing in
      (zeroth, plain_sound _ idle true false s refl (ended_in converged s o h.0 n) h.1 g.boxed g.alone g.passes (λ z. h.2.small) g.stopped)
  result-claims idle (ended exact s) o n h = (zeroth, exact_sound _ idle s refl (row-states s.states h.2.tries.stated.long) (ended_in exact s o h.0 n) h.1 h.2)
  result-claims idle (ended (conflict cause.Growth r) s) o n h =
      let g = h.2.standing in (
        zeroth,
        plain_sound _ idle false true s refl (ended_in (conflict cause.Growth r) s o h.0 n) h.1 g.boxed g.alone
            (ended-below s.counts.passes s.counts.sweeps h.0 h.1 g.passes) (λ z. absurd (true≢false (sym z))) g.stopped,
        listed-rows _ cause.Growth r refl h.2.some h.2.these
            (λ k b. grew_reason s.nu (get_or r k 0) (each_at (λ i. is_grown (at s.nu i) (at p.scale i) ≡ true) r h.2.these.passing k b)),
      )
  result-claims idle (ended (conflict cause.Pass r) s) o n h =
      let g = h.2.standing in
      let f = h.2.rows in (
        zeroth,
        plain_sound _ idle false false s refl (ended_in (conflict cause.Pass r) s o h.0 n) h.1 g.boxed g.alone g.passes (λ z. absurd (true≢false (sym z))) g.stopped,
        listed-rows _ cause.Pass r refl f.some f.these (unlimited-reasons s.nu s.states r g.stated f.these),
      )
  result-claims idle (ended (conflict cause.Sweep r) s) o n h =
      let g = h.2.standing in
      let f = h.2.rows in (
        zeroth,
        plain_sound _ idle false false s refl (ended_in (conflict cause.Sweep r) s o h.0 n) h.1 g.boxed g.alone g.passes (λ z. absurd (true≢false (sym z))) g.stopped,
        listed-rows _ cause.Sweep r refl f.some f.these (unlimited-reasons s.nu s.states r g.stated f.these),
      )

-- ---- a solve

not-bound : (b : Bool) (s v : ℕ) → s ≡ cond b 3 0 → s ≡ v → (v ≡ 3 → ⊥) → (v ≡ 0 → ⊥) → ⊥
not-bound true s v e f g h = g (sym f ∙ e)
not-bound false s v e f g h = h (sym f ∙ e)

-- every row is Idle, or the sweeps run
solve_either : (P : Result → Type 0) (p : Problem) (m : Watch) (nu : List Float) (st l : List ℕ)
    → ((start_of p nu st).idle ≡ size p → P (result_with (solved (nothing (start_of p nu st).idle)) (start_of p nu st).nu (start_of p nu st).states l))
    → (((start_of p nu st).idle ≡ size p → ⊥) → P (result p (start_of p nu st).idle l (run SWEEP_CAP p m (first_iterate (start_of p nu st)) 200)))
    → P (solve SWEEP_CAP p m nu (take (size p) st) l)
unfolding solve
solve_either P p m nu st l x y = go (eqb (start_of p nu st).idle (size p)) refl
  where
    go : (b : Bool) → eqb (start_of p nu st).idle (size p) ≡ b
        → P (cond b (result_with (solved (nothing (start_of p nu st).idle)) (start_of p nu st).nu (start_of p nu st).states l)
        (result p (start_of p nu st).idle l (run SWEEP_CAP p m (first_iterate (start_of p nu st)) 200)))
    go true e = x (eqb-true (start_of p nu st).idle (size p) e)
    go false e = y (eqb-false (start_of p nu st).idle (size p) e)

module _ (p : Problem) (nu : List Float) (st l : List ℕ) {room : ℕ} (ok : Accepted p nu st l room) where
  is-started : StartedTo p (size p) (start_of p nu st)
  is-started = start-started p nu (take (size p) st) ok.values (length-take-le (size p) st ok.states)

  start_stands : Stands p (clamped_to p nu (size p)) 0 (first_iterate (start_of p nu st))
  unfolding sweeps_alone stopped_by_last
  start_stands =
      record {
        stated = started_stated p (start_of p nu st) is-started;
        boxed = is-started.boxed;
        passes = sym due-zero;
        alone = start_is p nu (take (size p) st) (size p) (le_refl (size p));
        stopped = refl;
      }

  whole_run : (m : Watch) → Runs p (clamped_to p nu (size p)) 200 200 (run SWEEP_CAP p m (first_iterate (start_of p nu st)) 200)
  whole_run m = run_runs p m (clamped_to p nu (size p)) (first_iterate (start_of p nu st)) refl start_stands

  solve_modest : (m : Watch) → Reported Modest (solve SWEEP_CAP p m nu (take (size p) st) l).outcome
  solve_modest m =
      solve_either (λ x. Reported Modest x.outcome) p m nu st l (λ e. record { few = zero-le; fewer = zero-le; few_stopped = zero-le; held = of_bits-fits binary64 0 })
      (λ e. result_modest p (start_of p nu st).idle l (run SWEEP_CAP p m (first_iterate (start_of p nu st)) 200) (clamped_to p nu (size p)) ok.sized.0 (whole_run m))

-- all rows Idle: no row is on a bound, and every multiplier is as the clamp put it
nothing-claims : (c : Call) → refusal c ≡ None → BoundsInOrder c.problem → (ok : Accepted c.problem c.nu c.states c.listed c.room) → (started c).idle ≡ size c.problem
    → Claims c (result_with (solved (nothing (started c).idle)) (started c).nu ((started c).states ++ drop (size c.problem) c.states) c.listed)
unfolding in_box sweeps_alone stopped_by_last passes_made
nothing-claims c z fair ok e =
    let h = is-started c.problem c.nu c.states c.listed ok in
    let bound : (i v : ℕ) → i < size c.problem → state ((started c).states ++ drop (size c.problem) c.states) i ≡ v → (v ≡ 3 → ⊥) → (v ≡ 0 → ⊥) → ⊥
    = λ i v d y. not-bound (idle_row c.problem i) (state (started c).states i) v (h.states i d)
    (sym (get_or-append (started c).states (drop (size c.problem) c.states) 0 i (rw h.long d)) ∙ y) in (
      z,
      record {
        made_sweeps = λ k h. absurd (not-suc-le-zero h);
        last_sweep = λ h. absurd (not-suc-le-zero h);
        no_sweep = λ y. none-acts c.problem c.nu (take (size c.problem) c.states) (size c.problem) (le_refl (size c.problem)) e;
        none_acts = λ y. refl;
        made_passes = refl;
        few_sweeps = zero-le;
        passes = sym due-zero;
        stopped = refl;
        few_stopped = zero-le;
        left_by_sweeps = λ y. absurd (true≢false y);
        written = λ y h. absurd (not-suc-le-zero h);
        idle_left = λ i d y. ap (λ (v : List Float). at v i) (start_is c.problem c.nu (take (size c.problem) c.states) (size c.problem) (le_refl (size c.problem)));
        in_boxes = λ y. absurd (true≢false y);
        idle_in_boxes = λ i d y. h.boxed.boxes fair.ordered i d;
        converged = λ x y. absurd (true≢false y);
        at_lo = λ x i d y. absurd (bound i 1 d y (λ e. omega arith) (λ e. omega arith));
        at_hi = λ x i d y. absurd (bound i 2 d y (λ e. omega arith) (λ e. omega arith));
      },
    )

solve-claims : (c : Call) (z : refusal c ≡ None) (fair : BoundsInOrder c.problem) (ok : Accepted c.problem c.nu c.states c.listed c.room)
    → Claims c (answered c z fair ok (solve SWEEP_CAP c.problem c.watch c.nu (take (size c.problem) c.states) c.listed))
solve-claims c z fair ok =
    let p = c.problem in
    solve_either (λ x. Claims c (answered c z fair ok x)) p c.watch c.nu c.states c.listed
    (nothing-claims c z fair ok)
    (λ o. result-claims c z fair ok (started c).idle (after_sweeps c 200)
    (λ n. o (all-idle p c.nu (take (size p) c.states) n (size p) (le_refl (size p)))) (made p c.watch (first_iterate (started c)) refl 200)
    (whole_run p c.nu c.states c.listed ok c.watch))

-- ---- a call

is-accepted : (c : Call) → refusal c ≡ None → Accepted c.problem c.nu c.states c.listed c.room
is-accepted c e =
    accepted c.problem c.watch.motion c.nu c.states c.listed c.room
    (not-refused c.sent c.problem c.watch.motion c.nu c.states c.listed c.room e)

reply_modest : (c : Call) (k : Option Why) → refusal c ≡ k → Reported Modest (reply SWEEP_CAP c.problem c.watch c.nu c.states c.listed k).outcome
unfolding reply
reply_modest c None e = solve_modest c.problem c.nu c.states c.listed (is-accepted c e) c.watch
reply_modest c (Some k) e = tt

reply-claims : (c : Call) → (refusal c ≡ None → BoundsInOrder c.problem) → (k : Option Why) → refusal c ≡ k → Claims c (reply SWEEP_CAP c.problem c.watch c.nu c.states c.listed k)
unfolding reply
reply-claims c fair None e = solve-claims c e (fair e) (is-accepted c e)
reply-claims c fair (Some k) e = record { refused_by = e; nu_kept = refl; states_kept = refl; list_kept = refl; workspace_kept = refl }

pub modest : (c : Call) → Reported Modest (alone c).outcome
unfolding alone
modest c = reply_modest c (refusal c) refl

pub claims : (c : Call) → (refusal c ≡ None → BoundsInOrder c.problem) → Claims c (alone c)
unfolding alone
claims c fair = reply-claims c fair (refusal c) refl
