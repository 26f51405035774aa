-- One sweep with its tests, from what its calls promise: one law for each return. Then the sweeps as their loop makes them.
use Rattle.loops.proofs.Common.{ℕ, suc, ◌+◌, ◌-◌, ◌≤◌, ◌<◌, ◌≡◌, refl, sym, ap, ◌∙◌, List, length, take, drop, arith, add-one, Float, true, false}
use Rattle.std.specs.Option.{is_some}
use Rattle.std.specs.Prelude.{Option, Some, None}
use Rattle.loops.specs.Loops.{turns}
use Rattle.loops.proofs.Turns.{stays}
use Rattle.box_rows.specs.Rows as box
use Rattle.exact_pass.specs.Promise.{Front}
use Rattle.boxed.specs.Sweep as sweep
use Rattle.boxed.specs.Solve as solve
use Rattle.boxed.specs.Solve.{Run, going, ended, exact, converged, conflict, Iterate, iterate, Watch}
use Rattle.boxed.specs.Private.{BEFORE, SOLVE_END, TurnLent, Swept, Ran, Worked, Counted}
use Rattle.boxed.proofs.Checks.{keeping, Keeps, keeps}
use Rattle.boxed.proofs.Testing.{none_fight, some_fight}
use Rattle.boxed.specs.declared.Cause.TheVariants as cause
use Rattle.boxed.specs.declared.Counts.{Counts}
use Rattle.boxed.specs.declared.Ended.{Ended}
use Rattle.boxed.specs.declared.Ended.TheVariants.{Infeasible}

-- ---- a run that goes on, and one that has ended

module _ (l₀ : List ℕ) (nu : List Float) (st : List ℕ) (c : Counts) (l : List ℕ) where
  goes_on : (r : Run) → Ran r l₀ None nu st c l → (r ≡ going (iterate nu st c)) × (l ≡ l₀)
  goes_on (going s) h = (ap going (sym h.reached), h.listed)
  goes_on (ended exact s) h = absurd (cc)
  goes_on (ended converged s) h = absurd (cc)
  goes_on (ended (conflict k r) s) h = absurd (cc)

  module _ (e : Ended) where
    tested-ended : (p : box.Problem) (m : Watch) (before : List Float) (r : Run) → Ran r l₀ (Some e) nu st c l → solve.tested p m before r ≡ r
    unfolding solve.tested
    tested-ended p m before (going s) h = absurd (cc)
    tested-ended p m before (ended b s) h = refl

    checked-ended : (cap : ℕ) (p : box.Problem) (r : Run) → Ran r l₀ (Some e) nu st c l → solve.checked cap p r ≡ r
    unfolding solve.checked
    checked-ended cap p (going s) h = absurd (cc)
    checked-ended cap p (ended b s) h = refl

    ended_stays : (cap : ℕ) (p : box.Problem) (m : Watch) (r : Run) → Ran r l₀ (Some e) nu st c l → (i : ℕ) → solve.turn cap p m i r ≡ r
    unfolding solve.turn
    ended_stays cap p m (going s) h i = absurd (cc)
    ended_stays cap p m (ended b s) h i = refl

-- ---- one sweep: nu₁ are the multipliers after it, s rows are stopped, and `grown` tells how many are grown

module _ (cap : ℕ) (m : Watch) (i : ℕ) {p : box.Problem} {nu : List Float} {st : List ℕ} {n : Counts} {rows : List ℕ} {work nu₁ old : List Float} {s : ℕ} {grown : Option ℕ} {rows₁ : List ℕ} (few : box.size p ≤ box.MAX_ROWS) (lent : TurnLent p st nu rows work n)
    (swept : Swept p st nu nu₁ old s) (grew : Front (sweep.grown nu₁ p.scale (length nu₁)) rows grown rows₁) (long : length nu₁ ≡ length nu) where
  abbrev c : Counts
  c = solve.counts (n.sweeps + 1) n.passes s

  -- what this turn comes to
  abbrev TurnCounted : Option Ended → List Float → List ℕ → Counts → List ℕ → List Float → Type 0
  TurnCounted e nu' st' c' rows' work' = Counted SOLVE_END (solve.turn cap p m i (going (iterate nu st n))) rows work (n.sweeps + 1) (n.passes + 1) e nu' st' c' rows' work'

  abbrev fighting : List ℕ
  fighting = sweep.grown nu₁ p.scale (length nu₁)

  abbrev after : Run
  after = solve.unless cause.Growth (iterate nu₁ st c) fighting

  turn_is : solve.turn cap p m i (going (iterate nu st n)) ≡ solve.tested p m nu (solve.checked cap p after)
  unfolding solve.turn
  turn_is = rw (long ∙ lent.check.lent.lists.multipliers, add-one n.sweeps, swept.stopped, swept.multipliers)

  -- the workspace after the sweep: the multipliers before it are past what a pass uses
  abbrev work₁ : List Float
  work₁ = keeping BEFORE (length nu) work old

  kept : (w : List Float) → drop BEFORE w ≡ drop BEFORE work₁ → Keeps BEFORE (length nu) work old w
  kept w = keeps BEFORE (length nu) work old w (omega (arith, few, lent.check.lent.lists.multipliers)) lent.check.lent.workspace (ap length swept.before)

  pub turn-grown : (k : ℕ) → grown ≡ Some k → TurnCounted (Some (Infeasible cause.Growth k)) nu₁ st c rows₁ work₁
  turn-grown k h =
      let r : Ran after rows (Some (Infeasible cause.Growth k)) nu₁ st c rows₁ = some_fight cause.Growth nu₁ st rows rows₁ fighting k (rw h at grew) c in
      record {
        worked = record {
          ran = rw (turn_is, checked-ended rows nu₁ st c rows₁ (Infeasible cause.Growth k) cap p after r, tested-ended rows nu₁ st c rows₁ (Infeasible cause.Growth k) p m nu after r) r;
          workspace = (kept work₁ refl).beyond;
        };
        sweeps = refl;
        passes = omega arith;
      }

  none-grown : grown ≡ None → (after ≡ going (iterate nu₁ st c)) × (rows₁ ≡ rows)
  none-grown h = goes_on rows nu₁ st c rows₁ after (none_fight cause.Growth nu₁ st rows rows₁ fighting (rw h at grew) c)

  -- no row is grown, and the check has come to this
  module _ (none : grown ≡ None) {e : Option Ended} {nu₂ : List Float} {st₂ : List ℕ} {c₂ : Counts} {rows₂ : List ℕ} {work₂ : List Float}
      (checked : Counted BEFORE (solve.checked cap p (going (iterate nu₁ st c))) rows₁ work₁ (n.sweeps + 1) (n.passes + 1) e nu₂ st₂ c₂ rows₂ work₂) where
    turn_on : solve.turn cap p m i (going (iterate nu st n)) ≡ solve.tested p m nu (solve.checked cap p (going (iterate nu₁ st c)))
    turn_on = turn_is ∙ ap (λ (r : Run). solve.tested p m nu (solve.checked cap p r)) (none-grown none).0

    rows_stay : rows₁ ≡ rows
    rows_stay = (none-grown none).1

    pub turn-ended : is_some e ≡ true → TurnCounted e nu₂ st₂ c₂ rows₂ work₂
    turn-ended f = ended_as e refl f
      where
        ended_as : (g : Option Ended) → e ≡ g → is_some g ≡ true → TurnCounted e nu₂ st₂ c₂ rows₂ work₂
        ended_as None q h = absurd (cc)
        ended_as (Some b) q h =
            let r = rw q at checked.worked.ran in
            record {
              worked = record {
                ran = rw (turn_on, tested-ended rows₁ nu₂ st₂ c₂ rows₂ b p m nu (solve.checked cap p (going (iterate nu₁ st c))) r, ← rows_stay) checked.worked.ran;
                workspace = (kept work₂ checked.worked.workspace).beyond;
              };
              sweeps = checked.sweeps;
              passes = checked.passes;
            }

    pub turn-tested : is_some e ≡ false → (g : Option Ended) (rows₃ : List ℕ)
        → ((d : Counts) → Ran (solve.tested p m (take (BEFORE + length nu - BEFORE) (drop BEFORE work₂)) (going (iterate nu₂ st₂ d))) rows₂ g nu₂ st₂ d rows₃) → TurnCounted g nu₂ st₂ c₂ rows₃ work₂
    turn-tested f g rows₃ h = tested_as e refl f
      where
        tested_as : (b : Option Ended) → e ≡ b → is_some b ≡ false → TurnCounted g nu₂ st₂ c₂ rows₃ work₂
        tested_as (Some b) q j = absurd (cc)
        tested_as None q j =
            let x = goes_on rows₁ nu₂ st₂ c₂ rows₂ (solve.checked cap p (going (iterate nu₁ st c))) (rw q at checked.worked.ran) in
            record {
              worked = record {
                ran = rw (turn_on, x.0, ← rows_stay, ← x.1) (rw ((kept work₂ checked.worked.workspace).part, swept.before) at (h c₂));
                workspace = (kept work₂ checked.worked.workspace).beyond;
              };
              sweeps = checked.sweeps;
              passes = checked.passes;
            }

-- ---- the sweeps, each from where the one before left off, until one ends the solve

abbrev pub none : Counts
none = solve.counts 0 0 0

-- what i sweeps have come to, none of which ended the solve
pub record Reached (cap : ℕ) (p : box.Problem) (m : Watch) (nu₀ : List Float) (st₀ rows₀ : List ℕ) (work₀ : List Float) (i : ℕ) (nu : List Float) (st rows : List ℕ) (work : List Float) (c : Counts) : Type 0 where
  pub run : solve.run cap p m (iterate nu₀ st₀ none) i ≡ going (iterate nu st c)
  pub sweeps : c.sweeps ≡ i
  pub passes : c.passes ≤ i
  pub listed : rows ≡ rows₀
  pub workspace : drop SOLVE_END work ≡ drop SOLVE_END work₀

none_counted : (c : Counts) → (c.sweeps ≡ 0) × ((c.passes ≡ 0) × (c.stopped ≡ 0)) → none ≡ c
none_counted c e =
    sym (ap (λ (k : ℕ). solve.counts k c.passes c.stopped) e.0 ∙ ap (λ (k : ℕ). solve.counts 0 k c.stopped) e.1.0 ∙ ap (λ (k : ℕ). solve.counts 0 0 k) e.1.1)

module _ (cap : ℕ) (p : box.Problem) (m : Watch) (nu₀ : List Float) (st₀ rows₀ : List ℕ) (work₀ : List Float) where
  -- c counts nothing yet
  pub run-start : (c : Counts) → (c.sweeps ≡ 0) × ((c.passes ≡ 0) × (c.stopped ≡ 0)) → Reached cap p m nu₀ st₀ rows₀ work₀ 0 nu₀ st₀ rows₀ work₀ c
  unfolding solve.run turns
  run-start c e =
      record {
        run = ap (λ (k : Counts). going (iterate nu₀ st₀ k)) (none_counted c e);
        sweeps = e.0;
        passes = omega (arith, e.1.0);
        listed = refl;
        workspace = refl;
      }

  module _ (i : ℕ) (nu : List Float) (st rows : List ℕ) (work : List Float) (c : Counts) (so_far : Reached cap p m nu₀ st₀ rows₀ work₀ i nu st rows work c) where
    pub run-over : i ≤ cap → cap ≤ i → Worked SOLVE_END (solve.run cap p m (iterate nu₀ st₀ none) cap) rows₀ work₀ None nu st c rows work
    run-over a b =
        let e : cap ≡ i = omega arith in
        let r : solve.run cap p m (iterate nu₀ st₀ none) cap ≡ going (iterate nu st c) = ap (solve.run cap p m (iterate nu₀ st₀ none)) e ∙ so_far.run in
        record { ran = rw r (record { answer = refl; reached = refl; listed = so_far.listed }); workspace = so_far.workspace }

    abbrev next : Run
    next = solve.turn cap p m c.sweeps (going (iterate nu st c))

    step : solve.run cap p m (iterate nu₀ st₀ none) (suc i) ≡ next
    unfolding solve.run turns
    step = rw (so_far.run, so_far.sweeps)

    module _ {e : Option Ended} {nu' : List Float} {st' : List ℕ} {c' : Counts} {rows' : List ℕ} {work' : List Float}
        (swept : Counted SOLVE_END next rows work (c.sweeps + 1) (c.passes + 1) e nu' st' c' rows' work') where
      pub run_again : is_some e ≡ false → Reached cap p m nu₀ st₀ rows₀ work₀ (i + 1) nu' st' rows' work' c'
      run_again f = again e refl f
        where
          again : (g : Option Ended) → e ≡ g → is_some g ≡ false → Reached cap p m nu₀ st₀ rows₀ work₀ (i + 1) nu' st' rows' work' c'
          again (Some b) q h = absurd (cc)
          again None q h =
              let x = goes_on rows nu' st' c' rows' next (rw q at swept.worked.ran) in
              record {
                run = ap (solve.run cap p m (iterate nu₀ st₀ none)) (add-one i) ∙ step ∙ x.0;
                sweeps = omega (arith, swept.sweeps, so_far.sweeps);
                passes = omega (arith, swept.passes, so_far.passes);
                listed = x.1 ∙ so_far.listed;
                workspace = swept.worked.workspace ∙ so_far.workspace;
              }

      pub run-ended : is_some e ≡ true → i < cap → Worked SOLVE_END (solve.run cap p m (iterate nu₀ st₀ none) cap) rows₀ work₀ e nu' st' c' rows' work'
      unfolding solve.run
      run-ended f h = over e refl f
        where
          over : (g : Option Ended) → e ≡ g → is_some g ≡ true → Worked SOLVE_END (solve.run cap p m (iterate nu₀ st₀ none) cap) rows₀ work₀ e nu' st' c' rows' work'
          over None q j = absurd (cc)
          over (Some b) q j =
              let still = ended_stays rows nu' st' c' rows' b cap p m next (rw q at swept.worked.ran) in
              record {
                ran = rw (stays (solve.turn cap p m) (going (iterate nu₀ st₀ none)) next (suc i) step (λ t g. still t) cap h, ← so_far.listed) swept.worked.ran;
                workspace = swept.worked.workspace ∙ so_far.workspace;
              }
