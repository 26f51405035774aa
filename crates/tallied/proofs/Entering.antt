-- A tallied solve is refused on a full tally, and the solve by itself on any other.
use Prim.Native.Nat.{ℕ}
use mathlib.Core.Path.{◌≡◌, refl, ◌∙◌}
use mathlib.Core.Bool.{true, false}
use mathlib.Core.List.{List}
use lib.Ieee.{Float}
use Rattle.std.specs.Prelude.{Option, None, Some, Result, Ok, Err}
use Rattle.std.specs.Result.{result_err, result_and}
use Rattle.boxed.specs.Solve as solve
use Rattle.boxed.specs.Solve.{Outcome, refused, solved, infeasible, answer_of, Left}
use Rattle.boxed.specs.declared.BoxOutcome.{BoxOutcome}
use Rattle.refusals.specs.declared.Refusal.{Refusal}
use Rattle.refusals.specs.declared.Refusal.TheVariants as by
use Rattle.report.specs.declared.SolveReport.{SolveReport}
use Rattle.tally.specs.Tally as def
use Rattle.tally.specs.Tally.{Call, refusal, alone, or_full, no_nan, taken, full, joined_to, tallied}
use Rattle.tallied.specs.Joining.{Entered}
use Rattle.tallied.specs.Private.{added, joined_by}

-- the code's way to join, by the answer in place of the outcome
joined_by_lem : (t : SolveReport) (x : Outcome) (nu : List Float) → joined_by t (answer_of x) (no_nan nu) ≡ joined_to t x nu
unfolding added taken
joined_by_lem t (refused k) nu = refl
joined_by_lem t (solved r) nu = refl
joined_by_lem t (infeasible c l r) nu = refl

module _ (t : SolveReport) (c : Call) where
  -- a refusal changes nothing
  refuses : (k : Refusal) → or_full (full t) (refusal c) ≡ Some k → (w : List Float)
      → Entered (tallied t c) t (Err k) c.nu c.states c.listed w w
  unfolding tallied def.answer_on def.refusal_on def.with solve.reply
  refuses k e w = rw e (record { tally = refl; left = record { answer = refl; multipliers = refl; states = refl; listed = refl; workspace = refl } })

  -- on a full tally, by its own refusal or else by that of the tally
  pub on_full : full t ≡ true → (r : Result (Unit {0}) Refusal) → result_err r ≡ refusal c → (a : Result BoxOutcome Refusal) → a ≡ result_and r (Err by.Tally) → (w : List Float)
      → Entered (tallied t c) t a c.nu c.states c.listed w w
  on_full f (Ok u) e a g w = rw g (refuses by.Tally (rw (f, ← e) refl) w)
  on_full f (Err k) e a g w = rw g (refuses k (rw (f, ← e) refl) w)

  room_for : (r : Option Refusal) → or_full false r ≡ r
  room_for None = refl
  room_for (Some k) = refl

  pub on_room : full t ≡ false → (s : SolveReport) (r : Result BoxOutcome Refusal) (nu : List Float) (st q : List ℕ) (w w' : List Float)
      → Left (alone c) r nu st q w w' → s ≡ joined_by t r (no_nan nu)
      → Entered (tallied t c) s r nu st q w w'
  unfolding tallied alone def.answer_on def.refusal_on def.with
  on_room f s r nu st q w w' l e =
      rw (f, room_for (refusal c))
      (record {
        tally = e ∙ rw (l.answer, l.multipliers) (joined_by_lem t (alone c).outcome (alone c).nu);
        left = l;
      })
