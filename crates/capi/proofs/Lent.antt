-- Where C lends more than a call needs, the call has the front: what is read of it and left in it is what is read of the list and left in it. Assumes nothing.
use Rattle.std.proofs.Common.{◌≡◌, ℕ, zero, suc, ◌<◌, ◌≤◌, List, [], ◌∷◌, ◌++◌, length, take, drop, set, get_or, refl, sym, ◌∙◌, arith, Bool, true, false, ◌&&◌, leb, Ok, Err, Result, ap, le-leb}
use Rattle.std.proofs.lemmas.List.{take-append-drop}
use Rattle.std.specs.Int.{from_bool}
use lib.ListN.{drop_of_length-le}
use Rattle.flags.specs.Flags.{flag}
use lib.Ieee.{Float, nan}
use Rattle.boxed.specs.Solve as solve
use Rattle.boxed.specs.declared.BoxReport.{BoxReport}
use Rattle.boxed.specs.declared.BoxOutcome.{BoxOutcome}
use Rattle.boxed.specs.declared.BoxOutcome.TheVariants.{Solved, Infeasible}
use Rattle.refusals.specs.declared.Refusal.{Refusal}
use Rattle.report.specs.declared.SolveReport.{SolveReport}
use Rattle.report.specs.Joins.{Answer}
use Rattle.tally.specs.Tally.{Call, tallied}
use Rattle.tallied.specs.Joining.{Entered}
use Rattle.capi.specs.Reports as report
use Rattle.capi.specs.Solves as plain
use Rattle.capi.specs.Tallies as tallies

-- ---- the counts of a report and of a solve

-- what holds of n counts and a rest, whatever they are
Counted : ℕ → (List ℕ → Type 0) → Type 0
Counted zero P = (rest : List ℕ) → P rest
Counted (suc n) P = (count : ℕ) → Counted n (λ (l : List ℕ). P (count ∷ l))

counted : (n : ℕ) (P : List ℕ → Type 0) → Counted n P → (l : List ℕ) → n ≤ length l → P l
unfolding Counted
counted zero P each l h = each l
counted (suc n) P each [] h = absurd (omega (arith, h))
counted (suc n) P each (x ∷ l) h = counted n (λ (k : List ℕ). P (x ∷ k)) (each x) l (omega (arith, h))

ten : (r : SolveReport) (l : List ℕ) → 10 ≤ length l → report.written r (take 10 l) ++ drop 10 l ≡ report.written r l
unfolding report.written Counted
ten r = counted 10 (λ (l : List ℕ). report.written r (take 10 l) ++ drop 10 l ≡ report.written r l) (λ a b c d e f g h i j l. refl)

eight : (o : ℕ) (r : BoxReport) (k : ℕ) (l : List ℕ) → 8 ≤ length l → plain.written o r k (take 8 l) ++ drop 8 l ≡ plain.written o r k l
unfolding plain.written Counted
eight o r k = counted 8 (λ (l : List ℕ). plain.written o r k (take 8 l) ++ drop 8 l ≡ plain.written o r k l) (λ a b c d e f g h l. refl)

-- all the counts of an array of that length
pub ten_written : (r : SolveReport) (l : List ℕ) → length l ≡ 10
    → r.increments ∷ r.iterations ∷ r.most_iterations ∷ r.rejected ∷ r.anchors ∷ r.sweeps ∷ r.exact_passes ∷ flag r.converged ∷ flag r.exact ∷ r.stopped ∷ [] ≡ report.written r l
unfolding report.written Counted
ten_written r l h =
    let all = counted 10 (λ (k : List ℕ). r.increments ∷ r.iterations ∷ r.most_iterations ∷ r.rejected ∷ r.anchors ∷ r.sweeps ∷ r.exact_passes ∷ flag r.converged ∷ flag r.exact ∷ r.stopped ∷ drop 10 k ≡ report.written r k) (λ a b c d e f g h i j k. refl) l (omega (arith, h)) in
    rw (drop_of_length-le l {i = 10} (omega (arith, h))) at all

pub flag_is : (b : Bool) → from_bool b ≡ flag b
flag_is true = refl
flag_is false = refl

pub eight_written : (o : ℕ) (r : BoxReport) (k : ℕ) (l : List ℕ) → length l ≡ 8
    → o ∷ r.sweeps ∷ r.exact_passes ∷ flag r.converged ∷ flag r.exact ∷ r.idle ∷ k ∷ r.stopped ∷ [] ≡ plain.written o r k l
unfolding plain.written Counted
eight_written o r k l h =
    let all = counted 8 (λ (m : List ℕ). o ∷ r.sweeps ∷ r.exact_passes ∷ flag r.converged ∷ flag r.exact ∷ r.idle ∷ k ∷ r.stopped ∷ drop 8 m ≡ plain.written o r k m) (λ a b c d e f g h l. refl) l (omega (arith, h)) in
    rw (drop_of_length-le l {i = 8} (omega (arith, h))) at all

pub read_front : (v : Float) (l : List ℕ) → 10 ≤ length l → report.read (take 10 l) v ≡ report.read l v
unfolding report.read Counted
read_front v = counted 10 (λ (l : List ℕ). report.read (take 10 l) v ≡ report.read l v) (λ a b c d e f g h i j l. refl)

pub unwritten : (n : ℕ) (own l : List ℕ) → own ≡ take n l → own ++ drop n l ≡ l
unwritten n own l h = rw h (take-append-drop n l)

-- ---- the residual

one : (l : List Float) (w v : Float) → 0 < length l → w ∷ [] ≡ v ∷ [] → set l 0 w ≡ set l 0 v
one [] w v h f = absurd (omega (arith, h))
one (a ∷ l) w v h f = ap (λ (y : List Float). y ++ l) f

pub none : (l : List Float) (w v : Float) → 0 < length l → get_or l 0 nan ≡ v → w ∷ [] ≡ v ∷ [] → set l 0 w ≡ l
none [] w v h e f = absurd (omega (arith, h))
none (a ∷ l) w v h e f = rw e (ap (λ (y : List Float). y ++ l) f)

-- ---- a solve

solve_counts : (x : Result BoxOutcome Refusal) (l own own' : List ℕ) → 8 ≤ length l → own ≡ take 8 l → own' ≡ plain.counts_left x own → own' ++ drop 8 l ≡ plain.counts_left x l
solve_counts (Ok (Solved r)) l own own' h e f = rw (f, e) (eight 0 r 0 l h)
solve_counts (Ok (Infeasible c k r)) l own own' h e f = rw (f, e) (eight (plain.cause_number c) r k l h)
solve_counts (Err k) l own own' h e f = rw (f, e) (take-append-drop 8 l)

solve_residual : (x : Result BoxOutcome Refusal) (l : List Float) (v w : Float) → 0 < length l → get_or l 0 nan ≡ v → w ∷ [] ≡ plain.residual_left x (v ∷ []) → set l 0 w ≡ plain.residual_left x l
solve_residual (Ok (Solved r)) l v w h e f = one l w r.residual h f
solve_residual (Ok (Infeasible c k r)) l v w h e f = one l w r.residual h f
solve_residual (Err k) l v w h e f = none l w v h e f

module _ (x : solve.Result) (a : Result BoxOutcome Refusal) (r : ℕ) (nu : List Float) (st q : List ℕ) (w w' : List Float) (left : solve.Left x a nu st q w w')
    (counts own own' : List ℕ) (residual : List Float) (v v' : Float)
    (written : (r ≡ plain.number a) × (own' ≡ plain.counts_left a own) × (v' ∷ [] ≡ plain.residual_left a (v ∷ [])))
    (enough : 8 ≤ length counts) (front : own ≡ take 8 counts) (some : 0 < length residual) (first : get_or residual 0 nan ≡ v) where
  answered : plain.Answered x r nu st q counts (own' ++ drop 8 counts) residual (set residual 0 v') w w'
  answered =
      record {
        number_is = written.0 ∙ ap plain.number left.answer;
        nu_is = left.multipliers;
        states_are = left.states;
        rows_are = left.listed;
        counts_are = solve_counts a counts own own' enough front written.1 ∙ ap (λ (y : Result BoxOutcome Refusal). plain.counts_left y counts) left.answer;
        residual_is = solve_residual a residual v v' some first written.2 ∙ ap (λ (y : Result BoxOutcome Refusal). plain.residual_left y residual) left.answer;
        workspace_left = left.workspace;
      }

  room : plain.taken counts residual ≡ true
  unfolding plain.taken
  room = rw (le-leb 8 (length counts) enough, le-leb 1 (length residual) (omega (arith, some))) refl

  pub solve_answered : (nu0 : List Float) (st0 q0 : List ℕ) → plain.Answered (plain.reply (plain.taken counts residual) x nu0 st0 q0) r nu st q counts (own' ++ drop 8 counts) residual (set residual 0 v') w w'
  unfolding plain.reply
  solve_answered nu0 st0 q0 = rw room answered

-- ---- a report that is read, and one that is left

pub read_of : (r : SolveReport) (own l : List ℕ) (v : Float) → 10 ≤ length l → own ≡ take 10 l → r ≡ report.read own v → r ≡ report.read l v
read_of r own l v h e f = f ∙ ap (λ (k : List ℕ). report.read k v) e ∙ read_front v l h

joined_counts : (x : Answer) (l own own' : List ℕ) → 10 ≤ length l → own ≡ take 10 l → own' ≡ report.counts_left x own → own' ++ drop 10 l ≡ report.counts_left x l
joined_counts (Ok r) l own own' h e f = rw (f, e) (ten r l h)
joined_counts (Err k) l own own' h e f = rw (f, e) (take-append-drop 10 l)

joined_residual : (x : Answer) (l : List Float) (v w : Float) → 0 < length l → get_or l 0 nan ≡ v → w ∷ [] ≡ report.residual_left x (v ∷ []) → set l 0 w ≡ report.residual_left x l
joined_residual (Ok r) l v w h e f = one l w r.residual h f
joined_residual (Err k) l v w h e f = none l w v h e f

module _ (x : Answer) (r : ℕ) (counts own own' : List ℕ) (residual : List Float) (v v' : Float)
    (written : (r ≡ report.number x) × (own' ≡ report.counts_left x own) × (v' ∷ [] ≡ report.residual_left x (v ∷ [])))
    (enough : 10 ≤ length counts) (front : own ≡ take 10 counts) (some : 0 < length residual) (first : get_or residual 0 nan ≡ v) where
  pub joined_answered : (a b : List ℕ) → 10 ≤ length a → 10 ≤ length b → report.Left (report.reply (report.taken a b counts residual) x) r counts (own' ++ drop 10 counts) residual (set residual 0 v')
  unfolding report.taken
  joined_answered a b h g =
      rw (le-leb 10 (length a) h, le-leb 10 (length b) g, le-leb 10 (length counts) enough, le-leb 1 (length residual) (omega (arith, some)))
      (record {
        number_is = written.0;
        counts_are = joined_counts x counts own own' enough front written.1;
        residual_is = joined_residual x residual v v' some first written.2;
      })

-- ---- a tally

kept_counts : (a : Result BoxOutcome Refusal) (t : SolveReport) (l own own' : List ℕ) → 10 ≤ length l → own ≡ take 10 l → own' ≡ tallies.counts_kept a t own → own' ++ drop 10 l ≡ tallies.counts_kept a t l
kept_counts (Ok o) t l own own' h e f = rw (f, e) (ten t l h)
kept_counts (Err k) t l own own' h e f = rw (f, e) (take-append-drop 10 l)

kept_residual : (a : Result BoxOutcome Refusal) (t : SolveReport) (l : List Float) (v w : Float) → 0 < length l → get_or l 0 nan ≡ v → w ∷ [] ≡ tallies.residual_kept a t (v ∷ []) → set l 0 w ≡ tallies.residual_kept a t l
kept_residual (Ok o) t l v w h e f = one l w t.residual h f
kept_residual (Err k) t l v w h e f = none l w v h e f

module _ (c : Call) (held s : SolveReport) (a : Result BoxOutcome Refusal) (r : ℕ) (nu : List Float) (st q : List ℕ) (w w' : List Float)
    (entered : Entered (tallied held c) s a nu st q w w')
    (counts own own' : List ℕ) (residual : List Float) (v v' : Float)
    (written : (r ≡ plain.number a) × (own' ≡ plain.counts_left a own) × (v' ∷ [] ≡ plain.residual_left a (v ∷ [])))
    (enough : 8 ≤ length counts) (front : own ≡ take 8 counts) (some : 0 < length residual) (first : get_or residual 0 nan ≡ v)
    (tally ten ten' : List ℕ) (kept : List Float) (u u' : Float)
    (stored : (ten' ≡ tallies.counts_kept a s ten) × (u' ∷ [] ≡ tallies.residual_kept a s (u ∷ [])))
    (enough_kept : 10 ≤ length tally) (front_kept : ten ≡ take 10 tally) (some_kept : 0 < length kept) (first_kept : get_or kept 0 nan ≡ u)
    (same : held ≡ report.read ten u) where
  pub tally_answered : tallies.Answered (tallies.reply (tallies.taken tally kept counts residual) (report.read tally (get_or kept 0 nan)) c) r tally (ten' ++ drop 10 tally) kept (set kept 0 u') nu st q counts (own' ++ drop 8 counts) residual (set residual 0 v') w w'
  unfolding tallies.reply tallies.taken
  tally_answered =
      let x = tallied held c in
      let whole : report.read tally (get_or kept 0 nan) ≡ held = sym (read_of held ten tally u enough_kept front_kept same ∙ ap (report.read tally) (sym first_kept)) in
      rw (le-leb 10 (length tally) enough_kept, le-leb 1 (length kept) (omega (arith, some_kept)), room x.answer a r nu st q w w' entered.left counts own own' residual v v' written enough front some first, whole)
      (record {
        answer_is = answered x.answer a r nu st q w w' entered.left counts own own' residual v v' written enough front some first;
        tally_is = kept_counts a s tally ten ten' enough_kept front_kept stored.0 ∙ rw (entered.left.answer, entered.tally) refl;
        kept_is = kept_residual a s kept u u' some_kept first_kept stored.1 ∙ rw (entered.left.answer, entered.tally) refl;
      })

no-end : (a b c : Bool) → a && (b && (c && false)) ≡ false
no-end true true true = refl
no-end true true false = refl
no-end true false c = refl
no-end false b c = refl

pub no_room : (tally : List ℕ) (kept : List Float) (counts : List ℕ) (residual : List Float) → length residual ≤ 0 → tallies.taken tally kept counts residual ≡ false
unfolding tallies.taken plain.taken
no_room tally kept counts [] h = no-end (leb 10 (length tally)) (leb 1 (length kept)) (leb 8 (length counts))
no_room tally kept counts (x ∷ l) h = absurd (omega (arith, h))
