-- Every order of a list of tallied solves leaves the same tally and gives each solve the answer that it has alone, as long as no tally on the way can be full: 21,474,836 solves of 200
-- sweeps each are the most of which that is so.
use Prim.Native.Nat.{ℕ, suc, ◌+◌, ◌*◌, ◌≤◌, ◌<◌, zero-le}
use mathlib.Core.Path.{◌≡◌, refl, sym, ◌∙◌, ap}
use mathlib.Core.Bool.{Bool, false, ◌&&◌, ◌||◌, and-true, and_assoc}
use mathlib.Core.List.{List, [], ◌∷◌, map, Permᴰ}
use native.Mathlib.Omega.{arith}
use lib.Dec.{ltb, eqb}
use lib.Arith.{lt_of_le-ne}
use lib.ListN.{length}
use lib.Ieee.{Float}
use borrow.Author.Tests.{le-ltb, ltb-false, ne_eqb, eqb-false}
use Rattle.std.specs.Prelude.{Ok}
use Rattle.report.specs.Joins.{NOTHING, both, most, and, AllSummable}
use Rattle.report.specs.declared.SolveReport.{SolveReport}
use Rattle.report.proofs.Joins.{Held, both-held, both_comm, both_assoc, and_joins}
use Rattle.boxed.specs.Solve.{Outcome, refused, solved, infeasible, reply, SWEEP_CAP}
use Rattle.boxed.specs.declared.BoxReport.{BoxReport}
use Rattle.std.specs.Prelude.{Option, Some, None}
use Rattle.refusals.specs.declared.Refusal.{Refusal}
use Rattle.tally.specs.Tally.{Call, refusal, alone, turned, taken, kept, joined_to, full, or_full, refusal_on, answer_on, Tallied, with, tallied, before, all}
use Rattle.demand3.specs.Demand.{Accepted, accepted_in, accepted, taken_as, sum_of, all_of}
use Rattle.demand3.proofs.Solves.{Modest, Reported}
use Rattle.boxed.proofs.Accepting.{or_false}

-- ---- the tally with every report added, whatever the counts come to

abbrev pub plus : SolveReport → Outcome → List Float → SolveReport
plus t (refused k) nu = t
plus t (solved r) nu = both t (taken r nu)
plus t (infeasible c l r) nu = both t (taken r nu)

-- with that of a solve
abbrev pub with-one : SolveReport → Call → SolveReport
with-one t c = plus t (alone c).outcome (alone c).nu

unfoldable pub total : SolveReport → List Call → SolveReport
total t [] = t
total t (c ∷ l) = total (with-one t c) l

both-swap : (t a b : SolveReport) → Held t → Held a → Held b → both (both t a) b ≡ both (both t b) a
both-swap t a b p q r = both_assoc t a b p q r ∙ ap (both t) (both_comm a b q r) ∙ sym (both_assoc t b a p r q)

taken-held : (r : BoxReport) (nu : List Float) → Modest r → Held (taken r nu)
unfolding taken turned
taken-held r nu h = h.held

plus-held : (t : SolveReport) (o : Outcome) (nu : List Float) → Reported Modest o → Held t → Held (plus t o nu)
plus-held t (refused k) nu h p = p
plus-held t (solved r) nu h p = both-held t (taken r nu) p (taken-held r nu h)
plus-held t (infeasible c l r) nu h p = both-held t (taken r nu) p (taken-held r nu h)

taken-swap : (t : SolveReport) (r s : BoxReport) (nu mu : List Float) → Modest r → Modest s → Held t
    → both (both t (taken r nu)) (taken s mu) ≡ both (both t (taken s mu)) (taken r nu)
taken-swap t r s nu mu h g p = both-swap t (taken r nu) (taken s mu) p (taken-held r nu h) (taken-held s mu g)

plus-swap : (t : SolveReport) (o u : Outcome) (nu mu : List Float) → Reported Modest o → Reported Modest u → Held t
    → plus (plus t o nu) u mu ≡ plus (plus t u mu) o nu
plus-swap t (refused k) u nu mu h g p = refl
plus-swap t (solved r) (refused j) nu mu h g p = refl
plus-swap t (solved r) (solved s) nu mu h g p = taken-swap t r s nu mu h g p
plus-swap t (solved r) (infeasible c l s) nu mu h g p = taken-swap t r s nu mu h g p
plus-swap t (infeasible c l r) (refused j) nu mu h g p = refl
plus-swap t (infeasible c l r) (solved s) nu mu h g p = taken-swap t r s nu mu h g p
plus-swap t (infeasible c l r) (infeasible d k s) nu mu h g p = taken-swap t r s nu mu h g p

-- ---- its counts

-- a count that `both` adds comes to the start's and the sum
module _ (f : SolveReport → ℕ) (adds : (a b : SolveReport) → f (both a b) ≡ f a + f b) where
  plus-sum : (t : SolveReport) (o : Outcome) (nu : List Float) (l : List Accepted)
      → f (plus t o nu) + sum_of f (map taken_as l) ≡ f t + sum_of f (map taken_as (accepted_in o nu l))
  plus-sum t (refused k) nu l = refl
  plus-sum t (solved r) nu l = rw adds (omega arith)
  plus-sum t (infeasible c s r) nu l = rw adds (omega arith)

  pub total-sum : (l : List Call) (t : SolveReport) → f (total t l) ≡ f t + sum_of f (map taken_as (accepted (map alone l)))
  unfolding total
  total-sum [] t = omega arith
  total-sum (c ∷ l) t = total-sum l (with-one t c) ∙ plus-sum t (alone c).outcome (alone c).nu (accepted (map alone l))

-- `most_iterations` is the larger of two, and of solves it is 0
plus-most : (t : SolveReport) (o : Outcome) (nu : List Float) → t.most_iterations ≡ 0 → (plus t o nu).most_iterations ≡ 0
unfolding taken turned
plus-most t (refused k) nu h = h
plus-most t (solved r) nu h = rw h
plus-most t (infeasible c l r) nu h = rw h

pub total-most : (l : List Call) (t : SolveReport) → t.most_iterations ≡ 0 → (total t l).most_iterations ≡ 0
unfolding total
total-most [] t h = h
total-most (c ∷ l) t h = total-most l (with-one t c) (plus-most t (alone c).outcome (alone c).nu h)

-- ---- its flags

-- a flag that `both` has where both have it is the start's, and that of every solve accepted
module _ (f : SolveReport → Bool) (joins : (a b : SolveReport) → f (both a b) ≡ f a && f b) where
  abbrev pub flag_of : Accepted → Bool
  flag_of a = f (taken_as a)

  plus-flag : (t : SolveReport) (o : Outcome) (nu : List Float) (l : List Accepted) → f (plus t o nu) && all_of flag_of l ≡ f t && all_of flag_of (accepted_in o nu l)
  plus-flag t (refused k) nu l = refl
  plus-flag t (solved r) nu l = rw joins (and_assoc (f t) (f (taken r nu)) (all_of flag_of l))
  plus-flag t (infeasible c s r) nu l = rw joins (and_assoc (f t) (f (taken r nu)) (all_of flag_of l))

  pub total-flag : (l : List Call) (t : SolveReport) → f (total t l) ≡ f t && all_of flag_of (accepted (map alone l))
  unfolding total
  total-flag [] t = sym (and-true (f t))
  total-flag (c ∷ l) t = total-flag l (with-one t c) ∙ plus-flag t (alone c).outcome (alone c).nu (accepted (map alone l))

-- ---- no tally from NOTHING is ever full

abbrev pub enough : ℕ
enough = 21474836

pub record Within (k : ℕ) (t : SolveReport) : Type 0 where
  pub increments : t.increments ≤ k
  pub sweeps : t.sweeps ≤ 200 * k
  pub passes : t.exact_passes ≤ 9 * k
  pub stopped : t.stopped ≤ 32 * k
  pub iterations : t.iterations ≡ 0
  pub rejected : t.rejected ≡ 0
  pub anchors : t.anchors ≡ 0

pub within-nothing : Within 0 NOTHING
within-nothing = record { increments = zero-le; sweeps = zero-le; passes = zero-le; stopped = zero-le; iterations = refl; rejected = refl; anchors = refl }

not_full : (k : ℕ) (t : SolveReport) → k < enough → Within k t → full t ≡ false
unfolding full
not_full k t b w =
    let i = w.increments in
    rw (ne_eqb t.increments 4294967295 (λ e. omega arith), le-ltb 4294967095 t.sweeps (omega arith), le-ltb 4294967286 t.exact_passes (omega arith), le-ltb 4294967263 t.stopped (omega arith))

module _ (k : ℕ) (t : SolveReport) (b : k < enough) (w : Within k t) (r : BoxReport) (nu : List Float) (m : Modest r) where
  summable : AllSummable t (taken r nu)
  unfolding taken turned
  summable =
      record {
        increments = omega arith;
        others = record { iterations = omega arith; rejected = omega arith; anchors = omega arith; sweeps = omega arith; exact_passes = omega arith; stopped = omega arith };
      }

  joined-one : kept t (and t (taken r nu)) ≡ both t (taken r nu)
  joined-one = rw (and_joins t (taken r nu) summable)

  within-one : Within (suc k) (both t (taken r nu))
  unfolding taken turned
  within-one = record { increments = omega arith; sweeps = omega arith; passes = omega arith; stopped = omega arith; iterations = omega arith; rejected = omega arith; anchors = omega arith }

within_more : (k : ℕ) (t : SolveReport) → Within k t → Within (suc k) t
within_more k t w =
    record { increments = omega arith; sweeps = omega arith; passes = omega arith; stopped = omega arith; iterations = w.iterations; rejected = w.rejected; anchors = w.anchors }

joined_is : (k : ℕ) (t : SolveReport) (o : Outcome) (nu : List Float) → k < enough → Within k t → Reported Modest o
    → (joined_to t o nu ≡ plus t o nu) × Within (suc k) (plus t o nu)
joined_is k t (refused j) nu b w m = (refl, within_more k t w)
joined_is k t (solved r) nu b w m = (joined-one k t b w r nu m, within-one k t b w r nu m)
joined_is k t (infeasible c l r) nu b w m = (joined-one k t b w r nu m, within-one k t b w r nu m)

own_refusal : (r : Option Refusal) → or_full false r ≡ r
own_refusal None = refl
own_refusal (Some k) = refl

-- on a tally that is not full a solve is answered as it is alone
answer_is : (t : SolveReport) (c : Call) → full t ≡ false → answer_on t c ≡ alone c
unfolding answer_on refusal_on alone
answer_is t c h =
    ap (reply SWEEP_CAP c.problem c.watch c.nu c.states c.listed) (ap (λ (b : Bool). or_full b (refusal c)) h ∙ own_refusal (refusal c))

tallied-is : (k : ℕ) (t : SolveReport) (c : Call) → k < enough → Within k t → tallied t c ≡ record { tally = joined_to t (alone c).outcome (alone c).nu; answer = alone c }
unfolding tallied with
tallied-is k t c b w = ap (with t) (answer_is t c (not_full k t (omega arith) w))

-- ---- the two laws, from what is known of each solve

module _ (modest : (c : Call) → Reported Modest (alone c).outcome) where
  pub all-is : (l : List Call) (k : ℕ) (t : SolveReport) → k + length l ≤ enough → Within k t → all t l ≡ record { tally = total t l; answers = map alone l }
  unfolding all before total
  all-is [] k t b w = refl
  all-is (c ∷ l) k t b w =
      let j = joined_is k t (alone c).outcome (alone c).nu (omega arith) w (modest c) in
      let e : tallied t c ≡ record { tally = with-one t c; answer = alone c }
      = tallied-is k t c (omega arith) w ∙ ap (λ (s : SolveReport). let r : Tallied = record { tally = s; answer = alone c } in r) j.0 in
      let ih = all-is l (suc k) (with-one t c) (omega arith) j.1 in
      rw (e, ih)

  pub total-perm : {l₁ l₂ : List Call} → Permᴰ l₁ l₂ → (t : SolveReport) → Held t → total t l₁ ≡ total t l₂
  unfolding total
  total-perm Permᴰ.nil t p = refl
  total-perm (Permᴰ.cons {a = a} {b = b} {l₁ = l₁} {l₂ = l₂} e d) t p =
      ap (λ (x : Call). total (with-one t x) l₁) e ∙ total-perm d (with-one t b) (plus-held t (alone b).outcome (alone b).nu (modest b) p)
  total-perm (Permᴰ.swap {a = a} {b = b} {a' = a'} {b' = b'} {l = l} e g) t p =
      ap (λ (s : SolveReport). total s l)
      (plus-swap t (alone a).outcome (alone b).outcome (alone a).nu (alone b).nu (modest a) (modest b) p
      ∙ ap (λ (x : Call). with-one (with-one t x) a) g
      ∙ ap (λ (x : Call). with-one (with-one t a') x) e)
  total-perm (Permᴰ.trans d g) t p = total-perm d t p ∙ total-perm g t p

-- ---- any tally that is not full takes one solve more: 11 leaves no sum for 13 to refuse

-- the counts are those of a u32, as in every tally that a call is given
pub record Counts (t : SolveReport) : Type 0 where
  pub increments : t.increments ≤ most
  pub iterations : t.iterations ≤ most
  pub rejected : t.rejected ≤ most
  pub anchors : t.anchors ≤ most

pub never-refused : (t : SolveReport) (r : BoxReport) (nu : List Float) → Counts t → full t ≡ false → Modest r → and t (taken r nu) ≡ Ok (both t (taken r nu))
unfolding full
never-refused t r nu u h m =
    let z = or_false (eqb t.increments 4294967295 || ltb 4294967095 t.sweeps || ltb 4294967286 t.exact_passes) (ltb 4294967263 t.stopped) h in
    let a = or_false (eqb t.increments 4294967295 || ltb 4294967095 t.sweeps) (ltb 4294967286 t.exact_passes) z.0 in
    let b = or_false (eqb t.increments 4294967295) (ltb 4294967095 t.sweeps) a.0 in
    and_joins t (taken r nu)
    (room_for (lt_of_le-ne u.increments (eqb-false t.increments 4294967295 b.0)) (ltb-false 4294967095 t.sweeps b.1) (ltb-false 4294967286 t.exact_passes a.1) (ltb-false 4294967263 t.stopped z.1))
  where
    room_for : t.increments < 4294967295 → t.sweeps ≤ 4294967095 → t.exact_passes ≤ 4294967286 → t.stopped ≤ 4294967263 → AllSummable t (taken r nu)
    room_for i s p k =
        unfold taken turned in
        record {
          increments = omega arith;
          others = record {
            iterations = omega (arith, u.iterations);
            rejected = omega (arith, u.rejected);
            anchors = omega (arith, u.anchors);
            sweeps = omega (arith, m.few);
            exact_passes = omega (arith, m.fewer);
            stopped = omega (arith, m.few_stopped);
          };
        }
