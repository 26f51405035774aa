-- What a call that is not refused was lent.
use Prim.Native.Nat.{ℕ, ◌*◌, ◌%◌, ◌≤◌}
use mathlib.Core.Path.{◌≡◌, refl}
use mathlib.Core.Bool.{Bool, true, false, not, ◌&&◌, ◌||◌, true≢false}
use mathlib.Core.List.{List, [], ◌∷◌}
use native.Mathlib.Omega.{arith}
use lib.Dec.{ltb, eqb}
use lib.ListN.{length, take}
use lib.Seq.{length-take-le}
use lib.Ieee.{Float}
use borrow.Author.Tests.{eqb-true, ltb-false, not-false}
use Rattle.loops.specs.Loops.{every}
use Rattle.loops.proofs.Every.{both_true}
use Rattle.box_rows.specs.Rows.{Problem, MAX_ROWS, size}
use Rattle.box_rows.specs.Rows.{Sized}
use Rattle.refusals.specs.declared.Refusal.{Refusal}
use Rattle.refusals.specs.declared.Refusal.TheVariants.{TooLarge, NotSquare, Unequal, Scale, Motion, Short}
use Rattle.std.specs.Prelude.{None}
use Rattle.boxed.specs.Solve.{MAX_MOTION, WORKSPACE, first, refusal}
use Rattle.boxed.specs.Private.{good_scale, good_scale_at, Lent}

first_false : (c : Bool) (k : Refusal) (l : List (Bool × Refusal)) → first ((c, k) ∷ l) ≡ None → (c ≡ false) × (first l ≡ None)
first_false true k l h = cc
first_false false k l h = (refl, h)

pub or_false : (a b : Bool) → a || b ≡ false → (a ≡ false) × (b ≡ false)
or_false true b h = absurd (true≢false h)
or_false false b h = (refl, h)

pub record Accepted (p : Problem) (nu : List Float) (st l : List ℕ) (workspace : ℕ) : Type 0 where
  pub sized : Sized (size p) p.w p.lo p.hi p.scale
  pub values : length nu ≡ size p
  pub work : WORKSPACE ≤ workspace
  pub states : size p ≤ length st
  pub listed : size p ≤ length l

-- all six tests fail
six : (a b c d e f : Bool) → first ((a, TooLarge) ∷ (b, NotSquare) ∷ (c, Unequal) ∷ (d, Scale) ∷ (e, Motion) ∷ (f, Short) ∷ []) ≡ None → (a ≡ false) × (b ≡ false) × (c ≡ false) × (f ≡ false)
six a b c d e f h =
    let h5 = first_false a TooLarge ((b, NotSquare) ∷ (c, Unequal) ∷ (d, Scale) ∷ (e, Motion) ∷ (f, Short) ∷ []) h in
    let h6 = first_false b NotSquare ((c, Unequal) ∷ (d, Scale) ∷ (e, Motion) ∷ (f, Short) ∷ []) h5.1 in
    let h7 = first_false c Unequal ((d, Scale) ∷ (e, Motion) ∷ (f, Short) ∷ []) h6.1 in
    let h8 = first_false d Scale ((e, Motion) ∷ (f, Short) ∷ []) h7.1 in
    let h9 = first_false e Motion ((f, Short) ∷ []) h8.1 in
    (h5.0, h6.0, h7.0, (first_false f Short [] h9.1).0)

-- four lists of n values each
four : (a b c d n : ℕ) → not (eqb a n && eqb b n && eqb c n && eqb d n) ≡ false → (a ≡ n) × (b ≡ n) × (c ≡ n) × (d ≡ n)
four a b c d n h =
    let abcd = both_true (eqb a n && eqb b n && eqb c n) (eqb d n) (not-false (eqb a n && eqb b n && eqb c n && eqb d n) h) in
    let abc = both_true (eqb a n && eqb b n) (eqb c n) abcd.0 in
    let ab = both_true (eqb a n) (eqb b n) abc.0 in
    (eqb-true a n ab.0, eqb-true b n ab.1, eqb-true c n abc.1, eqb-true d n abcd.1)

pub accepted : (p : Problem) (motion nu : List Float) (st l : List ℕ) (workspace : ℕ) → refusal p motion nu st l workspace ≡ None → Accepted p nu st l workspace
unfolding refusal good_scale
accepted p motion nu st l workspace h =
    let n = size p in
    let lengths = eqb (length p.lo) n && eqb (length p.hi) n && eqb (length p.scale) n && eqb (length nu) n in
    let g = six (ltb MAX_ROWS n || ltb MAX_MOTION (length motion)) (not (eqb (length p.w) (n * n))) (not lengths)
    (not (every (good_scale_at p.scale) n)) (ltb 0 n && not (eqb (length motion % n) 0)) (ltb workspace WORKSPACE || ltb (length st) n || ltb (length l) n) h in
    let few = ltb-false MAX_ROWS n (or_false (ltb MAX_ROWS n) (ltb MAX_MOTION (length motion)) g.0).0 in
    let square = eqb-true (length p.w) (n * n) (not-false (eqb (length p.w) (n * n)) g.1) in
    let seven = four (length p.lo) (length p.hi) (length p.scale) (length nu) n g.2 in
    let ten = or_false (ltb workspace WORKSPACE || ltb (length st) n) (ltb (length l) n) g.3 in
    let lent = or_false (ltb workspace WORKSPACE) (ltb (length st) n) ten.0 in
    record {
      sized = (few, square, seven.0, seven.1, seven.2);
      values = seven.3;
      work = ltb-false workspace WORKSPACE lent.0;
      states = ltb-false (length st) n lent.1;
      listed = ltb-false (length l) n ten.1;
    }

-- the solve of the rows is lent enough
pub lent : (p : Problem) (motion nu : List Float) (st l : List ℕ) (work : List Float) → refusal p motion nu st l (length work) ≡ None
    → Lent p (take (size p) st) nu l work
lent p motion nu st l work h =
    let a = accepted p motion nu st l (length work) h in
    record {
      lists = record { states = length-take-le (size p) st a.states; multipliers = a.values };
      listed = a.listed;
      workspace = omega (arith, a.work);
    }
