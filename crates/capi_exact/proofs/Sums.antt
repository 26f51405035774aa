-- Exact sums by plain numbers: what the tests of lengths tell, and what a copy leaves. Assumes nothing.
use Rattle.std.proofs.Common.{◌≡◌, ℕ, suc, ◌+◌, ◌≤◌, Bool, true, false, leb, List, ◌++◌, length, take, drop, ◌∙◌, Result, Ok, refl, ap, sym, leb-true, le-leb, arith, ℤ, pos, negsuc, zero, set}
use mir.Syntax.{w8}
use mir.Val.{to_z, of_z}
use Rattle.std.proofs.lemmas.List.Edits.{sets-eq}
use Rattle.loops.specs.Loops.{pasted}
use Rattle.loops.proofs.Every.{both_true}
use Rattle.nearest.specs.ToNearest.{nearest}
use lib.Ieee.{Float}
use Rattle.capi_exact.specs.ExactNearest.{Answered, taken as fits}
use Rattle.accumulator.specs.Accumulators.{meaning, sign_of}
use Rattle.accumulator.specs.declared.Accumulator.{Accumulator}
use Rattle.refusals.specs.declared.Refusal.{Refusal}
use Rattle.capi_exact.specs.Exact.{state, taken, reply, held, Left, sign_taken, Signed}

pub row_room : (words counts : List ℕ) → taken words counts ≡ true → (67 ≤ length words) × (2 ≤ length counts)
unfolding taken
row_room words counts h = let x = both_true (leb 67 (length words)) (leb 2 (length counts)) h in (leb-true 67 (length words) x.0, leb-true 2 (length counts) x.1)

pub room : (words counts : List ℕ) (a : Accumulator) → held words counts ≡ Ok a → (67 ≤ length words) × (2 ≤ length counts)
room words counts a h = row_room words counts (go (taken words counts) refl h)
  where
    go : (b : Bool) → taken words counts ≡ b → reply b (Ok (state words counts)) ≡ Ok a → b ≡ true
    go true e f = refl
    go false e f = cc

pub pasted_front : (r l : List ℕ) → length r ≡ 67 → 67 ≤ length l → r ++ drop 67 l ≡ pasted r l
pasted_front r l h g =
    let e : 0 + length r ≡ 67 = omega (arith, h) in
    sym (sets-eq r l 0 (omega (arith, h, g)) ∙ ap (λ (n : ℕ). r ++ drop n l) e)

-- a call whose slices are too short
pub left-short : (x : Result Accumulator Refusal) (b : Bool) (words counts : List ℕ) → b ≡ false → Left (reply b x) 10 words words counts counts
left-short x b words counts h = rw h (record { number_is = refl; words_are = refl; counts_are = refl })

-- ---- the sign

-- a sign is stored in eight bits, and is the same when it is read there
eight-bits : (y : ℤ) → to_z w8 (of_z w8 (sign_of y)) ≡ sign_of y
eight-bits (pos zero) = refl
eight-bits (pos (suc n)) = refl
eight-bits (negsuc n) = refl

pub sign_left : (words l : List ℕ) (sign : List ℤ) (z : ℤ) → 67 ≤ length words → 1 ≤ length sign → l ≡ take 67 words → z ≡ sign_of (meaning l)
    → Signed (sign_taken words sign) 0 words sign (set sign 0 (to_z w8 (of_z w8 z)))
unfolding sign_taken
sign_left words l sign z h g e f =
    let t : to_z w8 (of_z w8 z) ≡ sign_of (meaning (take 67 words))
    = ap (λ (y : ℤ). to_z w8 (of_z w8 y)) f ∙ eight-bits (meaning l) ∙ ap (λ (k : List ℕ). sign_of (meaning k)) e in
    rw (le-leb 67 (length words) h, le-leb 1 (length sign) g) (record { number_is = refl; sign_is = ap (λ (y : ℤ). set sign 0 y) t })

-- ---- the nearest f64

pub nearest_left : (words l : List ℕ) (result : List Float) (v : Float) → 67 ≤ length words → 1 ≤ length result → l ≡ take 67 words → v ≡ nearest (meaning l)
    → Answered words 0 result (set result 0 v)
unfolding fits
nearest_left words l result v h g e f =
    let t : fits words result ≡ true = rw (le-leb 67 (length words) h, le-leb 1 (length result) g) in
    record { number_is = rw t; result_is = rw t (ap (set result 0) (f ∙ ap (λ (k : List ℕ). nearest (meaning k)) e)) }
