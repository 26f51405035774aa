-- Terms by sign and magnitude. Assumes nothing.
use Rattle.std.proofs.Common.{◌≡◌, ℕ, zero, suc, ◌+◌, ◌*◌, ◌^◌, Bool, true, false, List, ℤ, pos, ◌*ℤ◌, neg_ℤ, sym, refl, ap, ◌∙◌, mul_assoc, mul-zero, zero-mul, arith, pow-add}
use lib.Ieee.{Float, unlike}
use Rattle.accumulator.specs.Accumulators.{signed, units, free_term, product_term, added}
use Rattle.accumulator.specs.Steps.{Scales}
use Rattle.accumulator.specs.declared.term.Scaled.{Scaled}

pub signed_mul : (s t : Bool) (a b : ℕ) → signed s a *ℤ signed t b ≡ signed (unlike s t) (a * b)
signed_mul false false a b = refl
signed_mul true false zero b = ap (λ (x : ℕ). pos x) (zero-mul b) ∙ sym (ap (λ (x : ℕ). neg_ℤ (pos x)) (zero-mul b))
signed_mul true false (suc a) b = refl
signed_mul false true a zero = ap (λ (x : ℕ). pos x) (mul-zero a) ∙ sym (ap (λ (x : ℕ). neg_ℤ (pos x)) (mul-zero a))
signed_mul false true a (suc b) = refl
signed_mul true true zero zero = refl
signed_mul true true zero (suc b) = ap neg_ℤ (ap (λ (x : ℕ). pos x) (zero-mul (suc b))) ∙ sym (ap (λ (x : ℕ). pos x) (zero-mul (suc b)))
signed_mul true true (suc a) zero = ap neg_ℤ (ap (λ (x : ℕ). pos x) (mul-zero (suc a))) ∙ sym (ap (λ (x : ℕ). pos x) (mul-zero (suc a)))
signed_mul true true (suc a) (suc b) = refl

plain : (s : Bool) → unlike s false ≡ s
plain true = refl
plain false = refl

pub free-is : (u : Float) (x : Scaled) → Scales u x → signed x.negative (x.digits * 2 ^ (x.places + 1074)) ≡ free_term u
unfolding free_term
free-is u x h =
    let s = x.negative in
    let d = x.digits in
    let p = x.places in
    sym (ap (λ (z : ℤ). z *ℤ pos (2 ^ 1074)) h.same
    ∙ signed_mul s false (d * 2 ^ p) (2 ^ 1074)
    ∙ ap (λ (t : Bool). signed t (d * 2 ^ p * 2 ^ 1074)) (plain s)
    ∙ ap (λ (n : ℕ). signed s n) (mul_assoc d (2 ^ p) (2 ^ 1074) ∙ ap (λ (n : ℕ). d * n) (sym (pow-add 2 p 1074))))

both_up : (d e n m : ℕ) → d * n * (e * m) ≡ d * e * (n * m)
both_up d e n m = omega arith

pub product_is : (w v : Float) (x y : Scaled) → Scales w x → Scales v y
    → signed (unlike x.negative y.negative) (x.digits * y.digits * 2 ^ (x.places + y.places)) ≡ product_term w v
unfolding product_term
product_is w v x y g h =
    let d = x.digits * 2 ^ x.places in
    let e = y.digits * 2 ^ y.places in
    let s = unlike x.negative y.negative in
    sym (ap (λ (z : ℤ). z *ℤ units v) g.same
    ∙ ap (λ (z : ℤ). signed x.negative d *ℤ z) h.same
    ∙ signed_mul x.negative y.negative d e
    ∙ ap (λ (n : ℕ). signed s n) (both_up x.digits y.digits (2 ^ x.places) (2 ^ y.places) ∙ ap (λ (n : ℕ). x.digits * y.digits * n) (sym (pow-add 2 x.places y.places))))

-- what was added, said otherwise
pub as_said : (l l' : List ℕ) (s t : Bool) (n m : ℕ) → l' ≡ added l (signed s n) → n ≡ m → t ≡ s → l' ≡ added l (signed t m)
as_said l l' s t n m h e f = cc
