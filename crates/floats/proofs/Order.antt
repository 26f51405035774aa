-- The order of floats: where neither is NaN one of two is at most the other, and for values that a format holds it is the order of whole numbers.
use Prim.Native.Nat.{ℕ, zero, suc, ◌+◌, ◌-◌, ◌*◌, ◌^◌, ◌≤◌, ◌<◌}
use mathlib.Core.Path.{◌≡◌, refl, sym, ◌∙◌, ap}
use mathlib.Core.Bool.{Bool, true, false, not, ◌&&◌, ◌||◌, true≢false}
use native.Mathlib.Omega.{arith}
use native.Mathlib.Nat.{mul-pos, zero-mul, zero-lt-suc}
use lib.IntN.{ℤ}
use lib.Dec.{T, ltb, eqb, eqb_refl}
use lib.Pow.{pow_pos}
use lib.Ieee.{Float, nan, inf, fin, Format, low, up, down, fits, neg, lt, le, eq, below, level}
use lib.Ieee.Bits.{is_true}
use lib.Ieee.Fits.{up_pos, down_pos}
use borrow.Author.Tests.{ltb-true, ltb-false, lt-ltb, le-ltb, eq-eqb, eqb-true}
use Rattle.floats.proofs.Rank.{ticks, ticks-lt, ticks-less, ticks_more, ticks-is, middle}

pub level_self : (s : Bool) (a : ℕ) → level s a s a ≡ true
level_self true a = let e : eqb a a ≡ true = is_true (eqb a a) (eqb_refl a) in rw e
level_self false a = let e : eqb a a ≡ true = is_true (eqb a a) (eqb_refl a) in rw e

-- a value that is at most another, or has another at most, is no NaN
pub le_left : (x y : Float) → le x y ≡ true → eq x x ≡ true
unfolding le lt eq
le_left nan y h = h
le_left (inf true) y h = refl
le_left (inf false) y h = refl
le_left (fin s m e) y h = level_self s (m * up e * down e)

pub le_right : (x y : Float) → le x y ≡ true → eq y y ≡ true
unfolding le lt eq
le_right nan nan h = h
le_right (inf s) nan h = h
le_right (fin s m e) nan h = h
le_right x (inf true) h = refl
le_right x (inf false) h = refl
le_right x (fin s m e) h = level_self s (m * up e * down e)

total_fin : (s t : Bool) (a b : ℕ) → below s a t b ≡ false → below t b s a || level t b s a ≡ true
total_fin false false a b h = go (ltb b a) refl
  where
    go : (c : Bool) → ltb b a ≡ c → ltb b a || level false b false a ≡ true
    go true e = rw e
    go false e = let j = ltb-false b a e in let i = ltb-false a b h in rw (e, eq-eqb b a (omega arith))
total_fin true true a b h = go (ltb a b) refl
  where
    go : (c : Bool) → ltb a b ≡ c → ltb a b || level true b true a ≡ true
    go true e = rw e
    go false e = let j = ltb-false a b e in let i = ltb-false b a h in rw (e, eq-eqb b a (omega arith))
total_fin false true a b h = go (ltb 0 (b + a)) refl
  where
    go : (c : Bool) → ltb 0 (b + a) ≡ c → ltb 0 (b + a) || level true b false a ≡ true
    go true e = rw e
    go false e = let j = ltb-false 0 (b + a) e in rw (e, eq-eqb b a (omega arith), eq-eqb b 0 (omega arith))
total_fin true false a b h = let i = ltb-false 0 (a + b) h in rw (eq-eqb b a (omega arith), eq-eqb b 0 (omega arith))

pub total : (x y : Float) → eq x x ≡ true → eq y y ≡ true → lt x y ≡ false → le y x ≡ true
unfolding le lt eq
total nan y p q h = absurd (true≢false (sym p))
total (inf s) nan p q h = absurd (true≢false (sym q))
total (fin s m e) nan p q h = absurd (true≢false (sym q))
total (inf true) (inf true) p q h = refl
total (inf true) (inf false) p q h = absurd (true≢false h)
total (inf false) (inf true) p q h = refl
total (inf false) (inf false) p q h = refl
total (inf true) (fin t n d) p q h = absurd (true≢false h)
total (inf false) (fin t n d) p q h = refl
total (fin s m e) (inf true) p q h = refl
total (fin s m e) (inf false) p q h = absurd (true≢false h)
total (fin s m e) (fin t n d) p q h = total_fin s t (m * up e * down d) (n * up d * down e) h

-- equal as numbers to itself, so at most itself
pub le_self : (x : Float) → eq x x ≡ true → le x x ≡ true
unfolding le
le_self x h = rw h (mathlib.Core.Bool.or-true (lt x x))

-- ---- opposite values

below-neg : (s t : Bool) (a b : ℕ) → below (not s) a (not t) b ≡ below t b s a
below-neg true true a b = refl
below-neg true false a b = refl
below-neg false true a b = ap (ltb 0) (native.Mathlib.Nat.add_comm a b)
below-neg false false a b = refl

pub lt-neg : (x y : Float) → lt (neg x) (neg y) ≡ lt y x
unfolding lt neg
lt-neg nan nan = refl
lt-neg nan (inf t) = refl
lt-neg nan (fin t n d) = refl
lt-neg (inf s) nan = refl
lt-neg (inf true) (inf true) = refl
lt-neg (inf true) (inf false) = refl
lt-neg (inf false) (inf true) = refl
lt-neg (inf false) (inf false) = refl
lt-neg (inf true) (fin t n d) = refl
lt-neg (inf false) (fin t n d) = refl
lt-neg (fin s m e) nan = refl
lt-neg (fin s m e) (inf true) = refl
lt-neg (fin s m e) (inf false) = refl
lt-neg (fin s m e) (fin t n d) = below-neg s t (m * up e * down d) (n * up d * down e)

-- ---- at most is not above

not-below : (s t : Bool) (a b : ℕ) → below t b s a || level t b s a ≡ true → below s a t b ≡ false
not-below false false a b h = go (ltb b a) refl (eqb b a) refl h
  where
    go : (x : Bool) → ltb b a ≡ x → (y : Bool) → eqb b a ≡ y → x || (y && true) ≡ true → ltb a b ≡ false
    go true e y k w = let i = ltb-true b a e in le-ltb a b (omega arith)
    go false e true k w = let i = eqb-true b a k in le-ltb a b (omega arith)
    go false e false k w = absurd (true≢false (sym w))
not-below false true a b h = refl
not-below true false a b h = go (eqb b a) refl (eqb b 0) refl h
  where
    go : (x : Bool) → eqb b a ≡ x → (y : Bool) → eqb b 0 ≡ y → x && y ≡ true → ltb 0 (a + b) ≡ false
    go true e true k w = let i = eqb-true b a e in let j = eqb-true b 0 k in le-ltb 0 (a + b) (omega arith)
    go true e false k w = absurd (true≢false (sym w))
    go false e y k w = absurd (true≢false (sym w))
not-below true true a b h = go (ltb a b) refl (eqb b a) refl h
  where
    go : (x : Bool) → ltb a b ≡ x → (y : Bool) → eqb b a ≡ y → x || (y && true) ≡ true → ltb b a ≡ false
    go true e y k w = let i = ltb-true a b e in le-ltb b a (omega arith)
    go false e true k w = let i = eqb-true b a k in le-ltb b a (omega arith)
    go false e false k w = absurd (true≢false (sym w))

pub not-above : (x y : Float) → le y x ≡ true → lt x y ≡ false
unfolding le lt eq
not-above nan y h = refl
not-above (inf s) nan h = refl
not-above (fin s m e) nan h = refl
not-above (inf true) (inf true) h = refl
not-above (inf true) (inf false) h = absurd (true≢false (sym h))
not-above (inf false) (inf t) h = refl
not-above (inf true) (fin t n d) h = absurd (true≢false (sym h))
not-above (inf false) (fin t n d) h = refl
not-above (fin s m e) (inf true) h = refl
not-above (fin s m e) (inf false) h = absurd (true≢false (sym h))
not-above (fin s m e) (fin t n d) h = not-below s t (m * up e * down d) (n * up d * down e) h

pub lt_self : (x : Float) → lt x x ≡ false
unfolding lt
lt_self nan = refl
lt_self (inf true) = refl
lt_self (inf false) = refl
lt_self (fin true m e) = le-ltb (m * up e * down e) (m * up e * down e) (omega arith)
lt_self (fin false m e) = le-ltb (m * up e * down e) (m * up e * down e) (omega arith)

pub equal : (x y : Float) → eq x x ≡ true → eq y y ≡ true → lt x y ≡ false → lt y x ≡ false → eq x y ≡ true
unfolding le
equal x y i j h k = sym (ap (λ (b : Bool). b || eq x y) h) ∙ total y x j i k

-- ---- the order of values that a format holds is that of whole numbers

unfoldable pub place : Format → Float → ℕ
place f nan = 0
place f (inf true) = 0
place f (fin true m e) = suc (middle f) - ticks f m e
place f (fin false m e) = suc (middle f) + ticks f m e
place f (inf false) = suc (suc (middle f + middle f))

ticks-zero : (f : Format) (e : ℤ) → ticks f zero e ≡ 0
unfolding ticks
ticks-zero f e = rw (zero-mul (up e), zero-mul (2 ^ low f)) (native.Mathlib.Nat.zero-div (down e))

pub ticks_pos : (f : Format) (s : Bool) (m : ℕ) (e : ℤ) → T (fits f (fin s (suc m) e)) → 0 < ticks f (suc m) e
ticks_pos f s m e p = go (ticks f (suc m) e) (ticks-is f s (suc m) e p)
  where
    go : (t : ℕ) → t * down e ≡ suc m * up e * 2 ^ low f → 0 < t
    go zero h = let g : 0 < suc m * up e * 2 ^ low f = mul-pos (mul-pos (zero-lt-suc m) (up_pos e)) (pow_pos (low f)) in let z = zero-mul (down e) in omega arith
    go (suc t) h = zero-lt-suc t

same_test : (a b x y : ℕ) → (a < b → x < y) → (b ≤ a → y ≤ x) → ltb a b ≡ ltb x y
same_test a b x y p q = go (ltb a b) refl
  where
    go : (c : Bool) → ltb a b ≡ c → c ≡ ltb x y
    go true e = sym (lt-ltb x y (p (ltb-true a b e)))
    go false e = sym (le-ltb x y (q (ltb-false a b e)))

minus_plus : (f : Format) (m n : ℕ) (e d : ℤ) → T (fits f (fin true m e)) → T (fits f (fin false n d))
    → ltb 0 (m * up e * down d + n * up d * down e) ≡ ltb (suc (middle f) - ticks f m e) (suc (middle f) + ticks f n d)
minus_plus f zero zero e d p q =
    let a : 0 * up e * down d ≡ 0 = ap (λ (x : ℕ). x * down d) (zero-mul (up e)) ∙ zero-mul (down d) in
    let b : 0 * up d * down e ≡ 0 = ap (λ (x : ℕ). x * down e) (zero-mul (up d)) ∙ zero-mul (down e) in
    let u = ticks-zero f e in
    let v = ticks-zero f d in
    le-ltb 0 (0 * up e * down d + 0 * up d * down e) (omega arith) ∙ sym (le-ltb (suc (middle f) - ticks f 0 e) (suc (middle f) + ticks f 0 d) (omega arith))
minus_plus f (suc m) n e d p q =
    let a : 0 < suc m * up e * down d = mul-pos (mul-pos (zero-lt-suc m) (up_pos e)) (down_pos d) in
    let u = ticks_pos f true m e p in
    let v = ticks-lt f true (suc m) e p in
    lt-ltb 0 (suc m * up e * down d + n * up d * down e) (omega arith) ∙ sym (lt-ltb (suc (middle f) - ticks f (suc m) e) (suc (middle f) + ticks f n d) (omega arith))
minus_plus f zero (suc n) e d p q =
    let b : 0 < suc n * up d * down e = mul-pos (mul-pos (zero-lt-suc n) (up_pos d)) (down_pos e) in
    let u = ticks_pos f false n d q in
    lt-ltb 0 (0 * up e * down d + suc n * up d * down e) (omega arith) ∙ sym (lt-ltb (suc (middle f) - ticks f 0 e) (suc (middle f) + ticks f (suc n) d) (omega arith))

pub lt-place : (f : Format) (x y : Float) → T (fits f x) → T (fits f y) → eq x x ≡ true → eq y y ≡ true → lt x y ≡ ltb (place f x) (place f y)
unfolding lt place eq
lt-place f nan y p q i j = absurd (true≢false (sym i))
lt-place f (inf s) nan p q i j = absurd (true≢false (sym j))
lt-place f (fin s m e) nan p q i j = absurd (true≢false (sym j))
lt-place f (inf true) (inf true) p q i j = refl
lt-place f (inf true) (inf false) p q i j = sym (lt-ltb 0 (suc (suc (middle f + middle f))) (omega arith))
lt-place f (inf false) (inf true) p q i j = sym (le-ltb (suc (suc (middle f + middle f))) 0 (omega arith))
lt-place f (inf false) (inf false) p q i j = sym (le-ltb (suc (suc (middle f + middle f))) (suc (suc (middle f + middle f))) (omega arith))
lt-place f (inf true) (fin true n d) p q i j = let h = ticks-lt f true n d q in sym (lt-ltb 0 (suc (middle f) - ticks f n d) (omega arith))
lt-place f (inf true) (fin false n d) p q i j = sym (lt-ltb 0 (suc (middle f) + ticks f n d) (omega arith))
lt-place f (inf false) (fin true n d) p q i j = sym (le-ltb (suc (suc (middle f + middle f))) (suc (middle f) - ticks f n d) (omega arith))
lt-place f (inf false) (fin false n d) p q i j = let h = ticks-lt f false n d q in sym (le-ltb (suc (suc (middle f + middle f))) (suc (middle f) + ticks f n d) (omega arith))
lt-place f (fin true m e) (inf true) p q i j = sym (le-ltb (suc (middle f) - ticks f m e) 0 (omega arith))
lt-place f (fin true m e) (inf false) p q i j = sym (lt-ltb (suc (middle f) - ticks f m e) (suc (suc (middle f + middle f))) (omega arith))
lt-place f (fin false m e) (inf true) p q i j = sym (le-ltb (suc (middle f) + ticks f m e) 0 (omega arith))
lt-place f (fin false m e) (inf false) p q i j = let h = ticks-lt f false m e p in sym (lt-ltb (suc (middle f) + ticks f m e) (suc (suc (middle f + middle f))) (omega arith))
lt-place f (fin false m e) (fin false n d) p q i j =
    same_test (m * up e * down d) (n * up d * down e) (suc (middle f) + ticks f m e) (suc (middle f) + ticks f n d)
    (λ h. omega (arith, ticks-less f false false m n e d p q h)) (λ h. omega (arith, ticks_more f false false m n e d p q h))
lt-place f (fin true m e) (fin true n d) p q i j =
    same_test (n * up d * down e) (m * up e * down d) (suc (middle f) - ticks f m e) (suc (middle f) - ticks f n d)
    (λ h. omega (arith, ticks-less f true true n m d e q p h, ticks-lt f true m e p, ticks-lt f true n d q))
    (λ h. omega (arith, ticks_more f true true n m d e q p h, ticks-lt f true m e p, ticks-lt f true n d q))
lt-place f (fin false m e) (fin true n d) p q i j = sym (le-ltb (suc (middle f) + ticks f m e) (suc (middle f) - ticks f n d) (omega arith))
lt-place f (fin true m e) (fin false n d) p q i j = minus_plus f m n e d p q

pub lt-left : (x y : Float) → lt x y ≡ true → eq x x ≡ true
lt-left x y h = le_left x y (unfold le in ap (λ (b : Bool). b || eq x y) h)

pub lt-right : (x y : Float) → lt x y ≡ true → eq y y ≡ true
lt-right x y h = le_right x y (unfold le in ap (λ (b : Bool). b || eq x y) h)

module _ (f : Format) (x y z : Float) (p : T (fits f x)) (q : T (fits f y)) (r : T (fits f z)) where
  pub le-lt : le x y ≡ true → lt y z ≡ true → lt x z ≡ true
  le-lt h k =
      let i = le_left x y h in
      let j = le_right x y h in
      let l = lt-right y z k in
      let a = ltb-false (place f y) (place f x) (sym (lt-place f y x q p j i) ∙ not-above y x h) in
      let b = ltb-true (place f y) (place f z) (sym (lt-place f y z q r j l) ∙ k) in
      lt-place f x z p r i l ∙ lt-ltb (place f x) (place f z) (omega arith)

  pub lt-le : lt x y ≡ true → le y z ≡ true → lt x z ≡ true
  lt-le h k =
      let i = lt-left x y h in
      let j = le_left y z k in
      let l = le_right y z k in
      let a = ltb-true (place f x) (place f y) (sym (lt-place f x y p q i j) ∙ h) in
      let b = ltb-false (place f z) (place f y) (sym (lt-place f z y r q l j) ∙ not-above z y k) in
      lt-place f x z p r i l ∙ lt-ltb (place f x) (place f z) (omega arith)
