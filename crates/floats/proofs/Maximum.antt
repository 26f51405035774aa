-- `larger` picks the value of higher rank. So on values that binary64 holds it is commutative, associative, and its result is one of the two.
use Prim.Native.Nat.{ℕ, zero, suc, ◌+◌, ◌-◌, ◌*◌, ◌<◌}
use mathlib.Core.Path.{◌≡◌, refl, sym, ◌∙◌, ap}
use mathlib.Core.Bool.{Bool, true, false, cond}
use native.Mathlib.Omega.{arith}
use native.Mathlib.Nat.{mul-pos, zero-lt-suc}
use lib.IntN.{ℤ}
use lib.Dec.{ltb, eqb}
use lib.Ieee.{Float, nan, inf, fin, binary64, up, down, of_bits, add, sum, lt, eq, ne, below}
use lib.Ieee.Fits.{up_pos, down_pos, cond-fits}
use borrow.Author.Tests.{ltb-true, ltb-false, lt-ltb, le-ltb, ne_eqb}
use Rattle.floats.specs.Ops.{◌⊕◌, 0ᶠ, Fits}
use Rattle.floats.specs.Helpers.{larger}
use Rattle.floats.proofs.Order.{level_self}
use Rattle.floats.proofs.Rank.{ticks, ticks-lt, ticks-less, ticks_more, ticks_inj, zero_is, rank, rank_inj, middle}

cond_same : {A : Type 0} (b : Bool) (x y : A) → x ≡ y → cond b y x ≡ x
cond_same true x y h = sym h
cond_same false x y h = refl

pub not-zero : (s : Bool) (m : ℕ) (e : ℤ) → eq (fin s (suc m) e) 0ᶠ ≡ false
unfolding eq of_bits
not-zero s m e =
    let h : 0 < suc m * up e * 1 = mul-pos (mul-pos (zero-lt-suc m) (up_pos e)) (zero-lt-suc 0) in
    let z : 0 * 1 * down e ≡ 0 = native.Mathlib.Nat.zero-mul (down e) in
    let g : eqb (suc m * up e * 1) (0 * 1 * down e) ≡ false = ne_eqb (suc m * up e * 1) (0 * 1 * down e) (λ k. omega arith) in
    rw g

-- the sum of a zero and itself is that zero
tie : (x y : Float) → Fits x → x ≡ y → cond (eq x 0ᶠ) (x ⊕ y) x ≡ x
unfolding eq of_bits add sum
tie nan y p h = refl
tie (inf s) y p h = refl
tie (fin s (suc m) e) y p h = ap (λ (b : Bool). cond b (fin s (suc m) e ⊕ y) (fin s (suc m) e)) (not-zero s m e)
tie (fin true zero e) y p h = rw (← h, zero_is binary64 true e p)
tie (fin false zero e) y p h = rw (← h, zero_is binary64 false e p)

module _ (s t : Bool) (m n : ℕ) (e d : ℤ) where
  larger_fin : larger (fin s m e) (fin t n d) ≡ cond (below s (m * up e * down d) t (n * up d * down e)) (fin t n d)
      (cond (below t (n * up d * down e) s (m * up e * down d)) (fin s m e) (cond (eq (fin s m e) 0ᶠ) (fin s m e ⊕ fin t n d) (fin s m e)))
  unfolding larger ne eq lt
  larger_fin = rw (level_self s (m * up e * down e), level_self t (n * up d * down d))

-- one sign: x and y of products a and b, ranks r and k
same_sign : (x y : Float) (a b r k : ℕ) → Fits x → (a < b → r < k) → (b < a → k < r) → (a ≡ b → x ≡ y)
    → cond (ltb a b) y (cond (ltb b a) x (cond (eq x 0ᶠ) (x ⊕ y) x)) ≡ cond (ltb r k) y x
same_sign x y a b r k p l g s = go (ltb a b) refl (ltb b a) refl
  where
    go : (u : Bool) → ltb a b ≡ u → (v : Bool) → ltb b a ≡ v → cond u y (cond v x (cond (eq x 0ᶠ) (x ⊕ y) x)) ≡ cond (ltb r k) y x
    go true i v j = rw (lt-ltb r k (l (ltb-true a b i)))
    go false i true j = rw (le-ltb r k (native.Mathlib.Nat.le_of_lt (g (ltb-true b a j))))
    go false i false j =
        let c = ltb-false a b i in
        let c' = ltb-false b a j in
        let h : a ≡ b = omega arith in
        tie x y p (s h) ∙ sym (cond_same (ltb r k) x y (s h))

pos-product : (m : ℕ) (e d : ℤ) → 0 < suc m * up e * down d
pos-product m e d = mul-pos (mul-pos (zero-lt-suc m) (up_pos e)) (down_pos d)

-- +x and -y
plus_minus : (m n : ℕ) (e d : ℤ) → Fits (fin false m e) → Fits (fin true n d)
    → cond (ltb 0 (n * up d * down e + m * up e * down d)) (fin false m e) (cond (eq (fin false m e) 0ᶠ) (fin false m e ⊕ fin true n d) (fin false m e)) ≡ fin false m e
unfolding eq of_bits add sum
plus_minus zero zero e d p q = rw (zero_is binary64 false e p, zero_is binary64 true d q)
plus_minus zero (suc n) e d p q = let h = pos-product n d e in rw (lt-ltb 0 (suc n * up d * down e + 0 * up e * down d) (omega arith))
plus_minus (suc m) n e d p q = let h = pos-product m e d in rw (lt-ltb 0 (n * up d * down e + suc m * up e * down d) (omega arith))

-- -x and +y
minus_plus : (m n : ℕ) (e d : ℤ) → Fits (fin true m e) → Fits (fin false n d)
    → cond (ltb 0 (m * up e * down d + n * up d * down e)) (fin false n d) (cond (eq (fin true m e) 0ᶠ) (fin true m e ⊕ fin false n d) (fin true m e)) ≡ fin false n d
unfolding eq of_bits add sum
minus_plus zero zero e d p q = rw (zero_is binary64 true e p, zero_is binary64 false d q)
minus_plus zero (suc n) e d p q = let h = pos-product n d e in rw (lt-ltb 0 (0 * up e * down d + suc n * up d * down e) (omega arith))
minus_plus (suc m) n e d p q = let h = pos-product m e d in rw (lt-ltb 0 (suc m * up e * down d + n * up d * down e) (omega arith))

abbrev r : Float → ℕ
r = rank binary64

pub larger-rank : (x y : Float) → Fits x → Fits y → larger x y ≡ cond (ltb (r x) (r y)) y x
unfolding larger ne eq lt rank of_bits
larger-rank nan nan p q = refl
larger-rank nan (inf true) p q = refl
larger-rank nan (inf false) p q = rw (lt-ltb 0 (suc (suc (suc (middle binary64 + middle binary64)))) (omega arith))
larger-rank nan (fin true n d) p q = let h = ticks-lt binary64 true n d q in rw (lt-ltb 0 (suc (middle binary64) - ticks binary64 n d) (omega arith))
larger-rank nan (fin false n d) p q = rw (lt-ltb 0 (suc (suc (middle binary64)) + ticks binary64 n d) (omega arith))
larger-rank (inf true) nan p q = refl
larger-rank (inf true) (inf true) p q = refl
larger-rank (inf true) (inf false) p q = rw (lt-ltb 1 (suc (suc (suc (middle binary64 + middle binary64)))) (omega arith))
larger-rank (inf true) (fin true n d) p q = let h = ticks-lt binary64 true n d q in rw (level_self true (n * up d * down d), lt-ltb 1 (suc (middle binary64) - ticks binary64 n d) (omega arith))
larger-rank (inf true) (fin false n d) p q = rw (level_self false (n * up d * down d), lt-ltb 1 (suc (suc (middle binary64)) + ticks binary64 n d) (omega arith))
larger-rank (inf false) nan p q = rw (le-ltb (suc (suc (suc (middle binary64 + middle binary64)))) 0 (omega arith))
larger-rank (inf false) (inf true) p q = rw (le-ltb (suc (suc (suc (middle binary64 + middle binary64)))) 1 (omega arith))
larger-rank (inf false) (inf false) p q = sym (cond_same (ltb (r (inf false)) (r (inf false))) (inf false) (inf false) refl)
larger-rank (inf false) (fin true n d) p q = let h = ticks-lt binary64 true n d q in rw (level_self true (n * up d * down d), le-ltb (suc (suc (suc (middle binary64 + middle binary64)))) (suc (middle binary64) - ticks binary64 n d) (omega arith))
larger-rank (inf false) (fin false n d) p q = let h = ticks-lt binary64 false n d q in rw (level_self false (n * up d * down d), le-ltb (suc (suc (suc (middle binary64 + middle binary64)))) (suc (suc (middle binary64)) + ticks binary64 n d) (omega arith))
larger-rank (fin true m e) nan p q = let h = ticks-lt binary64 true m e p in rw (level_self true (m * up e * down e), le-ltb (suc (middle binary64) - ticks binary64 m e) 0 (omega arith))
larger-rank (fin true m e) (inf true) p q = let h = ticks-lt binary64 true m e p in rw (level_self true (m * up e * down e), le-ltb (suc (middle binary64) - ticks binary64 m e) 1 (omega arith))
larger-rank (fin true m e) (inf false) p q = let h = ticks-lt binary64 true m e p in rw (level_self true (m * up e * down e), lt-ltb (suc (middle binary64) - ticks binary64 m e) (suc (suc (suc (middle binary64 + middle binary64)))) (omega arith))
larger-rank (fin false m e) nan p q = rw (level_self false (m * up e * down e), le-ltb (suc (suc (middle binary64)) + ticks binary64 m e) 0 (omega arith))
larger-rank (fin false m e) (inf true) p q = rw (level_self false (m * up e * down e), le-ltb (suc (suc (middle binary64)) + ticks binary64 m e) 1 (omega arith))
larger-rank (fin false m e) (inf false) p q = let h = ticks-lt binary64 false m e p in rw (level_self false (m * up e * down e), lt-ltb (suc (suc (middle binary64)) + ticks binary64 m e) (suc (suc (suc (middle binary64 + middle binary64)))) (omega arith))
larger-rank (fin false m e) (fin false n d) p q =
    larger_fin false false m n e d
    ∙ same_sign (fin false m e) (fin false n d) (m * up e * down d) (n * up d * down e) (r (fin false m e)) (r (fin false n d)) p
    (λ h. omega (arith, ticks-less binary64 false false m n e d p q h))
    (λ h. omega (arith, ticks-less binary64 false false n m d e q p h))
    (λ h. ticks_inj binary64 false m n e d p q (native.Mathlib.Nat.le_antisymm (ticks_more binary64 false false n m d e q p (native.Mathlib.Nat.le_of_eq h)) (ticks_more binary64 false false m n e d p q (native.Mathlib.Nat.le_of_eq (sym h)))))
larger-rank (fin true m e) (fin true n d) p q =
    larger_fin true true m n e d
    ∙ same_sign (fin true m e) (fin true n d) (n * up d * down e) (m * up e * down d) (r (fin true m e)) (r (fin true n d)) p
    (λ h. omega (arith, ticks-less binary64 true true n m d e q p h, ticks-lt binary64 true m e p, ticks-lt binary64 true n d q))
    (λ h. omega (arith, ticks-less binary64 true true m n e d p q h, ticks-lt binary64 true m e p, ticks-lt binary64 true n d q))
    (λ h. ticks_inj binary64 true m n e d p q (native.Mathlib.Nat.le_antisymm (ticks_more binary64 true true n m d e q p (native.Mathlib.Nat.le_of_eq (sym h))) (ticks_more binary64 true true m n e d p q (native.Mathlib.Nat.le_of_eq h))))
larger-rank (fin false m e) (fin true n d) p q =
    larger_fin false true m n e d ∙ plus_minus m n e d p q
    ∙ sym (ap (λ (b : Bool). cond b (fin true n d) (fin false m e)) (le-ltb (suc (suc (middle binary64)) + ticks binary64 m e) (suc (middle binary64) - ticks binary64 n d) (omega (arith, ticks-lt binary64 true n d q))))
larger-rank (fin true m e) (fin false n d) p q =
    larger_fin true false m n e d ∙ minus_plus m n e d p q
    ∙ sym (ap (λ (b : Bool). cond b (fin false n d) (fin true m e)) (lt-ltb (suc (middle binary64) - ticks binary64 m e) (suc (suc (middle binary64)) + ticks binary64 n d) (omega (arith, ticks-lt binary64 true m e p))))

-- ---- the laws

pub larger-fits : (x y : Float) → Fits x → Fits y → Fits (larger x y)
larger-fits x y p q = rw (larger-rank x y p q) (cond-fits binary64 (ltb (r x) (r y)) y x q p)

pub larger_comm : (x y : Float) → Fits x → Fits y → larger x y ≡ larger y x
larger_comm x y p q = larger-rank x y p q ∙ go (ltb (r x) (r y)) refl (ltb (r y) (r x)) refl ∙ sym (larger-rank y x q p)
  where
    go : (a : Bool) → ltb (r x) (r y) ≡ a → (b : Bool) → ltb (r y) (r x) ≡ b → cond a y x ≡ cond b x y
    go true h true k = let i = ltb-true (r x) (r y) h in let j = ltb-true (r y) (r x) k in absurd (omega arith)
    go true h false k = refl
    go false h true k = refl
    go false h false k = let i = ltb-false (r x) (r y) h in let j = ltb-false (r y) (r x) k in rank_inj binary64 x y p q (omega arith)

-- the rank of the larger is the larger rank, so the order of joining is that of ℕ
larger-max : (x y : Float) → Fits x → Fits y → r (larger x y) ≡ Prim.Native.Nat.max (r x) (r y)
larger-max x y p q = rw (larger-rank x y p q) (go (ltb (r x) (r y)) refl)
  where
    go : (a : Bool) → ltb (r x) (r y) ≡ a → r (cond a y x) ≡ Prim.Native.Nat.max (r x) (r y)
    go true h = let i = ltb-true (r x) (r y) h in omega arith
    go false h = let i = ltb-false (r x) (r y) h in omega arith

pub larger_assoc : (x y z : Float) → Fits x → Fits y → Fits z → larger (larger x y) z ≡ larger x (larger y z)
larger_assoc x y z p q s =
    rank_inj binary64 (larger (larger x y) z) (larger x (larger y z)) (larger-fits (larger x y) z (larger-fits x y p q) s) (larger-fits x (larger y z) p (larger-fits y z q s))
    (omega (arith, larger-max (larger x y) z (larger-fits x y p q) s, larger-max x y p q, larger-max x (larger y z) p (larger-fits y z q s), larger-max y z q s))
