-- Terms added to the words from one on, or taken from them, one word after the other. Assumes nothing.
use Rattle.std.proofs.Common.{◌≡◌, ℕ, zero, suc, ◌+◌, ◌*◌, ◌%◌, ◌^◌, ◌<◌, Bool, false, List, [], ◌∷◌, length, get_or, set, take, sym, ap, ◌∙◌, subst, pow-add, add-one, arith}
use native.Mathlib.Nat.{pow-zero, pow-succ'}
use Rattle.accumulator.specs.Accumulators.{value_in, base, value, words, size}
use Rattle.accumulator.specs.Steps.{Moved, Words, Carried}
use Rattle.accumulator.proofs.Values.{none-carried, word-carried, settled, size_is}

-- ---- the number of the first words of a list, one word more

up : (b x v u y p : ℕ) → v ≡ u + y * p → x + b * v ≡ x + b * u + y * (b * p)
up b x v u y p h = let g : b * v ≡ b * (u + y * p) = ap (λ (z : ℕ). b * z) h in omega (arith, g)

pub more-digits : (b : ℕ) (l : List ℕ) (i : ℕ) → i < length l → value_in b (take (suc i) l) ≡ value_in b (take i l) + get_or l i 0 * b ^ i
unfolding value_in
more-digits b [] i h = absurd (omega (arith, h))
more-digits b (x ∷ l) zero h = let p : b ^ 0 ≡ 1 = pow-zero b in rw p (omega arith)
more-digits b (x ∷ l) (suc i) h =
    let p : b ^ suc i ≡ b * b ^ i = pow-succ' b i in
    rw p (up b x (value_in b (take (suc i) l)) (value_in b (take i l)) (get_or l i 0) (b ^ i) (more-digits b l i (omega (arith, h))))

-- ---- the loop: i terms are moved to the words from the word k on

pub none-placed : (t : Bool) (l : List ℕ) (k : ℕ) → Words l → Carried t l l (value [] * base ^ k) (0 * base ^ (k + 0))
unfolding value_in
none-placed t l k h = let e : 0 * base ^ k ≡ 0 * base ^ (k + 0) = omega arith in subst (λ (c : ℕ). Carried t l l (0 * base ^ k) c) e (none-carried t l (0 * base ^ k) h)

placed : (v x p q r : ℕ) → q * p ≡ r → (v + x * q) * p ≡ v * p + x * r
placed v x p q r h = let e : x * (q * p) ≡ x * r = ap (λ (y : ℕ). x * y) h in omega (arith, e)

pub term-placed : (t : Bool) (a terms l : List ℕ) (k i w c f : ℕ) → i < length terms → k + i < 67 → w < base
    → Moved t (get_or l (k + i) 0) w (get_or terms i 0 + c) (base * f)
    → Carried t a l (value (take i terms) * base ^ k) (c * base ^ (k + i))
    → Carried t a (set l (k + i) w) (value (take (i + 1) terms) * base ^ k) (f * base ^ (k + (i + 1)))
term-placed t a terms l k i w c f h g b m e =
    let x = get_or terms i 0 in
    let p : base ^ i * base ^ k ≡ base ^ (k + i) = sym (pow-add base i k) ∙ ap (λ (j : ℕ). base ^ j) (omega arith) in
    let one : value (take (i + 1) terms) ≡ value (take i terms) + x * base ^ i = ap (λ (j : ℕ). value (take j terms)) (add-one i) ∙ more-digits base terms i h in
    let n : value (take (i + 1) terms) * base ^ k ≡ value (take i terms) * base ^ k + x * base ^ (k + i)
    = ap (λ (v : ℕ). v * base ^ k) one ∙ placed (value (take i terms)) x (base ^ k) (base ^ i) (base ^ (k + i)) p in
    let j : k + i + 1 ≡ k + (i + 1) = omega arith in
    subst (λ (v : ℕ). Carried t a (set l (k + i) w) v (f * base ^ (k + (i + 1)))) (sym n)
    (subst (λ (y : ℕ). Carried t a (set l (k + i) w) (value (take i terms) * base ^ k + x * base ^ (k + i)) (f * base ^ y)) j
    (word-carried t a l (k + i) w x c f (value (take i terms) * base ^ k) g b m e))

-- ---- all the words of another number

one_word : (v : ℕ) → v * base ^ 0 ≡ v
one_word v = rw (pow-zero base) (omega arith)

pub all_placed : (a b l : List ℕ) (r : ℕ) → length b ≡ 67 → Carried false a l (value b * base ^ 0) (r * base ^ (0 + length b)) → l ≡ words ((value a + value b) % size)
all_placed a b l r h m =
    let n : 0 + length b ≡ 67 = omega arith in
    let whole : base ^ (0 + length b) ≡ size = ap (λ (k : ℕ). base ^ k) n ∙ sym size_is in
    let none : value b * base ^ 0 ≡ value b + 0 * size = one_word (value b) ∙ omega arith in
    settled l (value a + value b) 0 r m.words (ap (λ (p : ℕ). value l + r * p) (sym whole) ∙ m.moved.is ∙ ap (λ (v : ℕ). value a + v) none ∙ omega arith)
