-- Numbers in words: what a stored word does to the number, and that a number below size has one list of 67 words. Assumes nothing.
use Rattle.std.proofs.Common.{◌≡◌, ℕ, zero, suc, ◌+◌, ◌-◌, ◌*◌, ◌/◌, ◌%◌, ◌^◌, ◌<◌, ◌≤◌, Bool, true, false, List, [], ◌∷◌, length, get_or, set, sym, refl, ap, ◌∙◌, subst, mod-lt, mod-eq_of_lt, mul-le-mul_left, pow-suc, div-add-mod', zero-add, add-one, arith, pow_pos, length-set}
use lib.Arith.{mod-mul}
use native.Mathlib.Nat.{one-le-pow, mod-one, pow-succ', pow-zero, div-eq_of_lt, zero-mod, add-mul-mod_self_left, add-mul-mod_self_right, add-mul-div_left}
use Rattle.accumulator.specs.Accumulators.{value_in, digits_in, base, value, words, size, residue, signed, added}
use Rattle.accumulator.specs.Steps.{Moved, Words, Carried}

-- ---- a word stored, over any base b

pub one_more : (b i : ℕ) → b ^ (i + 1) ≡ b * b ^ i
one_more b i = ap (λ (j : ℕ). b ^ j) (add-one i) ∙ pow-succ' b i

-- the step of the induction: what holds of the tail, times b
up : (b x v u o w p : ℕ) → v + o * p ≡ u + w * p → x + b * v + o * (b * p) ≡ x + b * u + w * (b * p)
up b x v u o w p h = let g : b * (v + o * p) ≡ b * (u + w * p) = ap (λ (y : ℕ). b * y) h in omega (arith, g)

zeroth : (b x w v : ℕ) → w + b * v + x * 1 ≡ x + b * v + w * 1
zeroth b x w v = omega arith

pub stored : (b : ℕ) (l : List ℕ) (i w : ℕ) → i < length l → value_in b (set l i w) + get_or l i 0 * b ^ i ≡ value_in b l + w * b ^ i
unfolding value_in
stored b [] i w h = absurd (omega (arith, h))
stored b (x ∷ l) zero w h = let p : b ^ 0 ≡ 1 = pow-zero b in rw p (zeroth b x w (value_in b l))
stored b (x ∷ l) (suc i) w h =
    let p : b ^ suc i ≡ b * b ^ i = pow-succ' b i in
    rw p (up b x (value_in b (set l i w)) (value_in b l) (get_or l i 0) w (b ^ i) (stored b l i w (omega (arith, h))))

-- ---- terms moved to the number of 67 words, or from it: t says which, and what is carried is moved in turn

pub none-carried : (t : Bool) (l : List ℕ) (n : ℕ) → Words l → Carried t l l n n
none-carried false l n h = record { moved = record { is = refl }; words = h }
none-carried true l n h = record { moved = record { is = refl }; words = h }

moved_on : (t : Bool) (a b d n c e : ℕ) → Moved t a b n c → Moved t b d c e → Moved t a d n e
moved_on false a b d n c e h g = record { is = omega (arith, h.is, g.is) }
moved_on true a b d n c e h g = record { is = omega (arith, h.is, g.is) }

pub carried_on : (t : Bool) (a b d : List ℕ) (n c e : ℕ) → Carried t a b n c → Carried t b d c e → Carried t a d n e
carried_on t a b d n c e h g = record { moved = moved_on t (value a) (value b) (value d) n c e h.moved g.moved; words = g.words }

-- a word o of the number u becomes w, which leaves v: x and the carry c are moved, and f is carried
word-moved : (t : Bool) (b u v o w x c f p s n : ℕ) → v + o * p ≡ u + w * p → Moved t o w (x + c) (b * f) → Moved t s u n (c * p) → Moved t s v (n + x * p) (f * (b * p))
word-moved false b u v o w x c f p s n h m g =
    let e : (w + b * f) * p ≡ (o + (x + c)) * p = ap (λ (y : ℕ). y * p) m.is in
    record { is = omega (arith, h, e, g.is) }
word-moved true b u v o w x c f p s n h m g =
    let e : (o + b * f) * p ≡ (w + (x + c)) * p = ap (λ (y : ℕ). y * p) m.is in
    record { is = omega (arith, h, e, g.is) }

word-set : (l : List ℕ) (j w i : ℕ) → w < base → get_or l i 0 < base → get_or (set l j w) i 0 < base
word-set [] j w i h g = g
word-set (x ∷ l) zero w zero h g = h
word-set (x ∷ l) zero w (suc i) h g = g
word-set (x ∷ l) (suc j) w zero h g = g
word-set (x ∷ l) (suc j) w (suc i) h g = word-set l j w i h g

pub word-carried : (t : Bool) (a l : List ℕ) (j w x c f n : ℕ) → j < 67 → w < base → Moved t (get_or l j 0) w (x + c) (base * f)
    → Carried t a l n (c * base ^ j) → Carried t a (set l j w) (n + x * base ^ j) (f * base ^ (j + 1))
word-carried t a l j w x c f n h k m g = record {
  moved = rw (one_more base j) (word-moved t base (value l) (value (set l j w)) (get_or l j 0) w x c f (base ^ j) (value a) n (stored base l j w (omega (arith, g.words.all))) m g.moved);
  words = record { all = omega (arith, g.words.all, length-set l j w); each = λ i. word-set l j w i k (g.words.each i) };
}

-- the carry alone is handed on
pub carry-carried : (t : Bool) (a l : List ℕ) (j w c f n : ℕ) → j < 67 → w < base → Moved t (get_or l j 0) w (0 + c) (base * f)
    → Carried t a l n (c * base ^ j) → Carried t a (set l j w) n (f * base ^ (j + 1))
carry-carried t a l j w c f n h k m g =
    let e : n + 0 * base ^ j ≡ n = omega arith in
    subst (λ (y : ℕ). Carried t a (set l j w) y (f * base ^ (j + 1))) e (word-carried t a l j w 0 c f n h k m g)

-- ---- two words and a carry c added in two steps, over any base b: the steps' carries k and l make one

pub steps-sum : (b x y c u k w l : ℕ) → u + b * k ≡ x + y → w + b * l ≡ u + c → w + b * (k + l) ≡ x + (y + c)
steps-sum b x y c u k w l h g = omega (arith, h, g)

pub steps_carry : (b x y c u k w l : ℕ) → u + b * k ≡ x + y → w + b * l ≡ u + c → x < b → y < b → c < 2 → k < 2 → l < 2 → k + l < 2
steps_carry b x y c u zero w l h g xb yb cs ks ls = omega (arith, ls)
steps_carry b x y c u (suc k) w zero h g xb yb cs ks ls = omega (arith, ks)
steps_carry b x y c u (suc k) w (suc l) h g xb yb cs ks ls =
    absurd (omega (arith, steps-sum b x y c u (suc k) w (suc l) h g, xb, yb, cs))

pub carries-fit : (k l : ℕ) → k < 2 → l < 2 → k + l < base
carries-fit k l h g = omega (arith, h, g)

-- ---- the carry goes on until there is none, or it is carried out of the top word

pub size_is : size ≡ base ^ 67
unfolding size
size_is = refl

pub none_left : (t : Bool) (a l : List ℕ) (n i c : ℕ) → c ≡ 0 → Carried t a l n (c * base ^ i) → Carried t a l n (0 * size)
none_left t a l n i c e h =
    let none : c * base ^ i ≡ 0 * size = rw e (omega arith) in
    subst (λ (y : ℕ). Carried t a l n y) none h

pub at_top : (t : Bool) (a l : List ℕ) (n c i : ℕ) → i ≤ 67 → 67 ≤ i → Carried t a l n (c * base ^ i) → Carried t a l n (c * size)
at_top t a l n c i h g m =
    let e : i ≡ 67 = omega (arith, h, g) in
    let f : base ^ i ≡ size = ap (λ (x : ℕ). base ^ x) e ∙ sym size_is in
    subst (λ (p : ℕ). Carried t a l n (c * p)) f m

-- ---- a list of words and its number

value-lt : (b : ℕ) (l : List ℕ) → ((i : ℕ) → get_or l i 0 < b) → value_in b l < b ^ length l
unfolding value_in
value-lt b [] h = rw (pow-zero b) (omega arith)
value-lt b (w ∷ l) h =
    let v = value_in b l in
    let p = b ^ length l in
    let a : v + 1 ≤ p = omega (arith, value-lt b l (λ i. h (suc i))) in
    let m : b * (v + 1) ≤ b * p = mul-le-mul_left b a in
    rw (pow-succ' b (length l)) (omega (arith, m, h 0))

digits-back : (b : ℕ) → 0 < b → (l : List ℕ) → ((i : ℕ) → get_or l i 0 < b) → digits_in b (length l) (value_in b l) ≡ l
unfolding value_in digits_in
digits-back b B [] h = refl
digits-back b B (w ∷ l) h =
    let v = value_in b l in
    let m : (w + b * v) % b ≡ w = add-mul-mod_self_left w b v ∙ mod-eq_of_lt (h 0) in
    let d : (w + b * v) / b ≡ v = add-mul-div_left w v B ∙ ap (λ (x : ℕ). x + v) (div-eq_of_lt (h 0)) ∙ zero-add v in
    rw (m, d) (ap (λ (t : List ℕ). w ∷ t) (digits-back b B l (λ i. h (suc i))))

pub below-size : (l : List ℕ) → Words l → value l < size
below-size l h = rw size_is (subst (λ (n : ℕ). value l < base ^ n) h.all (value-lt base l (λ i. h.each i)))

pub back : (l : List ℕ) → Words l → words (value l) ≡ l
back l h = subst (λ (n : ℕ). digits_in base n (value l) ≡ l) h.all (digits-back base (omega arith) l (λ i. h.each i))

-- 67 words whose number is n, but for a multiple of size, are n's
pub settled : (l : List ℕ) (n r q : ℕ) → Words l → value l + q * size ≡ n + r * size → l ≡ words (n % size)
settled l n r q h e =
    let m : n % size ≡ value l = sym (add-mul-mod_self_right n r size) ∙ ap (λ (x : ℕ). x % size) (sym e) ∙ add-mul-mod_self_right (value l) q size ∙ mod-eq_of_lt (below-size l h) in
    sym (ap words m ∙ back l h)

-- ---- a number of 67 words is that number modulo size

value-digits : (b : ℕ) → 0 < b → (n u : ℕ) → value_in b (digits_in b n u) ≡ u % b ^ n
unfolding value_in digits_in
value-digits b h zero u = sym (ap (λ (p : ℕ). u % p) (pow-zero b) ∙ mod-one u)
value-digits b h (suc n) u =
    let e = value-digits b h n (u / b) in
    let m : u % (b ^ n * b) ≡ (u / b % b ^ n) * b + u % b = mod-mul u (one-le-pow n b h) h in
    let p : u % b ^ suc n ≡ u % (b ^ n * b) = ap (λ (q : ℕ). u % q) (pow-suc b n) in
    rw e (omega (arith, m, p))

pub value-words : (u : ℕ) → value (words u) ≡ u % size
value-words u = value-digits base (omega arith) 67 u ∙ ap (λ (p : ℕ). u % p) (sym size_is)

-- ---- what the code leaves is the definition's sum

pub size_pos : 0 < size
unfolding size
size_pos = pow_pos 4288

gathered : (u v n r s m q : ℕ) → q * s + m ≡ n → v + r * s ≡ u + n → v + r * s ≡ u + m + q * s
gathered u v n r s m q e g = omega (arith, e, g)

pub sum_is : (l₀ l : List ℕ) (n r : ℕ) → Words l → value l + r * size ≡ value l₀ + n → l ≡ added l₀ (signed false n)
unfolding added residue
sum_is l₀ l n r h e = settled l (value l₀ + n % size) (n / size) r h (gathered (value l₀) (value l) n r size (n % size) (n / size) (div-add-mod' n size) e)

opposite : (u v n r s m q : ℕ) → q * s + m ≡ n → m < s → u + r * s ≡ v + suc n → v + suc q * s ≡ u + (s - suc m) + r * s
opposite u v n r s m q e h g = omega (arith, e, h, g)

none : (u v z r s : ℕ) → z ≡ 0 → u + r * s ≡ v + 0 → v + 0 * s ≡ u + z + r * s
none u v z r s e g = omega (arith, e, g)

pub difference-is : (l₀ l : List ℕ) (n r : ℕ) → Words l → value l₀ + r * size ≡ value l + n → l ≡ added l₀ (signed true n)
unfolding added residue
difference-is l₀ l zero r h e = settled l (value l₀ + 0 % size) r 0 h (none (value l₀) (value l) (0 % size) r size (zero-mod size) e)
difference-is l₀ l (suc n) r h e =
    settled l (value l₀ + (size - suc (n % size))) r (suc (n / size)) h (opposite (value l₀) (value l) n r size (n % size) (n / size) (div-add-mod' n size) (mod-lt n size_pos) e)

pub carried-is : (t : Bool) (l₀ l : List ℕ) (n r : ℕ) → Carried t l₀ l n (r * size) → l ≡ added l₀ (signed t n)
carried-is false l₀ l n r h = sum_is l₀ l n r h.words h.moved.is
carried-is true l₀ l n r h = difference-is l₀ l n r h.words h.moved.is
