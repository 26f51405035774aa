-- Laws of text laid into a buffer: nothing, one byte, and one piece after another.
use Prim.Native.Nat.{ℕ, zero, suc, ◌+◌, ◌-◌, ◌/◌, ◌%◌, ◌≤◌, ◌<◌}
use mathlib.Core.Path.{◌≡◌, refl, sym, ◌∙◌, ap}
use mathlib.Core.Bool.{Bool, true, false}
use mathlib.Core.List.{List, [], ◌∷◌, ◌++◌}
use native.Mathlib.Omega.{arith}
use native.Mathlib.Nat.{add-zero}
use lib.Dec.{leb, ltb}
use lib.ListN.{length, set, take, drop, length-append}
use lib.Seq.{sets, length-sets, set_out, take_at, sets-eq}
use borrow.Author.Tests.{leb-true, leb-false, ltb-false, lt-ltb, le-ltb}
use Rattle.printer.specs.Output.{digit, digits, decimal, hex}
use Rattle.printer.specs.Writing.{Wrote}

sets_out : (t l : List ℕ) (i : ℕ) → length l ≤ i → sets l i t ≡ l
sets_out [] l i h = refl
sets_out (b ∷ t) l i h = rw (set_out l i b h) (sets_out t l (suc i) (omega arith))

sets-append : (s t l : List ℕ) (i : ℕ) → sets l i (s ++ t) ≡ sets (sets l i s) (i + length s) t
sets-append [] t l i = rw add-zero
sets-append (b ∷ s) t l i = let e : i + suc (length s) ≡ suc i + length s = omega arith in rw e (sets-append s t (set l i b) (suc i))

pub nothing-wrote : (l : List ℕ) (at : ℕ) → at ≤ length l → Wrote l at l at []
nothing-wrote l at h = record { laid = refl; place = omega arith; room = h }

pub then : {a b c s t : List ℕ} {i j k : ℕ} → Wrote a i b j s → Wrote b j c k t → Wrote a i c k (s ++ t)
then {a} {b} {c} {s} {t} {i} {j} {k} p q =
    record {
      laid = q.laid ∙ go (leb (i + length s) (length a)) refl;
      place = rw (length-append s t) (omega (arith, p.place, q.place, same));
      room = q.room;
    }
  where
    same : length b ≡ length a
    same = ap length p.laid ∙ length-sets a i s

    go : (x : Bool) → leb (i + length s) (length a) ≡ x → sets b j t ≡ sets a i (s ++ t)
    go true e =
        let h = leb-true (i + length s) (length a) e in
        let g : j ≡ i + length s = omega (arith, p.place) in
        rw (g, p.laid) (sym (sets-append s t a i))
    go false e =
        let h = leb-false (i + length s) (length a) e in
        let m : length (sets a i s) ≡ length a = length-sets a i s in
        sets_out t b j (omega (arith, p.place, same)) ∙ p.laid ∙ sym (sets-append s t a i ∙ sets_out t (sets a i s) (i + length s) (omega arith))

-- ---- digits

-- more places than there are digits change nothing
enough : (k m x : ℕ) → x < k → x < m → digits k (ltb x 10) x ≡ digits m (ltb x 10) x
unfolding digits
enough (suc k) (suc m) x h g = go (ltb x 10) refl (λ l. enough k m (x / 10) (omega (arith, l)) (omega (arith, l)))
  where
    go : (b : Bool) → ltb x 10 ≡ b → (10 ≤ x → digits k (ltb (x / 10) 10) (x / 10) ≡ digits m (ltb (x / 10) 10) (x / 10)) → digits (suc k) b x ≡ digits (suc m) b x
    go true e r = refl
    go false e r = rw (r (ltb-false x 10 e))
enough zero m x h g = absurd (omega arith)
enough (suc k) zero x h g = absurd (omega arith)

pub decimal-low : (x : ℕ) → x < 10 → digit x ∷ [] ≡ decimal x
unfolding decimal digits
decimal-low x h = rw (lt-ltb x 10 h)

pub decimal-high : (x : ℕ) → 10 ≤ x → decimal (x / 10) ++ (digit (x % 10) ∷ []) ≡ decimal x
unfolding decimal digits
decimal-high x h = rw (le-ltb x 10 h, enough (suc (x / 10)) x (x / 10) (omega arith) (omega arith))

sub-one : (k : ℕ) → suc k - 1 ≡ k
sub-one k = omega arith

pub hex-none : (k x : ℕ) → k ≡ 0 → [] ≡ hex k x
unfolding hex
hex-none k x e = rw e

pub hex_more : (k x : ℕ) → 0 < k → hex (k - 1) (x / 16) ++ (digit (x % 16) ∷ []) ≡ hex k x
unfolding hex
hex_more (suc k) x h = rw (sub-one k)
hex_more zero x h = absurd (omega arith)

-- ---- for whoever prints

-- where the buffer has room, what was laid is the whole text, and its length was returned
pub whole : (l m text : List ℕ) (n : ℕ) → Wrote l 0 m n text → length text ≤ length l → (n ≡ length text) × (take n m ≡ text)
whole l m text n p h =
    let z : 0 + length text ≡ length text = omega arith in
    let e : n ≡ length text = omega (arith, p.place) in
    let q : m ≡ text ++ drop (0 + length text) l = p.laid ∙ sets-eq text l 0 (omega arith) in
    (e, rw (e, q) (take_at text (drop (0 + length text) l) (length text) refl))
