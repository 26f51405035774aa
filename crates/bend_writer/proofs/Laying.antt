-- Bytes laid into a list: one run after another, and how long each is.
use Prim.Native.Nat.{ℕ, suc, ◌+◌, ◌-◌, ◌*◌, ◌/◌, ◌%◌, ◌≤◌, ◌<◌}
use mathlib.Core.Path.{◌≡◌, refl, sym, ◌∙◌}
use mathlib.Core.List.{List, [], ◌∷◌, ◌++◌, append-nil, append_assoc}
use native.Mathlib.Omega.{arith}
use native.Mathlib.Nat.{add-zero}
use native.Mathlib.Numerals.{add-one}
use lib.Ieee.{Float, nan}
use lib.ListN.{length, get_or, set, take, drop, length-append, length-drop}
use lib.Seq.{sets, sets-eq, drop-drop, take-suc, take_all, length-take-le}
use Rattle.std.specs.Int.{w64, to_le_bytes}
use Rattle.bend_writer.specs.Bytes.{bytes16, bytes32, bytes64, pattern, patterns}
use Rattle.bend_writer.specs.Private.{Laid, Put}
use Rattle.bend_writer.specs.Steps.{Step, trailer, step_bytes}
use Rattle.bend_writer.specs.declared.steps.Cursor.{Cursor}

sets-append : (s t l : List ℕ) (i : ℕ) → sets l i (s ++ t) ≡ sets (sets l i s) (i + length s) t
sets-append [] t l i = rw add-zero
sets-append (b ∷ s) t l i = let e : i + suc (length s) ≡ suc i + length s = omega arith in rw e (sets-append s t (set l i b) (suc i))

-- one run and then another
pub then : {o a b s t : List ℕ} {i j : ℕ} → Laid o i a s → Laid a j b t → j ≡ i + length s → Laid o i b (s ++ t)
then {o} {a} {b} {s} {t} {i} {j} p q e = record { laid = q.laid ∙ rw (e, p.laid) (sym (sets-append s t o i)) }

pub reading : {o a s t : List ℕ} {i : ℕ} → Laid o i a s → s ≡ t → Laid o i a t
reading p e = rw e at p

-- ---- lengths

pub length32 : (x : ℕ) → length (bytes32 x) ≡ 4
unfolding bytes32 bytes16
length32 x = refl

pub length64 : (x : ℕ) → length (bytes64 x) ≡ 8
unfolding bytes64 bytes32 bytes16
length64 x = refl

pub length-pattern : (v : Float) → length (pattern v) ≡ 8
unfolding pattern
length-pattern v = length64 _

pub length-patterns : (l : List Float) → length (patterns l) ≡ 8 * length l
unfolding patterns
length-patterns [] = refl
length-patterns (v ∷ l) = length-append (pattern v) (patterns l) ∙ omega (arith, length-pattern v, length-patterns l)

pub length-trailer : (n c k : ℕ) → length (trailer n c k) ≡ 16
unfolding trailer bytes32 bytes16
length-trailer n c k = refl

pub length-step : (base : ℕ) (s : Step) → length (step_bytes base s) ≡ 20 + 8 * length s.values
unfolding step_bytes
length-step base s =
    length-append (bytes32 base ++ patterns s.values) (trailer s.rows s.coords (length s.values))
    ∙ omega (arith, length-append (bytes32 base) (patterns s.values), length32 base, length-patterns s.values, length-trailer s.rows s.coords (length s.values))

-- ---- numbers, as the library makes their bytes

pub low16 : (x : ℕ) → take 2 (to_le_bytes w64 x) ≡ bytes16 x
unfolding bytes16
low16 x = refl

pub low32 : (x : ℕ) → take 4 (to_le_bytes w64 x) ≡ bytes32 x
unfolding bytes32 bytes16
low32 x =
    let e : x / 16777216 % 256 ≡ x / 65536 / 256 % 256 = omega arith in
    λ i. x % 256 ∷ x / 256 % 256 ∷ x / 65536 % 256 ∷ e i ∷ []

pub low64 : (x : ℕ) → take 8 (to_le_bytes w64 x) ≡ bytes64 x
unfolding bytes64 bytes32 bytes16
low64 x =
    let e3 : x / 16777216 % 256 ≡ x / 65536 / 256 % 256 = omega arith in
    let e5 : x / 1099511627776 % 256 ≡ x / 4294967296 / 256 % 256 = omega arith in
    let e6 : x / 281474976710656 % 256 ≡ x / 4294967296 / 65536 % 256 = omega arith in
    let e7 : x / 72057594037927936 % 256 ≡ x / 4294967296 / 65536 / 256 % 256 = omega arith in
    λ i. x % 256 ∷ x / 256 % 256 ∷ x / 65536 % 256 ∷ e3 i ∷ x / 4294967296 % 256 ∷ e5 i ∷ e6 i ∷ e7 i ∷ []

-- the n lowest of them copied over a part of a list
pub copied : (o m b : List ℕ) (at n x : ℕ) → m ≡ take n b → b ≡ to_le_bytes w64 x → n ≤ 8 → at + n ≤ length o → Laid o at (take at o ++ (m ++ drop (at + n - at) (drop at o))) (take n (to_le_bytes w64 x))
copied o m b at n x e is few h =
    let k : at + n - at ≡ n = omega arith in
    let s = take n (to_le_bytes w64 x) in
    let l : length s ≡ n = length-take-le n (to_le_bytes w64 x) few in
    record { laid = rw (e, is, k, drop-drop n at o, ← append_assoc, sets-eq s o at (omega (arith, l)), l) }

-- the mark as one number
pub mark-bytes : bytes32 0x444E4542 ≡ 0x42 ∷ 0x45 ∷ 0x4E ∷ 0x44 ∷ []
unfolding bytes32 bytes16
mark-bytes = refl

-- ---- values

pub patterns_snoc : (l : List Float) (v : Float) → patterns (l ++ (v ∷ [])) ≡ patterns l ++ pattern v
unfolding patterns
patterns_snoc [] v = append-nil (pattern v)
patterns_snoc (u ∷ l) v = rw (patterns_snoc l v) (sym (append_assoc (pattern u) (patterns l) (pattern v)))

module _ (values : List Float) where
  pub values-start : (o : List ℕ) (at : ℕ) → Laid o at o (patterns (take 0 values))
  unfolding patterns
  values-start o at = record { laid = refl }

  pub values_again : (o a b : List ℕ) (at i end : ℕ) (v : Float) → Laid o at a (patterns (take i values)) → end ≡ at + 8 * i → Laid a end b (pattern v) → i < length values → v ≡ get_or values i nan
      → Laid o at b (patterns (take (i + 1) values))
  values_again o a b at i end v p e q h g =
      let l : length (patterns (take i values)) ≡ 8 * i = length-patterns (take i values) ∙ rw (length-take-le i values (omega arith)) in
      rw (add-one, take-suc values i nan h, patterns_snoc (take i values) (get_or values i nan), ← g) (then p q (rw l e))

-- a step: its link, its values, its trailer
pub step-laid : (o a b d : List ℕ) (at i end : ℕ) (s : Step) → Laid o at a (bytes32 at) → Laid a (at + 4) b (patterns (take i s.values)) → length s.values ≤ i
    → Laid b end d (trailer s.rows s.coords (length s.values)) → end ≡ at + 4 + 8 * length s.values → Laid o at d (step_bytes at s)
unfolding step_bytes
step-laid o a b d at i end s p q h r e =
    let whole : Laid a (at + 4) b (patterns s.values) = rw (take_all i s.values h) at q in
    then (then p whole (rw length32)) r (rw (length-append (bytes32 at) (patterns s.values), length32, length-patterns) (omega (arith, e)))

-- ---- the same of a cursor

pub reading_put : {c d : Cursor} {n : ℕ} {s t : List ℕ} → Put c d n s → s ≡ t → Put c d n t
reading_put p e = rw e at p

pub after : {c d e : Cursor} {n m : ℕ} {s t : List ℕ} → Put c d n s → Put d e m t → n ≡ length s → Put c e (n + m) (s ++ t)
after p q h =
    record {
      laid = then p.laid q.laid (rw h at p.at);
      at = omega (arith, p.at, q.at);
      long = q.long ∙ p.long;
      same = q.same ∙ p.same;
    }

module _ (values : List Float) where
  pub put_start : (c : Cursor) → Put c c (8 * 0) (patterns (take 0 values))
  put_start c = record { laid = values-start values c.out.now c.at; at = omega arith; long = refl; same = refl }

  pub put_again : {c d e : Cursor} (i : ℕ) (v : Float) → Put c d (8 * i) (patterns (take i values)) → Put d e 8 (pattern v) → i < length values → v ≡ get_or values i nan
      → Put c e (8 * (i + 1)) (patterns (take (i + 1) values))
  put_again i v p q h g =
      record {
        laid = values_again values _ _ _ _ i _ v p.laid p.at q.laid h g;
        at = omega (arith, p.at, q.at);
        long = q.long ∙ p.long;
        same = q.same ∙ p.same;
      }

pub step_put : {c d e g : Cursor} (i k : ℕ) (s : Step) → Put c d 4 (bytes32 c.at) → Put d e (8 * i) (patterns (take i s.values)) → length s.values ≤ i → i ≤ length s.values
    → Put e g 16 (trailer s.rows s.coords k) → k ≡ length s.values → Put c g (20 + 8 * k) (step_bytes c.at s)
step_put i k s p q h l r e =
    record {
      laid = step-laid _ _ _ _ _ i _ s p.laid (rw p.at at q.laid) h (rw e at r.laid) (omega (arith, p.at, q.at));
      at = omega (arith, p.at, q.at, r.at);
      long = r.long ∙ q.long ∙ p.long;
      same = r.same ∙ q.same ∙ p.same;
    }

pub whole_length : (values : List Float) (from count : ℕ) → from + count ≤ length values → length (take count (drop from values)) ≡ count
whole_length values from count h = length-take-le count (drop from values) (omega (arith, length-drop from values))
