-- Numbers read inside a list of bytes: those of a part are read in the whole, and a number laid as bytes is read as itself.
use Prim.Native.Nat.{ℕ, zero, suc, ◌+◌, ◌*◌, ◌/◌, ◌%◌, ◌≤◌, ◌<◌}
use mathlib.Core.Path.{◌≡◌, refl, ◌∙◌, ap}
use mathlib.Core.List.{List, [], ◌∷◌, ◌++◌, append-nil}
use native.Mathlib.Omega.{arith}
use native.Mathlib.Nat.{add_assoc}
use lib.Ieee.{Float, nan, binary64, of_bits, to_bits}
use lib.Ieee.Bits.{of_bits-to_bits, to_bits-lt}
use lib.ListN.{length, get_or, take, length-append, get_or-append}
use lib.Seq.{get_or-append-add, take-suc}
use Rattle.floats.specs.Ops.{Fits}
use Rattle.loops.specs.Loops.{tab, turns}
use Rattle.bend_file.specs.Little.{byte, u16, u32, u64, value}
use Rattle.bend_writer.specs.Bytes.{bytes16, bytes32, bytes64, pattern, patterns}
use Rattle.bend_writer.proofs.Laying.{length-pattern, length-patterns}

-- ---- a part q, with p before it and r after it

module _ (p q r : List ℕ) where
  pub byte-within : (j : ℕ) → j + 1 ≤ length q → byte (p ++ q ++ r) (length p + j) ≡ byte q j
  byte-within j h = get_or-append (p ++ q) r 0 (length p + j) (omega (arith, length-append p q)) ∙ get_or-append-add p q j 0

  pub u16-within : (j : ℕ) → j + 2 ≤ length q → u16 (p ++ q ++ r) (length p + j) ≡ u16 q j
  unfolding u16
  u16-within j h = rw (add_assoc (length p) j 1, byte-within j (omega arith), byte-within (j + 1) (omega arith))

  pub u32-within : (j : ℕ) → j + 4 ≤ length q → u32 (p ++ q ++ r) (length p + j) ≡ u32 q j
  unfolding u32
  u32-within j h = rw (add_assoc (length p) j 2, u16-within j (omega arith), u16-within (j + 2) (omega arith))

  pub u64-within : (j : ℕ) → j + 8 ≤ length q → u64 (p ++ q ++ r) (length p + j) ≡ u64 q j
  unfolding u64
  u64-within j h = rw (add_assoc (length p) j 4, u32-within j (omega arith), u32-within (j + 4) (omega arith))

  pub value-within : (j : ℕ) → j + 8 ≤ length q → value (p ++ q ++ r) (length p + j) ≡ value q j
  unfolding value
  value-within j h = ap (of_bits binary64) (u64-within j h)

-- ---- a number at the front

pub read32 : (x : ℕ) (r : List ℕ) → u32 (bytes32 x ++ r) 0 ≡ x % 4294967296
unfolding u32 u16 bytes32 bytes16
read32 x r = omega arith

low : (x y : ℕ) (r : List ℕ) → u32 (bytes32 x ++ bytes32 y ++ r) 0 ≡ u32 (bytes32 x ++ r) 0
unfolding u32 u16 bytes32 bytes16
low x y r = refl

high : (x y : ℕ) (r : List ℕ) → u32 (bytes32 x ++ bytes32 y ++ r) 4 ≡ u32 (bytes32 y ++ r) 0
unfolding u32 u16 bytes32 bytes16
high x y r = refl

pub read64 : (x : ℕ) (r : List ℕ) → x < 18446744073709551616 → u64 (bytes64 x ++ r) 0 ≡ x
unfolding u64 bytes64
read64 x r h =
    let y = x / 4294967296 in
    let a : u32 (bytes32 x ++ bytes32 y ++ r) 0 ≡ x % 4294967296 = low x y r ∙ read32 x r in
    let b : u32 (bytes32 x ++ bytes32 y ++ r) 4 ≡ y % 4294967296 = high x y r ∙ read32 y r in
    rw (a, b) (omega arith)

-- ---- values

value_after : (p q : List ℕ) (j : ℕ) → j + 8 ≤ length q → value (p ++ q) (length p + j) ≡ value q j
value_after p q j h = rw (append-nil (p ++ q)) at (value-within p q [] j h)

front-value : (v : Float) (r : List ℕ) → Fits v → value (pattern v ++ r) (8 * 0) ≡ v
unfolding value pattern
front-value v r f = ap (of_bits binary64) (read64 (to_bits binary64 v) r (to_bits-lt binary64 v f)) ∙ of_bits-to_bits binary64 v f

pub read-value : (vs : List Float) (i : ℕ) → i < length vs → Fits (get_or vs i nan) → value (patterns vs) (8 * i) ≡ get_or vs i nan
unfolding patterns
read-value [] i h f = absurd (omega arith)
read-value (v ∷ vs) zero h f = front-value v (patterns vs) f
read-value (v ∷ vs) (suc i) h f =
    let e : 8 * suc i ≡ length (pattern v) + 8 * i = omega (arith, length-pattern v) in
    rw e (value_after (pattern v) (patterns vs) (8 * i) (omega (arith, length-patterns vs)) ∙ read-value vs i (omega arith) f)

-- ---- a list by its elements

pub tab-take : {A : Type 0} (d : A) (l : List A) (g : ℕ → A) (n : ℕ) → n ≤ length l → ((i : ℕ) → i < n → g i ≡ get_or l i d) → tab g n ≡ take n l
unfolding tab turns
tab-take d l g zero h e = refl
tab-take d l g (suc n) h e = rw (take-suc l n d h, tab-take d l g n (omega arith) (λ i b. e i (omega arith)), e n (omega arith))
