-- Places in a matrix kept by rows: row i and column j of rows of n stand at i * n + j.
use Prim.Native.Nat.{ℕ, ◌+◌, ◌*◌, ◌/◌, ◌%◌, ◌≤◌, ◌<◌}
use native.Mathlib.Nat.{mul-le-mul_right, suc-mul, mul-le-mul, div-lt_iff_lt-mul, div-add-mod', mod-lt}
use native.Mathlib.Omega.{arith}
use mathlib.Core.Path.{◌≡◌, sym, ◌∙◌}
use mathlib.Core.List.{List}
use lib.ListN.{length, get_or}
use lib.Seq.{ext_get_or}

pub place : (m n i j : ℕ) → i < m → j < n → i * n + j < m * n
place m n i j hi hj = omega (arith, mul-le-mul_right n hi, suc-mul i n)

-- where a row ends, no place is past the last row's
pub row-end : (m n i : ℕ) → i < m → i * n + n ≤ m * n
row-end m n i h = omega (arith, mul-le-mul_right n h, suc-mul i n)

-- few rows and columns make few places
pub product : (m n : ℕ) → m ≤ 32 → n ≤ 32 → m * n ≤ 1024
product m n h k = omega (arith, mul-le-mul h k)

-- a place says its row and its column
pub same_row : (n r q k c : ℕ) → q < n → c < n → r * n + q ≡ k * n + c → r ≡ k
same_row n r q k c g h e =
    let x : r < k → ⊥ = λ s. omega (arith, place k n r q s g) in
    let y : k < r → ⊥ = λ s. omega (arith, place r n k c s h) in
    omega arith

pub same-column : (n r q k c : ℕ) → q < n → c < n → r * n + q ≡ k * n + c → q ≡ c
same-column n r q k c g h e = let s : r ≡ k = same_row n r q k c g h e in let f : k * n + q ≡ k * n + c = rw s at e in omega arith

-- two matrices that agree at each row and column are the same
pub ext-matrix : {A : Type 0} (d : A) (m n : ℕ) (a b : List A) → 0 < n → length a ≡ m * n → length b ≡ m * n → ((r q : ℕ) → r < m → q < n → get_or a (r * n + q) d ≡ get_or b (r * n + q) d) → a ≡ b
ext-matrix d m n a b h f g e =
    ext_get_or d a b (f ∙ sym g) λ p l.
    let u : p / n < m = (div-lt_iff_lt-mul {k = n} {x = p} {y = m} h).1 (omega arith) in
    let v : p / n * n + p % n ≡ p = div-add-mod' p n in
    rw v at (e (p / n) (p % n) u (mod-lt p h))
