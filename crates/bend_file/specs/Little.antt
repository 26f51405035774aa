-- Numbers from bytes, the lowest byte first, and runs of f64s. Definitions only.
use Rattle.std.specs.Prelude.{ℕ, ◌+◌, ◌*◌, List, ◌++◌, length, get_or, drop, Float}
use Rattle.std.specs.Float.{binary64}
use Rattle.std.specs.Float.Ieee.{of_bits}
use Rattle.loops.specs.Loops.{tab}

-- the byte at `at`
abbrev pub byte : List ℕ → ℕ → ℕ
byte f at = get_or f at 0

unfoldable pub u16 : List ℕ → ℕ → ℕ
u16 f at = byte f at + 256 * byte f (at + 1)

unfoldable pub u32 : List ℕ → ℕ → ℕ
u32 f at = u16 f at + 65536 * u16 f (at + 2)

unfoldable pub u64 : List ℕ → ℕ → ℕ
u64 f at = u32 f at + 4294967296 * u32 f (at + 4)

-- the f64 of the 8 bytes from `at` on. There is one NaN, and every pattern of a NaN is read as it
unfoldable pub value : List ℕ → ℕ → Float
value f at = of_bits binary64 (u64 f at)

-- where value 0 is at `start`: the values number first, first + 1, .., first + count - 1
unfoldable pub values : List ℕ → ℕ → ℕ → ℕ → List Float
values f start first count = tab (λ i. value f (start + 8 * (first + i))) count

-- a list whose front is another: what lies past it stays
abbrev pub over : {A : Type 0} → List A → List A → List A
over front l = front ++ drop (length front) l
