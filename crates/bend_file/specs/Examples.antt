-- Worked files, as one table that the checker computes: document 01's example, and each rule kept and broken at its
-- limit.
use Rattle.std.specs.Prelude.{◌≡◌, refl, Bool, true, false, ◌&&◌, List, [], ◌∷◌, ◌++◌, ℕ, ◌/◌, ◌%◌, eqb, Float, replicate, Result, Ok, Err}
use Rattle.std.specs.Float.{binary64}
use Rattle.std.specs.Float.Ieee.{of_bits, to_bits}
use Rattle.loops.specs.Loops.{tab, turns}
use Rattle.loops.specs.Lists.{same_by}
use Rattle.bend_file.specs.Little.{u16, u32, u64, value, values}
use Rattle.bend_file.specs.Trailer.{start, rows, coords, count, marked, counted, reaching, trailer_refusal, refusal, number}
use Rattle.refusals.specs.declared.Refusal.{Refusal}
use Rattle.bend_file.specs.Read.{Problem, problem, answer}

-- ---- files, written out

-- a number in that many bytes
unfoldable pub two : ℕ → List ℕ
two x = x % 256 ∷ x / 256 % 256 ∷ []

unfoldable pub four : ℕ → List ℕ
four x = two (x % 65536) ++ two (x / 65536)

unfoldable pub eight : ℕ → List ℕ
eight x = four (x % 4294967296) ++ four (x / 4294967296)

unfoldable pub patterns : List ℕ → List ℕ
patterns [] = []
patterns (b ∷ l) = eight b ++ patterns l

unfoldable pub mark : List ℕ
mark = 0x42 ∷ 0x45 ∷ 0x4E ∷ 0x44 ∷ []

-- start, rows, coords, count
unfoldable pub trailer : ℕ → ℕ → ℕ → ℕ → List ℕ
trailer s n c k = four s ++ two n ++ two c ++ four k ++ mark

-- ---- answers compared, every NaN as one

unfoldable pub bits : List Float → List ℕ → Bool
bits l m = same_by (λ x b. eqb (to_bits binary64 x) b) l m

-- a problem by its rows, its coordinates and the bits of its values
pub record Bits : Type 0 where
  pub n : ℕ
  pub c : ℕ
  pub w : List ℕ
  pub u_free : List ℕ
  pub lo : List ℕ
  pub hi : List ℕ
  pub scale : List ℕ
  pub nu : List ℕ
  pub motion : List ℕ
  pub tolerance : ℕ

unfoldable pub same : Problem → Bits → Bool
same p b =
    eqb p.rows b.n
    && eqb p.coords b.c
    && bits p.w b.w
    && bits p.u_free b.u_free
    && bits p.lo b.lo
    && bits p.hi b.hi
    && bits p.scale b.scale
    && bits p.nu b.nu
    && bits p.motion b.motion
    && eqb (to_bits binary64 p.tolerance) b.tolerance

-- ---- a case: a file, and what must come out

data Case : Type 0 where
  gives : List ℕ → Bits → Case
  gets : List ℕ → ℕ → Case

reads : Result Problem Refusal → Bits → Bool
reads (Err r) b = false
reads (Ok p) b = same p b

passes : Case → Bool
unfolding answer problem number refusal trailer_refusal marked counted reaching start rows coords count value values u16 u32 u64 tab turns of_bits to_bits
passes (gives f b) = reads (answer f) b
passes (gets f k) = eqb (number f) k

every : List Case → Bool
every [] = true
every (c ∷ l) = passes c && every l

-- ---- values

abbrev pub 1ᵇ : ℕ
1ᵇ = 0x3FF0000000000000

abbrev 2ᵇ : ℕ
2ᵇ = 0x4000000000000000

abbrev −4ᵇ : ℕ
−4ᵇ = 0xC010000000000000

abbrev ∞ᵇ : ℕ
∞ᵇ = 0x7FF0000000000000

abbrev pub nan_bits : ℕ
nan_bits = 0x7FF8000000000000

-- document 01's: n 1, W 2, u_free -4, lo 0, hi +∞, scale 1, nu 0, motion 1, tolerance 0
unfoldable pub example : List ℕ
example = patterns (2ᵇ ∷ −4ᵇ ∷ 0 ∷ ∞ᵇ ∷ 1ᵇ ∷ 0 ∷ 1ᵇ ∷ 0 ∷ [])

unfoldable pub example_bits : Bits
example_bits = record {
  n = 1;
  c = 1;
  w = 2ᵇ ∷ [];
  u_free = −4ᵇ ∷ [];
  lo = 0 ∷ [];
  hi = ∞ᵇ ∷ [];
  scale = 1ᵇ ∷ [];
  nu = 0 ∷ [];
  motion = 1ᵇ ∷ [];
  tolerance = 0;
}

-- two rows and two coordinates, every value another pattern: which value stands where
ramp : Bits
ramp =
    record {
      n = 2;
      c = 2;
      w = 1 ∷ 2 ∷ 3 ∷ 4 ∷ [];
      u_free = 5 ∷ 6 ∷ [];
      lo = 7 ∷ 8 ∷ [];
      hi = 9 ∷ 10 ∷ [];
      scale = 11 ∷ 12 ∷ [];
      nu = 13 ∷ 14 ∷ [];
      motion = 15 ∷ 16 ∷ 17 ∷ 18 ∷ [];
      tolerance = 0x8877665544332211;
    }

-- no rows: the tolerance alone
unfoldable pub none : ℕ → ℕ → Bits
none c t = record { n = 0; c = c; w = []; u_free = []; lo = []; hi = []; scale = []; nu = []; motion = []; tolerance = t }

unfoldable pub free : ℕ → List ℕ
free k = replicate k 0xFF

cases : List Case
cases =
    -- document 01's example, and with free bytes before start
    gives (example ++ trailer 0 1 1 8) example_bits ∷
    gives (free 3 ++ example ++ trailer 3 1 1 8) example_bits ∷
    gives
    (patterns (1 ∷ 2 ∷ 3 ∷ 4 ∷ 5 ∷ 6 ∷ 7 ∷ 8 ∷ 9 ∷ 10 ∷ 11 ∷ 12 ∷ 13 ∷ 14 ∷ 15 ∷ 16 ∷ 17 ∷ 18 ∷ 0x8877665544332211 ∷ [])
    ++ trailer 0 2 2 19) ramp ∷
    -- no rows, with any number of coordinates
    gives (eight 1ᵇ ++ trailer 0 0 0 1) (none 0 1ᵇ) ∷
    gives (free 1 ++ eight 1ᵇ ++ trailer 1 0 65535 1) (none 65535 1ᵇ) ∷
    -- every pattern of a NaN is read as the NaN; the infinities and -0 are themselves
    gives (eight 0x7FF0000000000001 ++ trailer 0 0 0 1) (none 0 nan_bits) ∷
    gives (eight 0xFFF8000000000000 ++ trailer 0 0 0 1) (none 0 nan_bits) ∷
    gives (eight 0xFFFFFFFFFFFFFFFF ++ trailer 0 0 0 1) (none 0 nan_bits) ∷
    gives (eight 0x7FF0000000000000 ++ trailer 0 0 0 1) (none 0 ∞ᵇ) ∷
    gives (eight 0xFFF0000000000000 ++ trailer 0 0 0 1) (none 0 0xFFF0000000000000) ∷
    gives (eight 0x8000000000000000 ++ trailer 0 0 0 1) (none 0 0x8000000000000000) ∷
    -- 1: under 16 bytes, the mark right or wrong; over 65,536, and not at it
    gets [] 1 ∷
    gets mark 1 ∷
    gets (free 15) 1 ∷
    gets (free 65512 ++ eight 0 ++ trailer 65512 0 0 1) 0 ∷
    gets (free 65513 ++ eight 0 ++ trailer 65513 0 0 1) 1 ∷
    -- 2: each byte of the mark, also where later rules are broken
    gets (free 16) 2 ∷
    gets (eight 0 ++ four 0 ++ two 0 ++ two 0 ++ four 1 ++ (0x43 ∷ 0x45 ∷ 0x4E ∷ 0x44 ∷ [])) 2 ∷
    gets (eight 0 ++ four 0 ++ two 0 ++ two 0 ++ four 1 ++ (0x42 ∷ 0x46 ∷ 0x4E ∷ 0x44 ∷ [])) 2 ∷
    gets (eight 0 ++ four 0 ++ two 0 ++ two 0 ++ four 1 ++ (0x42 ∷ 0x45 ∷ 0x4F ∷ 0x44 ∷ [])) 2 ∷
    gets (eight 0 ++ four 0 ++ two 0 ++ two 0 ++ four 1 ++ (0x42 ∷ 0x45 ∷ 0x4E ∷ 0x45 ∷ [])) 2 ∷
    gets (eight 0 ++ four 0 ++ two 0 ++ two 0 ++ four 1 ++ (0x44 ∷ 0x4E ∷ 0x45 ∷ 0x42 ∷ [])) 2 ∷
    -- 3: 33 rows, and coords * n at 2,048 and past it
    gets (trailer 0 33 0 0) 3 ∷
    gets (trailer 0 65535 0 0) 3 ∷
    gets (trailer 0 256 0 0) 3 ∷
    gets (trailer 0 32 65 0) 3 ∷
    gets (trailer 0 1 2049 0) 3 ∷
    gets (trailer 0 31 67 0) 3 ∷
    gets (trailer 0 32 64 0) 4 ∷
    gets (trailer 0 1 2048 0) 4 ∷
    gets (trailer 0 31 66 0) 4 ∷
    -- the largest file
    gets (replicate 25864 0 ++ trailer 0 32 64 3233) 0 ∷
    -- 4: a count one too low or too high, with the length that it asks for
    gets (patterns (2ᵇ ∷ −4ᵇ ∷ 0 ∷ ∞ᵇ ∷ 1ᵇ ∷ 0 ∷ 1ᵇ ∷ []) ++ trailer 0 1 1 7) 4 ∷
    gets (patterns (2ᵇ ∷ −4ᵇ ∷ 0 ∷ ∞ᵇ ∷ 1ᵇ ∷ 0 ∷ 1ᵇ ∷ 0 ∷ 0 ∷ []) ++ trailer 0 1 1 9) 4 ∷
    gets (trailer 0 0 0 0) 4 ∷
    -- 4: a file one byte too short or too long for its start and count
    gets (free 2 ++ example ++ trailer 3 1 1 8) 4 ∷
    gets (free 4 ++ example ++ trailer 3 1 1 8) 4 ∷
    -- 4: the length rule holds only modulo 2^32
    gets (trailer 0xFFFFFFF8 0 0 1) 4 ∷
    gets (trailer 0 0 0 1) 4 ∷ []

table : every cases ≡ true
unfolding every cases passes reads same bits two four eight patterns mark trailer example example_bits ramp none free
table = refl
