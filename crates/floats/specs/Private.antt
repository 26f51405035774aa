-- Words of private contracts: what the code of the square root finds. No promise of a public call stands on them.
-- Definitions only.
use Rattle.std.specs.Prelude.{ℕ, ◌≡◌, ◌+◌, ◌*◌, ◌^◌, ◌≤◌, ◌<◌}
use Rattle.std.specs.Float.{binary64}
use Rattle.std.specs.Float.Ieee.{of_bits}
use Rattle.floats.specs.Sqrt.{nearest_root, sqrt}
use Rattle.floats.specs.Nearest.{units_of}

-- r is the whole part of √n
pub record Whole (n r : ℕ) : Type 0 where
  pub low : r * r ≤ n
  pub high : n < (r + 1) * (r + 1)

-- the value whose pattern is b is s * 2 ^ e units of 2 ^ -2148, where s has 53 digits
pub record Scaled (b s e : ℕ) : Type 0 where
  pub lo : 2 ^ 52 ≤ s
  pub hi : s < 2 ^ 53
  pub e_lo : 1000 ≤ e
  pub e_hi : e ≤ 3119
  pub val : units_of (of_bits binary64 b) * 2 ^ 1074 ≡ s * 2 ^ e
  pub is : sqrt (of_bits binary64 b) ≡ nearest_root (s * 2 ^ e)
