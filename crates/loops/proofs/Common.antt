-- The names that most proofs use, from one place.
pub use Prim.Native.Nat.{ℕ, zero, suc, ◌+◌, ◌-◌, ◌*◌, ◌≤◌, ◌<◌}
pub use mathlib.Core.Path.{◌≡◌, refl, sym, ap, ◌∙◌}
pub use mathlib.Core.Bool.{Bool, true, false, cond}
pub use mathlib.Core.List.{List, [], ◌∷◌, ◌++◌}
pub use native.Mathlib.Omega.{arith}
pub use native.Mathlib.Numerals.{add-one}
pub use lib.ListN.{length, get_or, set, take, drop}
pub use lib.Ieee.{Float, nan}
pub use borrow.Author.Rules.{rules}
pub use borrow.Author.Tests.{not-true, not-false, eq-eqb, ne_eqb}
