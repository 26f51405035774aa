-- A Householder reflector H = I - 2 v vᵀ / vᵀv, and H applied to entries of a list. Definitions only.
use Rattle.std.specs.Prelude.{ℕ, cond, List, set, Float}
use Rattle.std.specs.Float.{nan}
use Rattle.std.specs.Float.Ieee.{le, neg}
use Rattle.loops.specs.Updates.{updated}
use Rattle.floats.specs.Ops.{◌⊕◌, ◌⊖◌, ◌⊗◌, ◌⊘◌, at, 0ᶠ, 2ᶠ}
use Rattle.floats.specs.Sums.{sum}
use Rattle.floats.specs.Sqrt.{sqrt}

-- the root of alpha² + sigma with the sign that alpha does not have, so that alpha - beta is free of cancellation
unfoldable pub beta : Float → Float → Float
beta alpha sigma = let norm = sqrt (alpha ⊗ alpha ⊕ sigma) in cond (le 0ᶠ alpha) (neg norm) norm

-- H applied to z. v has v0 at z's place `first` and v t at place π t, for t from lo up to hi; vtv is its square. (Where
-- the Rust writes a product the other way round, it is the same.)
unfoldable pub reflect : ℕ → (ℕ → ℕ) → Float → (ℕ → Float) → Float → ℕ → ℕ → List Float → List Float
reflect first π v0 v vtv lo hi z =
    let f = 2ᶠ ⊗ sum (v0 ⊗ at z first) (λ t. v t ⊗ at z (π t)) lo hi ⊘ vtv in
    updated nan π (λ t x. x ⊖ f ⊗ v t) lo hi (set z first (at z first ⊖ f ⊗ v0))
