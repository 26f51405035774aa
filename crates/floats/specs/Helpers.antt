-- Document 01's float helpers, by the comparisons that the code has. Definitions only. What they mean in terms of the sign bit and of the order is proved in proofs/Meaning.antt and proofs/Order.antt.
use Rattle.std.specs.Prelude.{Bool, cond, ◌&&◌, Option, Some, None, Float}
use Rattle.std.specs.Float.Ieee.{lt, eq, ne, neg}
use Rattle.floats.specs.Ops.{◌⊕◌, 0ᶠ, ∞, −∞}
use Rattle.floats.specs.declared.Side.{Side}
use Rattle.floats.specs.declared.Side.TheVariants.{Low, High}

-- lo if v < lo, else hi if v > hi, else v
unfoldable pub clamp : Float → Float → Float → Float
clamp v lo hi = cond (lt v lo) lo (cond (lt hi v) hi v)

-- the side at which it stops v: Low if v < lo, else High if v > hi, else None
unfoldable pub side : Float → Float → Float → Option Side
side v lo hi = cond (lt v lo) (Some Low) (cond (lt hi v) (Some High) None)

-- the one that isn't NaN; NaN if both are; of +0 and -0, +0, which is their sum
unfoldable pub larger : Float → Float → Float
larger x y = cond (ne x x) y (cond (ne y y) x (cond (lt x y) y (cond (lt y x) x (cond (eq x 0ᶠ) (x ⊕ y) x))))

-- v without its sign
unfoldable pub abs : Float → Float
abs v = cond (eq v 0ᶠ) 0ᶠ (cond (lt v 0ᶠ) (neg v) v)

unfoldable pub nan_test : Float → Bool
nan_test v = ne v v

-- neither NaN nor an infinity
unfoldable pub is_finite : Float → Bool
is_finite v = lt −∞ v && lt v ∞
