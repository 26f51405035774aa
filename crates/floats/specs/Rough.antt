-- A rough square root, from which the code of the root starts. It decides how soon a root is found and no result: every root is `sqrt`, whatever was guessed.
-- A reader of the promises may pass it over. Definitions only.
use Rattle.std.specs.Prelude.{ℕ, ◌-◌, ◌/◌, cond, ltb, Option, Some, None, Float}
use Rattle.std.specs.Float.{binary64}
use Rattle.std.specs.Float.Ieee.{of_bits, to_bits, lt}
use Rattle.floats.specs.Ops.{◌⊗◌, ◌⊖◌, 0ᶠ}

-- 0.5, 1.5, and a little above 1.5
abbrev pub half : Float
half = of_bits binary64 0x3FE0000000000000

abbrev pub middle : Float
middle = of_bits binary64 0x3FF8000000000000

abbrev pub above : Float
above = of_bits binary64 0x3FF800000002BFB0

-- a step of Newton's method for 1 / √(2 h), with c near 1.5
unfoldable pub newton : Float → Float → Float → Float
newton c h y = c ⊗ y ⊖ h ⊗ y ⊗ (y ⊗ y)

-- three steps for the value v whose pattern is x
unfoldable pub approximated : ℕ → Float → Float
approximated x v = v ⊗ newton above (v ⊗ half) (newton middle (v ⊗ half) (newton middle (v ⊗ half) (of_bits binary64 (0x5fe6_eb50_c7b5_37a9 - x / 2))))

abbrev pub approximate : ℕ → Float
approximate x = approximated x (of_bits binary64 x)

-- of a positive finite value; none of others
unfoldable pub rough : Float → Option Float
rough v =
    cond (lt 0ᶠ v) (cond (ltb (to_bits binary64 v) 0x7ff0_0000_0000_0000) (Some (approximate (to_bits binary64 v))) None) None
