-- The rows that growth or a ray lists: rising, below the number of rows, each with its reason.
use Prim.Native.Nat.{ℕ, suc}
use mathlib.Core.Path.{◌≡◌, refl, sym}
use mathlib.Core.Bool.{Bool, true, false, not, cond, ◌&&◌, ◌||◌, true≢false, or-true}
use mathlib.Core.List.{List, [], ◌∷◌, ◌++◌}
use lib.ListN.{length}
use lib.Ieee.{Float, lt, le, eq}
use Rattle.loops.proofs.Turns.{turns_keep}
use Rattle.loops.proofs.Gather.{Gathered, gathered_none, gathered_skip, gathered-take, those-gathered}
use Rattle.floats.specs.Ops.{at, 0ᶠ, 1e-9, ∞, −∞, ◌⊗◌}
use Rattle.box_rows.specs.Rows.{Problem, size, acts, grows}
use Rattle.exact_pass.specs.Ray.{Collected, none, these, collect, falling_rows, ray}
use Rattle.exact_pass.specs.Walk.{size_at, collected, farthest}
use Rattle.exact_pass.specs.Private.{largest_row, largest, linear, quadratic_row, quadratic, falls}
use Rattle.boxed.specs.Sweep.{grown}
use Rattle.boxed.specs.Private.{is_grown, grown_at}

-- past a million scales
pub grown-gathered : (nu scale : List Float) (n : ℕ) → Gathered (λ i. is_grown (at nu i) (at scale i) ≡ true) n (grown nu scale n)
unfolding is_grown
grown-gathered nu scale n = those-gathered (grown_at nu scale) n

-- no lower or no upper limit
abbrev pub unlimited : Problem → ℕ → Bool
unlimited p a = eq (at p.lo a) −∞ || eq (at p.hi a) ∞

may-unlimited : (a b c d : Bool) → (a && b) || (c && d) ≡ true → d || b ≡ true
may-unlimited true true c d h = or-true d
may-unlimited true false true d h = rw h
may-unlimited true false false d h = absurd (true≢false (sym h))
may-unlimited false b true d h = rw h
may-unlimited false b false d h = absurd (true≢false (sym h))

grows-unlimited : (y lo hi : Float) → grows y lo hi ≡ true → eq lo −∞ || eq hi ∞ ≡ true
unfolding grows
grows-unlimited y lo hi h = may-unlimited (lt 0ᶠ y) (eq hi ∞) (lt y 0ᶠ) (eq lo −∞) h

-- acting, with no lower or no upper limit
abbrev pub ActsUnlimited : Problem → List ℕ → ℕ → Type 0
ActsUnlimited p st a = (acts st a ≡ true) × (unlimited p a ≡ true)

abbrev Unlimited : Problem → List ℕ → ℕ → Collected → Type 0
Unlimited p st a none = Unit {0}
Unlimited p st a (these l) = Gathered (ActsUnlimited p st) a l

nothing-gathered : {P : ℕ → Type 0} (a : ℕ) → Gathered P a []
nothing-gathered a = record { rising = tt; below = tt; passing = tt }

module _ (p : Problem) (st : List ℕ) (y : List Float) (least : Float) where
  row-unlimited : (a : ℕ) (g : Collected) → Unlimited p st a g → Unlimited p st (suc a) (collect p.lo p.hi p.scale st y least a g)
  unfolding collect grows
  row-unlimited a none h = tt
  row-unlimited a (these l) h = go (acts st a) refl (le (size_at p.scale y a) least) (grows (at y a) (at p.lo a) (at p.hi a)) refl
    where
      go : (b : Bool) → acts st a ≡ b → (c d : Bool) → grows (at y a) (at p.lo a) (at p.hi a) ≡ d → Unlimited p st (suc a) (cond (not b || c) (these l) (cond d (these (l ++ (a ∷ []))) none))
      go false e c d g = gathered_skip a l h
      go true e true d g = gathered_skip a l h
      go true e false true g = gathered-take a l (e, grows-unlimited (at y a) (at p.lo a) (at p.hi a) g) h
      go true e false false g = tt

  collected-unlimited : (a : ℕ) → Unlimited p st a (collected p.lo p.hi p.scale st y least a)
  unfolding collected
  collected-unlimited a = turns_keep (collect p.lo p.hi p.scale st y least) (these []) (Unlimited p st) a gathered_none λ i x b h. row-unlimited i x h

  falling-gathered : (a : ℕ) (g : Collected) → Unlimited p st a g → Gathered (ActsUnlimited p st) a (falling_rows p y g)
  unfolding falling_rows falls linear quadratic_row quadratic farthest
  falling-gathered a none h = nothing-gathered a
  falling-gathered a (these l) h = pick (falls (linear p.u_free y l (length l)) (quadratic p.w (size p) y l (length l)) (farthest p.scale y l (length l))) l h
    where
      pick : (b : Bool) (l : List ℕ) → Gathered (ActsUnlimited p st) a l → Gathered (ActsUnlimited p st) a (cond b l [])
      pick true l h = h
      pick false l h = nothing-gathered a

pub ray-gathered : (p : Problem) (st : List ℕ) (y : List Float) → Gathered (ActsUnlimited p st) (size p) (ray p st y)
unfolding ray largest_row largest collected
ray-gathered p st y =
    let least = 1e-9 ⊗ largest p.scale st y (size p) in
    pick (eq (largest p.scale st y (size p)) 0ᶠ) (falling_rows p y (collected p.lo p.hi p.scale st y least (size p)))
    (falling-gathered p st y least (size p) (collected p.lo p.hi p.scale st y least (size p)) (collected-unlimited p st y least (size p)))
  where
    pick : (b : Bool) (l : List ℕ) → Gathered (ActsUnlimited p st) (size p) l → Gathered (ActsUnlimited p st) (size p) (cond b [] l)
    pick true l h = nothing-gathered (size p)
    pick false l h = h
