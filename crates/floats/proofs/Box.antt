-- What a clamp leaves: with lo at most hi it is NaN or in the box, and it is the value itself where that is inside.
use mathlib.Core.Path.{◌≡◌, refl, sym, subst}
use mathlib.Core.Bool.{Bool, true, false, cond, ◌&&◌, ◌||◌}
use lib.Dec.{T}
use lib.Ieee.{Float, nan, inf, fin, lt, le, eq, ne}
use lib.Ieee.Compare.{differs_from_itself}
use Rattle.std.specs.Prelude.{Some, None}
use Rattle.std.specs.Option.{is_some}
use Rattle.floats.specs.Helpers.{clamp, side}
use Rattle.floats.specs.declared.Side.TheVariants.{Low, High}
use Rattle.floats.proofs.Order.{le_left, le_right, le_self, total, not-above}

unfoldable pub in_box : Float → Float → Float → Bool
in_box lo hi v = ne v v || (le lo v && le v hi)

boxed_true : (a b c : Bool) → b ≡ true → c ≡ true → a || (b && c) ≡ true
boxed_true true b c p q = refl
boxed_true false b c p q = rw (p, q)

pub clamped : (v lo hi : Float) → le lo hi ≡ true → in_box lo hi (clamp v lo hi) ≡ true
unfolding in_box clamp ne
clamped v lo hi h = go (lt v lo) refl (lt hi v) refl (eq v v) refl
  where
    go : (a : Bool) → lt v lo ≡ a → (b : Bool) → lt hi v ≡ b → (c : Bool) → eq v v ≡ c → in_box lo hi (cond a lo (cond b hi v)) ≡ true
    go true i b j c k = boxed_true (ne lo lo) (le lo lo) (le lo hi) (le_self lo (le_left lo hi h)) h
    go false i true j c k = boxed_true (ne hi hi) (le lo hi) (le hi hi) h (le_self hi (le_right lo hi h))
    go false i false j true k = boxed_true (ne v v) (le lo v) (le v hi) (total v lo k (le_left lo hi h) i) (total hi v (le_right lo hi h) k j)
    go false i false j false k = rw k

pub clamp-inside : (v lo hi : Float) → le lo v ≡ true → le v hi ≡ true → clamp v lo hi ≡ v
unfolding clamp
clamp-inside v lo hi p q = rw (not-above v lo p, not-above hi v q)

-- a NaN is passed on
pub clamp-nan : (v lo hi : Float) → ne v v ≡ true → clamp v lo hi ≡ v
unfolding clamp lt
clamp-nan v lo hi h = rw (differs_from_itself v (subst T (sym h) tt)) (go lo hi)
  where
    go : (lo hi : Float) → cond (lt nan lo) lo (cond (lt hi nan) hi nan) ≡ nan
    go lo nan = refl
    go lo (inf s) = refl
    go lo (fin s m e) = refl

-- ---- the side at which a clamp stops

-- it stops where v is past a bound, and nowhere else
pub stops-past : (v lo hi : Float) → is_some (side v lo hi) ≡ (lt v lo || lt hi v)
unfolding side
stops-past v lo hi = go (lt v lo) (lt hi v)
  where
    go : (a b : Bool) → is_some (cond a (Some Low) (cond b (Some High) None)) ≡ (a || b)
    go true b = refl
    go false true = refl
    go false false = refl

-- a value in its box is not stopped
pub side-inside : (v lo hi : Float) → le lo v ≡ true → le v hi ≡ true → side v lo hi ≡ None
unfolding side
side-inside v lo hi p q = rw (not-above v lo p, not-above hi v q)

-- one that is not stopped stays
pub unstopped : (v lo hi : Float) → side v lo hi ≡ None → clamp v lo hi ≡ v
unfolding side clamp
unstopped v lo hi = go (lt v lo) (lt hi v)
  where
    go : (a b : Bool) → cond a (Some Low) (cond b (Some High) None) ≡ None → cond a lo (cond b hi v) ≡ v
    go true b e = cc
    go false true e = cc
    go false false e = refl
