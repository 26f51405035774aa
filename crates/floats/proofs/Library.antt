-- What the library's methods of f64 answer, in the words of Helpers.antt.
use mathlib.Core.Path.{◌≡◌, refl, sym, ◌∙◌, ap, subst}
use Prim.Native.Nat.{◌*◌}
use mathlib.Core.Bool.{Bool, true, false, cond, ◌||◌, beq, true≢false}
use lib.Dec.{T}
use lib.Ieee.{Float, nan, inf, fin, up, down, is_nan, lt, le, eq, ne}
use Rattle.std.specs.Float.{float_max, float_with_sign, float_is_finite}
use Rattle.std.proofs.lemmas.Float.{eq_flip}
use Rattle.std.proofs.Math.Bool.{or-true}
use Rattle.floats.specs.Ops.{◌⊕◌, 0ᶠ, Fits}
use Rattle.floats.specs.Helpers.{larger, abs, is_finite}
use Rattle.floats.proofs.Order.{level_self, le_left, le_right, not-above, total, equal}
use Rattle.floats.proofs.Meaning.{unsigned, abs_is, is_fin, is-finite}

pub abs_library : (v : Float) → Fits v → float_with_sign false v ≡ abs v
unfolding float_with_sign
abs_library v h = go v ∙ sym (abs_is v h)
  where
    go : (v : Float) → float_with_sign false v ≡ unsigned v
    go nan = refl
    go (inf s) = refl
    go (fin s m e) = refl

pub is_finite_library : (v : Float) → float_is_finite v ≡ is_finite v
unfolding float_is_finite
is_finite_library v = go v ∙ sym (is-finite v)
  where
    go : (v : Float) → float_is_finite v ≡ is_fin v
    go nan = refl
    go (inf s) = refl
    go (fin s m e) = refl

-- of two that are equal, the first, but for zeros
pub larger_equal : (x y : Float) → eq x y ≡ true → larger x y ≡ cond (eq x 0ᶠ) (x ⊕ y) x
unfolding larger ne le
larger_equal x y h =
    let p : le x y ≡ true = ap (λ b. lt x y || b) h ∙ or-true (lt x y) in
    let q : le y x ≡ true = ap (λ b. lt y x || b) (back h) ∙ or-true (lt y x) in
    rw (le_left x y p, le_right x y p, not-above x y q, not-above y x p)
  where
    back : eq x y ≡ true → eq y x ≡ true
    back h = of (eq y x) (eq_flip x y (subst T (sym h) tt))
      where
        of : (b : Bool) → T b → b ≡ true
        of true t = refl
        of false t = absurd t

beq_self : (s : Bool) → beq s s ≡ true
beq_self true = refl
beq_self false = refl

numbers : (x y : Float) → eq x x ≡ true → eq y y ≡ true → is_nan y ≡ false → eq x y ≡ false → float_max x y ≡ larger x y
unfolding larger ne
numbers x y i j n h = go (lt x y) refl (lt y x) refl (le y x) refl
  where
    go : (c : Bool) → lt x y ≡ c → (d : Bool) → lt y x ≡ d → (e : Bool) → le y x ≡ e → float_max x y ≡ larger x y
    go true k d l true m = absurd (true≢false (sym k ∙ not-above x y m))
    go true k d l false m = rw (m, n, i, j, k)
    go false k true l e m = rw (total x y i j k, i, j, k, l)
    go false k false l e m = absurd (true≢false (sym (equal x y i j k l) ∙ h))

-- of others, the library's `max`
pub larger_unequal : (x y : Float) → eq x y ≡ false → float_max x y ≡ larger x y
unfolding larger ne eq is_nan le
larger_unequal nan nan h = refl
larger_unequal nan (inf t) h = refl
larger_unequal nan (fin t n d) h = refl
larger_unequal (inf true) nan h = refl
larger_unequal (inf false) nan h = refl
larger_unequal (fin s m e) nan h = rw (level_self s (m * up e * down e))
larger_unequal (inf s) (inf t) h = numbers (inf s) (inf t) (beq_self s) (beq_self t) refl h
larger_unequal (inf s) (fin t n d) h = numbers (inf s) (fin t n d) (beq_self s) (level_self t (n * up d * down d)) refl h
larger_unequal (fin s m e) (inf t) h = numbers (fin s m e) (inf t) (level_self s (m * up e * down e)) (beq_self t) refl h
larger_unequal (fin s m e) (fin t n d) h = numbers (fin s m e) (fin t n d) (level_self s (m * up e * down e)) (level_self t (n * up d * down d)) refl h
