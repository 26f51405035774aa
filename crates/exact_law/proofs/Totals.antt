-- Sums over a list of terms: of two lists in a row, and of a list in any order. Assumes nothing.
use Prim.Native.Nat.{ℕ, ◌+◌}
use mathlib.Core.Path.{◌≡◌, refl, ◌∙◌, ap}
use mathlib.Core.List.{List, [], ◌∷◌, ◌++◌, Permᴰ}
use native.Mathlib.Omega.{arith}
use Rattle.exact_law.specs.Law.{Term, total}

pub total-append : (f : Term → ℕ) (l k : List Term) → total f (l ++ k) ≡ total f l + total f k
unfolding total
total-append f [] k = omega arith
total-append f (t ∷ l) k = let h = total-append f l k in omega (arith, h)

pub total-perm : (f : Term → ℕ) {l k : List Term} → Permᴰ l k → total f l ≡ total f k
unfolding total
total-perm f Permᴰ.nil = refl
total-perm f (Permᴰ.cons {a = a} {b = b} {l₁ = l₁} {l₂ = l₂} e d) =
    ap (λ (x : Term). f x + total f l₁) e ∙ ap (λ (n : ℕ). f b + n) (total-perm f d)
total-perm f (Permᴰ.swap {a = a} {b = b} {a' = a'} {b' = b'} {l = l} e g) =
    let x : f a ≡ f b' = ap f e in
    let y : f b ≡ f a' = ap f g in
    omega (arith, x, y)
total-perm f (Permᴰ.trans d g) = total-perm f d ∙ total-perm f g
