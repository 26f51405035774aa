-- Laws of a list joined: a refusal stays, one list after another, and what each count of the whole comes to.
use Prim.Native.Nat.{ℕ, ◌+◌}
use mathlib.Core.Path.{◌≡◌, refl, sym, ◌∙◌, ap}
use mathlib.Core.Bool.{Bool, true, false}
use mathlib.Core.List.{List, [], ◌∷◌, ◌++◌, Permᴰ}
use native.Mathlib.Omega.{arith}
use lib.Ieee.{binary64}
use lib.Ieee.Bits.{of_bits-fits}
use Rattle.std.specs.Prelude.{Ok, Err}
use Rattle.refusals.specs.declared.Refusal.{Refusal}
use Rattle.refusals.specs.declared.Refusal.TheVariants.{Join}
use Rattle.report.specs.declared.SolveReport.{SolveReport}
use Rattle.report.specs.Joins.{NOTHING, both, all_sums_fit, Answer, and, next, from, all}
use Rattle.report.proofs.Joins.{Held, both-held, and_is_comm, and_is_assoc, before}

pub from_refused : (e : Refusal) (l : List SolveReport) → from (Err e) l ≡ Err e
from_refused e [] = refl
from_refused e (b ∷ l) = from_refused e l

pub from-append : (a : Answer) (l m : List SolveReport) → from a (l ++ m) ≡ from (from a l) m
from-append a [] m = refl
from-append a (b ∷ l) m = from-append (next a b) l m

-- ---- sums

-- what a count of the list's reports comes to
abbrev pub total : (SolveReport → ℕ) → List SolveReport → ℕ
total count [] = 0
total count (b ∷ l) = count b + total count l

-- a count that `and` adds is, of the list joined, what it was before and the list's total: so it is for increments,
-- iterations, rejected, anchors, sweeps, exact_passes and stopped
module _ (count : SolveReport → ℕ) (adds : (a b : SolveReport) → count (both a b) ≡ count a + count b) where
  abbrev counted : ℕ → Answer → Type 0
  counted k (Err e) = Unit {0}
  counted k (Ok t) = count t ≡ k

  pub from-total : (a : SolveReport) (l : List SolveReport) → counted (count a + total count l) (from (Ok a) l)
  unfolding and
  from-total a [] = omega arith
  from-total a (b ∷ l) = go (from-total (both a b) l) (all_sums_fit a b) refl
    where
      one : count (both a b) + total count l ≡ count a + (count b + total count l)
      one = omega (arith, adds a b)

      none : (e : Refusal) (k : ℕ) → counted k (from (Err e) l)
      none e k = rw (from_refused e l) tt

      go : counted (count (both a b) + total count l) (from (Ok (both a b)) l) → (t : Bool) → all_sums_fit a b ≡ t
          → counted (count a + (count b + total count l)) (from (and a b) l)
      go h true e = rw (e, ← one) h
      go h false e = rw e (none Join (count a + (count b + total count l)))

-- ---- order

abbrev HeldIn : Answer → Type 0
HeldIn (Err e) = Unit {0}
HeldIn (Ok a) = Held a

next-held : (a : Answer) (b : SolveReport) → HeldIn a → Held b → HeldIn (next a b)
unfolding and
next-held (Err e) b p q = tt
next-held (Ok a) b p q = go (all_sums_fit a b) refl
  where
    go : (t : Bool) → all_sums_fit a b ≡ t → HeldIn (and a b)
    go true e = rw e (both-held a b p q)
    go false e = rw e tt

pub next-swap : (a : Answer) (b c : SolveReport) → HeldIn a → Held b → Held c → next (next a b) c ≡ next (next a c) b
next-swap (Err e) b c p q r = refl
next-swap (Ok a) b c p q r = and_is_assoc a b c p q r ∙ ap (before a) (and_is_comm b c q r) ∙ sym (and_is_assoc a c b p r q)

abbrev pub AllHeld : List SolveReport → Type 0
AllHeld [] = Unit {0}
AllHeld (b ∷ l) = Held b × AllHeld l

all_held : {l m : List SolveReport} → Permᴰ l m → AllHeld l → AllHeld m
all_held Permᴰ.nil h = tt
all_held (Permᴰ.cons e d) h = (rw e at h.0, all_held d h.1)
all_held (Permᴰ.swap e g) h = (rw g at h.1.0, (rw e at h.0, h.1.1))
all_held (Permᴰ.trans d g) h = all_held g (all_held d h)

from-perm : {l m : List SolveReport} → Permᴰ l m → AllHeld l → (a : Answer) → HeldIn a → from a l ≡ from a m
from-perm Permᴰ.nil h a p = refl
from-perm (Permᴰ.cons {a = b} {b = c} {l₁ = l} e d) h a p =
    ap (λ (x : SolveReport). from (next a x) l) e ∙ from-perm d h.1 (next a c) (next-held a c p (rw e at h.0))
from-perm (Permᴰ.swap {a = b} {b = c} {a' = c'} {b' = b'} {l = l} e g) h a p =
    ap (λ (x : Answer). from x l) (next-swap a b c p h.0 h.1.0)
    ∙ ap (λ (x : SolveReport). from (next (next a x) b) l) g ∙ ap (λ (x : SolveReport). from (next (next a c') x) l) e
from-perm (Permᴰ.trans d g) h a p = from-perm d h a p ∙ from-perm g (all_held d h) a p

-- every order of the list gives the same answer, a refusal included
pub all-perm : {l m : List SolveReport} → Permᴰ l m → AllHeld l → all l ≡ all m
unfolding all
all-perm d h = from-perm d h (Ok NOTHING) (of_bits-fits binary64 0)
