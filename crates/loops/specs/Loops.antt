-- Loops, as functions of how far they have come. Definitions only; their laws are in proofs/.
use Rattle.std.specs.Prelude.{ℕ, zero, suc, ◌+◌, ◌-◌, Bool, true, cond, ◌&&◌, List, [], ◌∷◌, ◌++◌, get_or, set}
use Rattle.std.proofs.lemmas.List.Edits.{sets}

module _ {S : Type 0} where
  -- s, after f 0, then f 1, up to f (k - 1): the state of a loop that counts up from 0 and has come to k
  unfoldable pub turns : ℕ → S → (ℕ → S → S) → S
  turns zero s f = s
  turns (suc k) s f = f k (turns k s f)

  -- the same for a loop that counts up from a and has come to b, and for one that counts down from b and has come to a
  unfoldable pub between : ℕ → ℕ → S → (ℕ → S → S) → S
  between a b s f = turns (b - a) s λ t. f (a + t)

  unfoldable pub downward : ℕ → ℕ → S → (ℕ → S → S) → S
  downward b a s f = turns (b - a) s λ t. f (b - suc t)

  -- the list with two places exchanged
  unfoldable pub swap : S → List S → ℕ → ℕ → List S
  swap d l i k = set (set l i (get_or l k d)) k (get_or l i d)

-- f 0, .., f (k - 1)
unfoldable pub tab : {A : Type 0} → (ℕ → A) → ℕ → List A
tab f k = turns k [] λ i l. l ++ (f i ∷ [])

-- the numbers below k that pass, rising
unfoldable pub those : (ℕ → Bool) → ℕ → List ℕ
those test k = turns k [] λ i l. cond (test i) (l ++ (i ∷ [])) l

-- whether every number below k passes
unfoldable pub every : (ℕ → Bool) → ℕ → Bool
every test zero = true
every test (suc k) = every test k && test k

-- A loop that gathers the numbers that pass at the front of a list lent to it: what a turn at i leaves there, and of its count k.
unfoldable pub noted : Bool → List ℕ → ℕ → ℕ → List ℕ
noted b l k i = cond b (set l k i) l

unfoldable pub counted : Bool → ℕ → ℕ
counted b k = cond b (suc k) k

-- the list l with r at its front; where it is too short for that, with as much of it as it holds
abbrev pub pasted : {A : Type 0} → List A → List A → List A
pasted r l = sets l 0 r

abbrev pub fronted : List ℕ → List ℕ → List ℕ
fronted r l = pasted r l
