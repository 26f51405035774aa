-- What was read is what is solved, and what was solved is what is printed.
use Prim.Native.Nat.{ℕ, zero, suc, ◌+◌, ◌*◌, ◌≤◌, ◌<◌}
use mathlib.Core.Path.{◌≡◌, refl, sym, ◌∙◌, ap, subst}
use mathlib.Core.List.{List, [], ◌∷◌, ◌++◌}
use native.Mathlib.Omega.{arith}
use native.Mathlib.Nat.{mul-le-mul}
use lib.Ieee.{Float}
use lib.ListN.{length, get_or, take, drop, length-take}
use lib.Seq.{take_at, sets-eq}
use borrow.Author.Tests.{lt-ltb, le-ltb}
use Rattle.std.proofs.Common.{Result, Ok, Err}
use Rattle.refusals.specs.Numbers.{number}
use Rattle.refusals.specs.declared.Refusal.{Refusal}
use Rattle.bend_file.specs.Little.{over}
use Rattle.bend_file.specs.Trailer.{Small}
use Rattle.bend_file.specs.Read as read
use Rattle.bend_file.specs.declared.Shape.{Shape}
use Rattle.bend_file.proofs.Values.{values_length}
use Rattle.bend_file.proofs.Accepted.{accepted_is_bend-file}
use Rattle.boxed.specs.Solve as solve
use Rattle.boxed.specs.Solve.{Left}
use Rattle.boxed.specs.declared.BoxOutcome.{BoxOutcome}
use Rattle.refusals.specs.declared.Refusal.{Refusal}
use Rattle.std.specs.Prelude.{Result}
use Rattle.printer.specs.Output as print
use Rattle.printer.proofs.Lengths.{Word}
use Rattle.answer.specs.Output as def
use Rattle.answer.specs.Private as private

-- ---- printing

none_word : Word 0
none_word = record { below = omega arith }

-- the front of a list of numbers of the code is one
pub front-words : (n : ℕ) (l : List ℕ) → ((i : ℕ) → Word (get_or l i 0)) → (i : ℕ) → Word (get_or (take n l) i 0)
front-words zero l h i = none_word
front-words (suc n) [] h i = none_word
front-words (suc n) (x ∷ l) h zero = h zero
front-words (suc n) (x ∷ l) h (suc i) = front-words n l (λ j. h (suc j)) i

pub front-few : (n : ℕ) (l : List ℕ) → length l ≤ 32 → length (take n l) ≤ 32
front-few n l h = omega (arith, length-take n l)

-- the lines of what a solve answered and left
pub left_laid : (x : solve.Result) (r : Result BoxOutcome Refusal) (nu : List Float) (st q a b : List ℕ) (n : ℕ) (w w' : List Float) → Left x r nu st q w w' → def.Laid a b n (def.lines r st nu q) → def.Laid a b n (def.printed x)
unfolding def.printed
left_laid x r nu st q a b n w w' h p = rw (h.answer, h.multipliers, h.states, h.listed) at p

-- ---- reading

pub refused-file : (f : List ℕ) (r : Refusal) (a b : read.Lent) → read.Reads f (Err r) a b → def.output f ≡ print.refused (number r)
unfolding def.output
refused-file f r a b h = go (read.answer f) h.result
  where
    go : (x : Result read.Problem Refusal) → Err r ≡ read.reading x → def.classified x ≡ print.refused (number r)
    go (Err q) g = let e : r ≡ q = cc in rw e
    go (Ok p) g = absurd (cc)

front_of : (k : ℕ) (v l : List Float) → length v ≡ k → take k (over v l) ≡ v
front_of k v l e = take_at v (drop (length v) l) k e

-- the problem as it was read is the one at the fronts
filled-fronts : (f : List ℕ) (s n c : ℕ) (a : read.Lent) → let p = read.problem f s n c in def.asked p ≡ private.fronts_of (read.shape p) (read.with_problem p a)
unfolding read.problem
filled-fronts f s n c a =
    rw (
      front_of (n * n) _ a.w (values_length f s 0 (n * n)),
      front_of n _ a.u_free (values_length f s (n * n) n),
      front_of n _ a.lo (values_length f s (n * n + n) n),
      front_of n _ a.hi (values_length f s (n * n + 2 * n) n),
      front_of n _ a.scale (values_length f s (n * n + 3 * n) n),
      front_of n _ a.nu (values_length f s (n * n + 4 * n) n),
      front_of (c * n) _ a.motion (values_length f s (n * n + 5 * n) (c * n)),
    )

-- a file that is accepted: the output is that of the solve of the fronts
pub record Asked (f : List ℕ) (x : Shape) (b : read.Lent) : Type 0 where
  pub small : Small x.rows x.coords
  pub same : def.printed (private.fronts_of x b) ≡ def.output f

module _ (f : List ℕ) (a b : read.Lent) where
  asked : (p : read.Problem) → read.answer f ≡ Ok p → b ≡ read.with_problem p a → Asked f (read.shape p) b
  unfolding def.output
  asked p e g =
      let k = accepted_is_bend-file f p e in
      record {
        small = record { few = k.few_rows; square = mul-le-mul k.few_rows k.few_rows; moving = k.few_moving };
        same = rw (g, e) (sym (ap def.printed (subst (λ (q : read.Problem). def.asked q ≡ private.fronts_of (read.shape q) (read.with_problem q a)) (sym k.values) (filled-fronts _ _ _ _ a))));
      }

  pub taken_in : (x : Shape) → read.Reads f (Ok x) a b → Asked f x b
  taken_in x h = go (read.answer f) refl h.result h.buffers
    where
      go : (r : Result read.Problem Refusal) → read.answer f ≡ r → Ok x ≡ read.reading r → b ≡ read.filled r a → Asked f x b
      go (Err r) q g i = absurd (cc)
      go (Ok p) q g i = let e : x ≡ read.shape p = cc in rw e (asked p q i)

-- ---- the call

pub too_little : (f l : List ℕ) → length l < 2048 → def.Answered f 0 l l
unfolding def.output_in
too_little f l h = let e = lt-ltb (length l) 2048 h in record { counted = rw e; laid = rw e; room = omega arith }

pub answered : (f l m text : List ℕ) (n : ℕ) → 2048 ≤ length l → def.Laid l m n text → text ≡ def.output f → def.Answered f n l m
unfolding def.output_in
answered f l m text n h p e =
    let t = le-ltb (length l) 2048 h in
    let z : 0 + length text ≡ length text = omega arith in
    let k : n ≡ length text = omega (arith, p.wrote.place, p.short) in
    let q : m ≡ text ++ drop (0 + length text) l = p.wrote.laid ∙ sets-eq text l 0 (omega (arith, p.short)) in
    record { counted = rw (t, ← e) k; laid = rw (t, ← e, k, ← z) q; room = p.wrote.room }
