-- What the writer's tests, one after another, say of a step and of a pull.
use Rattle.std.proofs.Common.{◌≡◌, ℕ, ◌*◌, ◌≤◌, ◌<◌, Bool, true, false, cond, ◌&&◌, leb, eqb, Option, Some, None, Result, Ok, Err, List, length, arith, refl, sym, ◌∙◌}
use mathlib.Core.Bool.{and-false}
use native.Mathlib.Nat.{mul-le-mul}
use borrow.Author.Tests.{le-leb, lt-leb, leb-true, eq-eqb, ne_eqb, eqb-true}
use Rattle.loops.proofs.Every.{both_true}
use Rattle.refusals.specs.declared.Refusal.{Refusal}
use Rattle.refusals.specs.declared.Refusal.TheVariants.{FileLimits, FileCount, Short, Steps}
use Rattle.refusals.specs.Calls.{unless}
use Rattle.refusals.proofs.Calls.{taken, refused, rule-kept, both-kept}
use Rattle.bend_file.specs.Little.{over}
use Rattle.bend_file.specs.Trailer.{small, wanted}
use Rattle.bend_writer.specs.Private.{had, checked, Room}
use Rattle.bend_writer.specs.Steps.{Step, file, fair, ruled, steps_refusal, several, refusal}
use Rattle.bend_writer.specs.Write.{answer, result, left, Writes}

-- ---- a step's rules

pub square-fits : (n : ℕ) → n ≤ 32 → n * n ≤ 1024
square-fits n h = mul-le-mul h h

pub had-all : (count left : ℕ) → count ≤ left → had count left ≡ count
unfolding had
had-all count left h = rw (le-leb count left h)

pub had-none : (count left : ℕ) → left < count → had count left ≡ 0
unfolding had
had-none count left h = rw (lt-leb count left h)

module _ (n c count : ℕ) where
  pub too_large : small n c ≡ false → ruled n c count ≡ Some FileLimits
  unfolding ruled fair
  too_large h = rw h

  pub wide : 65535 < c → ruled n c count ≡ Some FileLimits
  unfolding ruled fair
  wide h = rw (lt-leb c 65535 h, and-false)

  module _ (is-small : small n c ≡ true) (narrow : c ≤ 65535) where
    is-fair : fair n c ≡ true
    unfolding fair
    is-fair = rw (is-small, le-leb c 65535 narrow)

    pub miscounted : (count ≡ wanted n c → ⊥) → ruled n c count ≡ Some FileCount
    unfolding ruled
    miscounted h = rw (is-fair, ne_eqb count (wanted n c) h)

    pub kept : count ≡ wanted n c → ruled n c count ≡ None
    unfolding ruled
    kept h = rw (is-fair, eq-eqb count (wanted n c) h)

-- what a step that keeps its rules has
pub record Kept (n c count : ℕ) : Type 0 where
  pub few : n ≤ 32
  pub narrow : c ≤ 65535
  pub moving : c * n ≤ 2048
  pub counted : count ≡ wanted n c

pub rules-kept : (n c count : ℕ) → ruled n c count ≡ None → Kept n c count
unfolding ruled fair
rules-kept n c count e =
    let p = rule-kept (fair n c) _ _ e in
    let q = rule-kept (eqb count (wanted n c)) _ _ p.1 in
    let s = both_true (leb n 32 && leb (c * n) 2048) (leb c 65535) p.0 in
    let t = both_true (leb n 32) (leb (c * n) 2048) s.0 in
    record { few = leb-true n 32 t.0; narrow = leb-true c 65535 s.1; moving = leb-true (c * n) 2048 t.1; counted = eqb-true count (wanted n c) q.0 }

-- ---- the pull's

module _ (l : List Step) (room : ℕ) where
  pub not-several : several (length l) ≡ false → Err Steps ≡ result (answer l room)
  unfolding answer refusal
  not-several h = rw h

  module _ (some : several (length l) ≡ true) where
    pub step-refused : (r : Refusal) → Err r ≡ checked l → Err r ≡ result (answer l room)
    unfolding checked answer refusal
    step-refused r h = rw (some, refused _ _ r h)

    module _ (bytes : ℕ) (h : Ok bytes ≡ checked l) where
      kept_all : (steps_refusal l ≡ None) × (bytes ≡ length (file l))
      unfolding checked
      kept_all = taken _ _ bytes h

      pub short : room < bytes → Err Short ≡ result (answer l room)
      unfolding answer refusal
      short g = let k = kept_all in rw (some, k.0, lt-leb (length (file l)) room (omega (arith, k.1)))

      pub enough : bytes ≤ room → Ok bytes ≡ result (answer l room)
      unfolding answer refusal
      enough g = let k = kept_all in rw (some, k.0, le-leb (length (file l)) room (omega (arith, k.1)), k.1)

-- ---- what is left in the output

-- what no refusal says
pub accepted : (l : List Step) (room : ℕ) → refusal l room ≡ None → (several (length l) ≡ true) × Room l room
unfolding refusal
accepted l room e =
    let p = rule-kept (several (length l)) _ _ e in
    let q = both-kept _ _ p.1 in
    (p.0, record { kept = q.0; fits = go (leb (length (file l)) room) refl q.1 })
  where
    go : (b : Bool) → leb (length (file l)) room ≡ b → cond b None (Some Short) ≡ None → length (file l) ≤ room
    go true f h = leb-true (length (file l)) room f
    go false f h = absurd (cc)

pub written_is : (l : List Step) (room : ℕ) (f : List ℕ) → answer l room ≡ Ok f → (refusal l room ≡ None) × (file l ≡ f)
unfolding answer
written_is l room f h = let t = taken _ _ f (sym h) in (t.0, sym t.1)

module _ (l : List Step) (room bytes : ℕ) (h : Ok bytes ≡ result (answer l room)) where
  pub answered : (refusal l room ≡ None) × (bytes ≡ length (file l))
  unfolding answer
  answered = go (refusal l room) h
    where
      go : (o : Option Refusal) → Ok bytes ≡ result (unless o (file l)) → (o ≡ None) × (bytes ≡ length (file l))
      go None g = (refl, (cc))
      go (Some r) g = (absurd (cc), absurd (cc))

  pub left-written : (out : List ℕ) → left (answer l room) out ≡ over (file l) out
  unfolding answer
  left-written out = rw answered.0

  pub has_room : Room l room
  has_room = (accepted l room answered.0).1

pub refusal-written : (l : List Step) (r : Refusal) (out : List ℕ) → Err r ≡ result (answer l (length out)) → Writes l (Err r) out out
refusal-written l r out h = record { result = h; output = go (answer l (length out)) h }
  where
    go : (a : Result (List ℕ) Refusal) → Err r ≡ result a → out ≡ left a out
    go (Err q) g = refl
    go (Ok f) g = absurd (cc)

pub file-written : (l : List Step) (bytes : ℕ) (out after : List ℕ) → Ok bytes ≡ result (answer l (length out)) → after ≡ over (file l) out → Writes l (Ok bytes) out after
file-written l bytes out after h e = record { result = h; output = e ∙ sym (left-written l (length out) bytes h out) }
