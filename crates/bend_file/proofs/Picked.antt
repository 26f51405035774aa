-- The step that a caller asks for: where the reader finds it, and that it is the step of the file's pull.
use Rattle.std.proofs.Common.{◌≡◌, ℕ, ◌≤◌, ◌<◌, Bool, true, false, leb, Option, Some, None, option_map, Result, Ok, Err, List, length, get_or, drop, replicate, map, arith, refl, ◌∙◌, ap}
use Rattle.std.specs.List.{slice_get}
use Rattle.std.proofs.lemmas.Option.{slice_get-map, slice_get_past, slice_get-get_or}
use lib.ListN.{get_or-append}
use borrow.Author.Tests.{leb-true, leb-false}
use Rattle.loops.proofs.Every.{both_true}
use Rattle.refusals.specs.declared.Refusal.{Refusal}
use Rattle.refusals.specs.declared.Refusal.TheVariants.{Short}
use Rattle.refusals.specs.Calls.{unless, result_map}
use Rattle.refusals.proofs.Calls.{taken, refused}
use Rattle.bend_file.specs.Trailer.{Small}
use Rattle.bend_file.specs.Read as read
use Rattle.bend_file.specs.Chain as chain
use Rattle.bend_file.specs.Chain.{told, ReadsStep}
use Rattle.bend_file.specs.Private as private
use Rattle.bend_file.specs.Private.{Kept, Inside, Room, found}
use Rattle.bend_file.specs.declared.Shape.{Shape}
use Rattle.bend_file.specs.declared.chain.Chain.{Chain}
use Rattle.bend_file.specs.declared.step.Step.{Step}
use Rattle.bend_file.specs.declared.trailer.Values.{Values}
use Rattle.bend_file.proofs.StepRules.{kept_back}
use Rattle.bend_file.proofs.Chained.{Fine, fine}

-- ---- where the step is: `steps` gave c

module _ (f : List ℕ) (k : ℕ) where
  pub found-refused : (r : Refusal) → Err r ≡ told (chain.ends f) → Err r ≡ found f k (chain.ends f)
  unfolding found
  found-refused r e = go (chain.ends f) e
    where
      go : (v : Result (List ℕ) Refusal) → Err r ≡ told v → Err r ≡ result_map (λ s. option_map (private.step_values f) (slice_get s k)) v
      go (Ok s) q = absurd (cc)
      go (Err q) h = cc

  module _ (c : Chain) (e : Ok c ≡ told (chain.ends f)) where
    pub found-past : c.count ≤ k → Ok None ≡ found f k (chain.ends f)
    unfolding found
    found-past h = go (chain.ends f) e
      where
        go : (v : Result (List ℕ) Refusal) → Ok c ≡ told v → Ok None ≡ result_map (λ s. option_map (private.step_values f) (slice_get s k)) v
        go (Err r) q = absurd (cc)
        go (Ok s) q = let l : c ≡ chain.chain_of s = cc in rw (slice_get_past s k (omega (arith, ap (λ (x : Chain). x.count) l)))

    -- step k keeps its rules, and is what the reader reads there
    pub record Here (v : Result (List ℕ) Refusal) : Type 0 where
      pub fits : k < 40
      pub keeps : Kept f (get_or c.ends k 0)
      pub same : Ok (Some (private.step_values f (get_or c.ends k 0))) ≡ found f k v

    pub found_at : k < c.count → Here (chain.ends f)
    unfolding found
    found_at h = go (chain.ends f) (fine f) e
      where
        go : (v : Result (List ℕ) Refusal) → Fine f v → Ok c ≡ told v → Here v
        go (Err r) g q = absurd (cc)
        go (Ok s) g q =
            let l : c ≡ chain.chain_of s = cc in
            let less : k < length s = omega (arith, ap (λ (x : Chain). x.count) l) in
            let same : get_or c.ends k 0 ≡ get_or s k 0 = ap (λ (x : Chain). get_or x.ends k 0) l ∙ get_or-append s
            (drop (length s) (replicate 40 0)) 0 k less in
            record { fits = omega (arith, g.0); keeps = rw same (g.1 k less); same = rw (same, slice_get-get_or s k 0 less) }

    module _ (h : k < c.count) where
      pub not-refused : (r : Refusal) → Err r ≡ unless (chain.step_refusal f (get_or c.ends k 0)) (private.step f (get_or c.ends k 0)) → ⊥
      not-refused r q = let none = kept_back f _ (found_at h).keeps in cc (none, refused _ _ r q)

      pub found-here : (s : Step) → Ok s ≡ unless (chain.step_refusal f (get_or c.ends k 0)) (private.step f (get_or c.ends k 0)) → Ok (Some s.values) ≡ found f k (chain.ends f)
      found-here s q = ap (λ (x : Step). Ok (Some x.values)) (taken _ _ s q).1 ∙ (found_at h).same

  -- ---- the step of the pull

  picked-is : chain.picked (chain.pull f) k ≡ result_map (option_map (private.problem f)) (found f k (chain.ends f))
  unfolding chain.picked chain.pull chain.step_problem found
  picked-is = go (chain.ends f)
    where
      each : (o : Option ℕ) → option_map (chain.step_problem f) o ≡ option_map (private.problem f) (option_map (private.step_values f) o)
      each None = refl
      each (Some end) = refl

      go : (v : Result (List ℕ) Refusal) → chain.picked (result_map (map (chain.step_problem f)) v) k
          ≡ result_map (option_map (private.problem f)) (result_map (λ s. option_map (private.step_values f) (slice_get s k)) v)
      go (Err r) = refl
      go (Ok s) = λ i. Ok ((slice_get-map (chain.step_problem f) s k ∙ each (slice_get s k)) i)

  pub inside : (v : Values) → Ok (Some v) ≡ found f k (chain.ends f) → Inside f v
  unfolding found
  inside v e = go (chain.ends f) (fine f) e
    where
      go : (r : Result (List ℕ) Refusal) → Fine f r → Ok (Some v) ≡ result_map (λ s. option_map (private.step_values f) (slice_get s k)) r → Inside f v
      go (Err r) g q = absurd (cc)
      go (Ok s) g q = split (leb (length s) k) refl
        where
          split : (b : Bool) → leb (length s) k ≡ b → Inside f v
          split true i = let none = rw (slice_get_past s k (leb-true (length s) k i)) at q in absurd (cc)
          split false i =
              let less = leb-false (length s) k i in
              let some = rw (slice_get-get_or s k 0 less) at q in
              let is : v ≡ private.step_values f (get_or s k 0) = cc in
              let h = g.1 k less in
              rw is (record { inside = omega (arith, h.reach, h.full, h.within); small = h.fair })

-- the buffers' lengths, where they have room for the largest step
pub room : (n c : ℕ) (b : read.Lent) → chain.roomy b ≡ true → Small n c → Room n c b
room n c b e s =
    let e6 = both_true _ (leb 2048 (length b.motion)) e in
    let e5 = both_true _ (leb 32 (length b.nu)) e6.0 in
    let e4 = both_true _ (leb 32 (length b.scale)) e5.0 in
    let e3 = both_true _ (leb 32 (length b.hi)) e4.0 in
    let e2 = both_true _ (leb 32 (length b.lo)) e3.0 in
    let e1 = both_true (leb 1024 (length b.w)) (leb 32 (length b.u_free)) e2.0 in
    record {
      w = omega (arith, leb-true 1024 (length b.w) e1.0);
      u_free = omega (arith, leb-true 32 (length b.u_free) e1.1);
      lo = omega (arith, leb-true 32 (length b.lo) e2.1);
      hi = omega (arith, leb-true 32 (length b.hi) e3.1);
      scale = omega (arith, leb-true 32 (length b.scale) e4.1);
      nu = omega (arith, leb-true 32 (length b.nu) e5.1);
      motion = omega (arith, leb-true 2048 (length b.motion) e6.1);
    }

-- ---- the call: `find` gave r

module _ (f : List ℕ) (k : ℕ) (b : read.Lent) where
  pub reads_short : chain.roomy b ≡ false → ReadsStep f k (Err Short) b b
  unfolding chain.step_answer
  reads_short h = record { result = rw h; buffers = rw h }

  module _ (wide : chain.roomy b ≡ true) where
    answer-is : (r : Result (Option Values) Refusal) → r ≡ found f k (chain.ends f) → chain.step_answer f k b ≡ result_map (option_map (private.problem f)) r
    unfolding chain.step_answer
    answer-is r e = rw (wide, e) (picked-is f k)

    pub reads-refused : (r : Refusal) → Err r ≡ found f k (chain.ends f) → ReadsStep f k (Err r) b b
    reads-refused r e = let q = answer-is _ e in record { result = rw q; buffers = rw q }

    pub reads-past : Ok None ≡ found f k (chain.ends f) → ReadsStep f k (Ok None) b b
    reads-past e = let q = answer-is _ e in record { result = rw q; buffers = rw q }

    pub reads-found : (v : Values) (s : Shape) (after : read.Lent) → Ok (Some v) ≡ found f k (chain.ends f) → s ≡ read.shape (private.problem f v)
        → after ≡ read.with_problem (private.problem f v) b → ReadsStep f k (Ok (Some s)) b after
    reads-found v s after e g h = let q = answer-is _ e in record { result = rw (q, g); buffers = rw q h }
