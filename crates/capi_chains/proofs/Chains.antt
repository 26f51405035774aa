-- The calls on chained bend files: from what the reader answers to what the caller's slices hold.
use Rattle.std.proofs.Common.{◌≡◌, ℕ, ◌≤◌, ◌<◌, Option, Result, Ok, Err, List, ◌++◌, length, drop, replicate, arith, length-append, length-drop, refl, ◌∙◌, ap}
use mathlib.Core.Bool.{and-false}
use lib.Ieee.{Float}
use lib.ListN.{set, length-replicate}
use lib.Seq.{sets-eq}
use borrow.Author.Tests.{le-leb, lt-leb}
use Rattle.loops.specs.Loops.{fronted}
use Rattle.refusals.specs.Numbers as numbers
use Rattle.refusals.specs.declared.Refusal.{Refusal}
use Rattle.refusals.specs.declared.Refusal.TheVariants.{Short}
use Rattle.bend_file.specs.Read.{Lent}
use Rattle.bend_file.specs.Chain as chain
use Rattle.bend_file.specs.declared.Shape.{Shape}
use Rattle.bend_file.specs.declared.chain.Chain.{Chain}
use Rattle.bend_file.proofs.Chained.{Fine, fine}
use Rattle.capi_chains.specs.Chains as def

-- ---- piskorlu_chain

module _ (f steps l : List ℕ) where
  refused-told : (r : Refusal) → def.told f steps l ≡ Err r → def.Told (def.told f steps l) (numbers.number r) steps steps l l
  refused-told r e = rw e (record { number_is = refl; steps_are = refl; ends_are = refl })

  pub no_steps : length steps < 1 → def.Told (def.told f steps l) 10 steps steps l l
  unfolding def.told
  no_steps h = refused-told Short (rw (lt-leb 1 (length steps) h))

  pub few-ends : length l < 40 → def.Told (def.told f steps l) 10 steps steps l l
  unfolding def.told
  few-ends h = refused-told Short (rw (lt-leb 40 (length l) h, and-false))

  module _ (h : 1 ≤ length steps) (g : 40 ≤ length l) where
    whole : def.told f steps l ≡ chain.ends f
    unfolding def.told
    whole = rw (le-leb 1 (length steps) h, le-leb 40 (length l) g)

    pub chain-refused : (r : Refusal) → Err r ≡ chain.told (chain.ends f) → def.Told (def.told f steps l) (numbers.number r) steps steps l l
    chain-refused r e = refused-told r (whole ∙ go (chain.ends f) e)
      where
        go : (v : Result (List ℕ) Refusal) → Err r ≡ chain.told v → v ≡ Err r
        go (Err q) e = cc
        go (Ok s) e = cc

    -- c is what the reader gave
    module _ (c : Chain) (e : Ok c ≡ chain.told (chain.ends f)) where
      pub ends-long : length c.ends ≡ 40
      ends-long = go (chain.ends f) (fine f) e
        where
          go : (v : Result (List ℕ) Refusal) → Fine f v → Ok c ≡ chain.told v → length c.ends ≡ 40
          go (Err q) k e = absurd (cc)
          go (Ok s) k e =
              let is : c ≡ chain.chain_of s = cc in
              rw is (length-append s (drop (length s) (replicate 40 0)) ∙ omega (arith, k.0, length-drop {A = ℕ} (length s) (replicate 40 0), length-replicate {A = ℕ} 40 0))

      pub chain-taken : (l' : List ℕ) → l' ≡ c.ends → def.Told (def.told f steps l) 0 steps (set steps 0 c.count) l (l' ++ drop 40 l)
      chain-taken l' i = rw whole (go (chain.ends f) e)
        where
          at-front : l' ++ drop 40 l ≡ fronted c.ends l
          at-front = rw (i, sets-eq c.ends l 0 (omega (arith, ends-long)), ends-long)

          go : (v : Result (List ℕ) Refusal) → Ok c ≡ chain.told v → def.Told v 0 steps (set steps 0 c.count) l (l' ++ drop 40 l)
          go (Err q) e = absurd (cc)
          go (Ok s) e =
              let is : c ≡ chain.chain_of s = cc in
              record { number_is = refl; steps_are = rw is; ends_are = at-front ∙ rw is }

-- ---- piskorlu_chain_step

module _ (f : List ℕ) (k : ℕ) (b : Lent) (shape : List ℕ) (tolerance : List Float) where
  short-given : def.given f k b shape tolerance ≡ Err Short → def.Given (def.given f k b shape tolerance) 10 b b shape shape tolerance tolerance
  short-given e = rw e (record { number_is = refl; buffers_are = refl; shape_is = refl; tolerance_is = refl })

  pub no-shape : length shape < 2 → def.Given (def.given f k b shape tolerance) 10 b b shape shape tolerance tolerance
  unfolding def.given
  no-shape h = short-given (rw (lt-leb 2 (length shape) h))

  pub no-tolerance : length tolerance < 1 → def.Given (def.given f k b shape tolerance) 10 b b shape shape tolerance tolerance
  unfolding def.given
  no-tolerance h = short-given (rw (lt-leb 1 (length tolerance) h, and-false))

  pub step_given : 2 ≤ length shape → 1 ≤ length tolerance → (r : Result (Option Shape) Refusal) (b' : Lent) → chain.ReadsStep f k r b b'
      → def.Given (def.given f k b shape tolerance) (def.number_of r) b b' shape (def.shape_of r shape) tolerance (def.tolerance_of r tolerance)
  unfolding def.given
  step_given h g r b' e =
      rw (le-leb 2 (length shape) h, le-leb 1 (length tolerance) g)
      (record {
        number_is = ap def.number_of e.result;
        buffers_are = e.buffers;
        shape_is = ap (λ (x : Result (Option Shape) Refusal). def.shape_of x shape) e.result;
        tolerance_is = ap (λ (x : Result (Option Shape) Refusal). def.tolerance_of x tolerance) e.result;
      })
