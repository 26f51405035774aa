-- One step of a pass, from what its calls promise.
use Rattle.std.proofs.Common.{ℕ, ◌+◌, ◌-◌, ◌<◌, ◌≡◌, refl, ap, Bool, true, false, cond, Option, Some, None, IfSome, List, [], ◌∷◌, arith, length, get_or, take, drop, replicate}
use Rattle.std.proofs.lemmas.List.{nil_from_length}
use Rattle.loops.proofs.Turns.{turns_keep, turns_again}
use lib.Ieee.{Float, lt}
use Rattle.floats.specs.Ops.{◌⊖◌, ◌⊘◌, at, 0ᶠ}
use Rattle.floats.specs.Helpers.{is_finite}
use Rattle.box_rows.specs.Rows as box
use Rattle.box_rows.specs.Private.{nearer}
use Rattle.box_rows.specs.declared.Block.{Block}
use Rattle.box_rows.specs.declared.Blocking.{Blocking}
use Rattle.box_rows.specs.declared.RowState.{RowState}
use Rattle.box_rows.specs.declared.RowState.TheVariants.{AtLo, AtHi}
use Rattle.exact_pass.specs.Below.{Below}
use Rattle.exact_pass.specs.Ray.{ray}
use Rattle.exact_pass.specs.Pass as pass
use Rattle.exact_pass.specs.Pass.{Trial, trial}
use Rattle.exact_pass.specs.Private as private
use Rattle.exact_pass.specs.Private.{Passed}
use Rattle.exact_pass.specs.Promise.{Front}
use Rattle.exact_pass.specs.declared.Exact.{Exact}
use Rattle.exact_pass.specs.declared.Exact.TheVariants.{Failed, Infeasible}

-- ---- the blocking row is one of n rows

abbrev pub Blocks : ℕ → Blocking → Type 0
Blocks n r = IfSome r.block (λ (b : Block). b.row < n)

nearer_blocks : (n a : ℕ) (s : RowState) (ratio : Float) (r : Blocking) → a < n → Blocks n r → Blocks n (nearer a s ratio r)
unfolding nearer
nearer_blocks n a s ratio r h g = go (lt ratio r.alpha) refl
  where
    go : (c : Bool) → lt ratio r.alpha ≡ c → Blocks n (nearer a s ratio r)
    go true e = rw e h
    go false e = rw e g

row_blocks : (n a : ℕ) (v y lo hi : Float) (r : Blocking) → a < n → Blocks n r → Blocks n (box.ratio_row a v y lo hi r)
unfolding box.ratio_row nearer
row_blocks n a v y lo hi r h g = go (lt 0ᶠ y) (lt y 0ᶠ)
  where
    go : (b c : Bool) → Blocks n (cond b (nearer a AtHi ((hi ⊖ v) ⊘ y) r) (cond c (nearer a AtLo ((lo ⊖ v) ⊘ y) r) r))
    go true c = nearer_blocks n a AtHi ((hi ⊖ v) ⊘ y) r h g
    go false true = nearer_blocks n a AtLo ((lo ⊖ v) ⊘ y) r h g
    go false false = g

pub ratio_blocks : (lo hi : List Float) (l : List ℕ) (nu y : List Float) (alpha : Float) (n : ℕ) → Below n l → Blocks n (pass.ratio_test lo hi l nu y alpha (length l))
unfolding pass.ratio_test
ratio_blocks lo hi l nu y alpha n below = turns_keep _ _ (λ i r. Blocks n r) (length l) tt λ i r b g. row_blocks n (get_or l i 0) (at nu (get_or l i 0)) (at y i) (at lo (get_or l i 0)) (at hi (get_or l i 0)) r (below i b) g

pub ratio_within : (lo hi : List Float) (l : List ℕ) (nu y : List Float) (alpha : Float) (n : ℕ) (r : Blocking) (block : Block) → r ≡ pass.ratio_test lo hi l nu y alpha (length l) → Below n l → r.block ≡ Some block → block.row < n
ratio_within lo hi l nu y alpha n r block e h s = let g : Blocks n r = rw e (ratio_blocks lo hi l nu y alpha n h) in rw s at g

-- one more row
pub ratio_again : (lo hi : List Float) (l : List ℕ) (nu y : List Float) (alpha : Float) (i : ℕ) {a : ℕ} {v x low high : Float} {r r' : Blocking} → r ≡ pass.ratio_test lo hi l nu y alpha i → a ≡ get_or l i 0 → v ≡ at nu a → x ≡ at y i → low ≡ at lo a → high ≡ at hi a
    → r' ≡ box.ratio_row a v x low high r → r' ≡ pass.ratio_test lo hi l nu y alpha (i + 1)
unfolding pass.ratio_test box.ratio_row nearer
ratio_again lo hi l nu y alpha i h a v x low high e = turns_again _ _ i _ _ h (rw (e, high, low, x, v, a))

-- ---- no bound is met

module _ (p : box.Problem) (st l : List ℕ) (y d : List Float) (rows rows' : List ℕ) (scattered : d ≡ pass.scattered l y (replicate (box.size p) 0ᶠ) (length l)) where
  unmet_failed : (r : List ℕ) (nu : List Float) → Front r rows None rows' → Passed (pass.unmet (trial nu st) r) rows (Some Failed) nu st rows'
  unfolding pass.unmet
  unmet_failed [] nu f = record { answer = refl; tried = refl; listed = f.front }
  unmet_failed (a ∷ r) nu f = cc (f.count)

  unmet_ray : (r : List ℕ) (c : ℕ) (nu : List Float) → Front r rows (Some c) rows' → Passed (pass.unmet (trial nu st) r) rows (Some (Infeasible c)) nu st rows'
  unfolding pass.unmet
  unmet_ray [] c nu f = cc (f.count)
  unmet_ray (a ∷ r) c nu f = let e : c ≡ length (a ∷ r) = cc (f.count) in record { answer = ap (λ (k : ℕ). Some (Infeasible k)) e; tried = refl; listed = f.front }

  pub unbounded_failed : Front (ray p st d) rows None rows' → (nu : List Float) → Passed (private.unbounded p (trial nu st) l y) rows (Some Failed) nu st rows'
  unfolding private.unbounded
  unbounded_failed f nu = rw (← scattered) (unmet_failed (ray p st d) nu f)

  pub unbounded_ray : (c : ℕ) → Front (ray p st d) rows (Some c) rows' → (nu : List Float) → Passed (private.unbounded p (trial nu st) l y) rows (Some (Infeasible c)) nu st rows'
  unfolding private.unbounded
  unbounded_ray c f nu = rw (← scattered) (unmet_ray (ray p st d) c nu f)

-- ---- the step in the direction y, by how the ratio test comes out

module _ (p : box.Problem) (nu : List Float) (st l : List ℕ) (y : List Float) (b : Bool) (r : Blocking) (rows : List ℕ) (test : r ≡ pass.ratio_test p.lo p.hi l nu y (pass.longest b) (length l)) where
  pub taken_unbounded : (e : Exact) (rows' : List ℕ) → is_finite r.alpha ≡ false → ((v : List Float) → Passed (private.unbounded p (trial v st) l y) rows (Some e) v st rows') → Passed (private.take_step p (trial nu st) l y b) rows (Some e) nu st rows'
  unfolding private.take_step
  taken_unbounded e rows' f k = rw (← test, f) (k nu)

  module _ (f : is_finite r.alpha ≡ true) where
    pub taken_released : (e : Option Exact) (nu' : List Float) (st' : List ℕ) → r.block ≡ None → nu' ≡ pass.advance l y r.alpha nu (length l) → ((m : List ℕ) → Passed (pass.release p (trial nu' st)) m e nu' st' m) → Passed (private.take_step p (trial nu st) l y b) rows e nu' st' rows
    unfolding private.take_step
    taken_released e nu' st' s m k = rw (← test, f, s, ← m) (k rows)

    pub taken_held : (block : Block) (nu' nu'' : List Float) (st'' : List ℕ) → r.block ≡ Some block → nu' ≡ pass.advance l y r.alpha nu (length l) → trial nu'' st'' ≡ pass.hold p.lo p.hi (trial nu' st) block → Passed (private.take_step p (trial nu st) l y b) rows None nu'' st'' rows
    unfolding private.take_step
    taken_held block nu' nu'' st'' s m k = rw (← test, f, s, ← m) (record { answer = refl; tried = k; listed = refl })

-- ---- a step, where l lists the free rows

pub part_is : (a k : ℕ) (work : List Float) → take (a + k - a) (drop a work) ≡ private.part a k work
part_is a k work = let e : a + k - a ≡ k = omega arith in rw e

module _ (p : box.Problem) (t : Trial) (l : List ℕ) (rows : List ℕ) (e : Option Exact) (nu' : List Float) (st' rows' : List ℕ) where
  pub step_released : length l ≡ 0 → Passed (pass.release p t) rows e nu' st' rows' → Passed (pass.step_of p t l) rows e nu' st' rows'
  unfolding pass.step_of
  step_released f h = rw (nil_from_length l f) h

  pub step_free : (length l ≡ 0 → ⊥) → (work work' y : List Float) (b : Bool) → private.Directed (pass.target p.w p.u_free p.scale t.states t.nu l) p.scale l t.nu work b work'
      → y ≡ private.part 1056 (length l) work' → Passed (private.take_step p t l y b) rows e nu' st' rows' → private.Stepped (pass.step_of p t l) rows work e nu' st' rows' work'
  unfolding pass.step_of private.take_step private.unbounded
  step_free f work work' y b d h s = go l f d h s
    where
      go : (l : List ℕ) → (length l ≡ 0 → ⊥) → private.Directed (pass.target p.w p.u_free p.scale t.states t.nu l) p.scale l t.nu work b work'
          → y ≡ private.part 1056 (length l) work' → Passed (private.take_step p t l y b) rows e nu' st' rows' → private.Stepped (pass.step_of p t l) rows work e nu' st' rows' work'
      go [] f d h s = absurd (f refl)
      go (a ∷ l) f d h s = record { passed = rw (h, d.direction, d.inconsistent) at s; workspace = d.workspace }
