-- The one walk over a ray's rows has, after any number of them, the rows that collecting gives and the farthest of these.
use Rattle.loops.proofs.Common.{ℕ, zero, suc, ◌≤◌, ◌≡◌, refl, Bool, true, false, cond, List, [], ◌∷◌, ◌++◌, arith, length, Float}
use lib.ListN.{length-append, get_or-append}
use lib.Seq.{get_or-append_seam}
use Rattle.loops.specs.Loops.{turns}
use Rattle.floats.specs.Ops.{at}
use Rattle.floats.specs.Helpers.{larger}
use Rattle.box_rows.specs.Rows as box
use Rattle.exact_pass.specs.Ray as rays
use Rattle.exact_pass.specs.Walk.{size_at, dropped, collected, farthest, walk, walk_row, walked, walked_after, OneWalk}

module _ (scale y : List Float) where
  -- the farthest over the first places of a list, whatever follows them
  farthest-front : (l r : List ℕ) (k : ℕ) → k ≤ length l → farthest scale y (l ++ r) k ≡ farthest scale y l k
  unfolding farthest turns
  farthest-front l r zero h = refl
  farthest-front l r (suc k) h = rw (get_or-append l r 0 k h, farthest-front l r k (omega arith))

  -- a row put at the end is the last one walked over
  farthest_snoc : (l : List ℕ) (a : ℕ) → farthest scale y (l ++ (a ∷ [])) (length (l ++ (a ∷ []))) ≡ larger (farthest scale y l (length l)) (size_at scale y a)
  unfolding farthest turns
  farthest_snoc l a =
      let e : length (l ++ (a ∷ [])) ≡ suc (length l) = simp length-append (omega arith) in
      rw (e, get_or-append_seam l a [] 0, farthest-front l (a ∷ []) (length l) (omega arith))

  -- one row more: a row that is dropped, one that is taken and one that ends the walk
  walk_after : (drop grow : Bool) (a : ℕ) (l : List ℕ) → walk drop grow a (size_at scale y a) (walked_after scale y (rays.these l)) ≡ walked_after scale y (cond drop (rays.these l) (cond grow (rays.these (l ++ (a ∷ []))) rays.none))
  unfolding walk walked_after
  walk_after true grow a l = refl
  walk_after false true a l = rw (farthest_snoc l a)
  walk_after false false a l = refl

pub one-walk : OneWalk
unfolding walked walk_row walk walked_after dropped box.grows collected rays.collect farthest turns
one-walk lo hi scale st y least zero = refl
one-walk lo hi scale st y least (suc k) = rw (one-walk lo hi scale st y least k) (more (collected lo hi scale st y least k))
  where
    more : (c : rays.Collected) → walk_row lo hi scale st y least k (walked_after scale y c) ≡ walked_after scale y (rays.collect lo hi scale st y least k c)
    more rays.none = refl
    more (rays.these l) = walk_after scale y (dropped (box.acts st k) (size_at scale y k) least) (box.grows (at y k) (at lo k) (at hi k)) k l
