-- The public calls: what they accept, and what they leave where they do not.
use Rattle.std.proofs.Common.{ℕ, ◌<◌, ◌≤◌, ◌≡◌, refl, Bool, true, false, not, IsTrue, Option, None, List, length, ◌&&◌}
use lib.Ieee.{Float}
use lib.Dec.{leb}
use borrow.Author.Tests.{le-leb, lt-leb}
use Rattle.std.proofs.Math.Bool.{and-false}
use Rattle.box_rows.specs.Rows as box
use Rattle.box_rows.specs.Rows.{sized}
use Rattle.exact_pass.specs.Ray.{ray}
use Rattle.exact_pass.specs.Promise.{fits, reply, ray_reply, Left, Front}
use Rattle.exact_pass.specs.Private.{Ran}
use Rattle.exact_pass.specs.declared.Exact.{Exact}
use Rattle.exact_pass.specs.declared.Exact.TheVariants.{Failed}

-- lists that do not fit one another
unsized : (p : box.Problem) (states values rows : ℕ) → IsTrue (not (sized p)) → fits p states values rows ≡ false
unsized p states values rows h = let e : sized p ≡ false = go (sized p) h in rw e
  where
    go : (b : Bool) → IsTrue (not b) → b ≡ false
    go true h = cc
    go false h = refl

-- of the pass
module _ (p : box.Problem) (st : List ℕ) (nu : List Float) (rows : List ℕ) (work : List Float) where
  left_as_it_was : leb 1120 (length work) && fits p (length st) (length nu) (length rows) ≡ false → Left p st nu rows work Failed st nu rows work
  unfolding reply
  left_as_it_was g = record { passed = rw g (record { answer = refl; tried = refl; listed = refl }); workspace = rw g refl }

  pub left_unfit : fits p (length st) (length nu) (length rows) ≡ false → Left p st nu rows work Failed st nu rows work
  left_unfit g = left_as_it_was (rw g (and-false (leb 1120 (length work))))

  pub left_unsized : IsTrue (not (sized p)) → Left p st nu rows work Failed st nu rows work
  left_unsized h = left_unfit (unsized p _ _ _ h)

  pub left_short : length work < 1120 → Left p st nu rows work Failed st nu rows work
  left_short h = left_as_it_was (rw (lt-leb 1120 (length work) h))

  pub left_passed : (a : Exact) (st' : List ℕ) (nu' : List Float) (rows' : List ℕ) (work' : List Float) → 1120 ≤ length work → fits p (length st) (length nu) (length rows) ≡ true → Ran p st nu rows work a nu' st' rows' work' → Left p st nu rows work a st' nu' rows' work'
  unfolding reply
  left_passed a st' nu' rows' work' h g r =
      let l = le-leb 1120 (length work) h in
      record { passed = rw (l, g) r.passed; workspace = rw (l, g) r.workspace }

module _ (p : box.Problem) (st : List ℕ) (y : List Float) (rows : List ℕ) where
  pub ray_fits : (k : Option ℕ) (rows' : List ℕ) → fits p (length st) (length y) (length rows) ≡ true → Front (ray p st y) rows k rows' → Front (ray_reply p st y rows) rows k rows'
  unfolding ray_reply
  ray_fits k rows' g h = rw g h

  pub ray_unfit : fits p (length st) (length y) (length rows) ≡ false → Front (ray_reply p st y rows) rows None rows
  unfolding ray_reply
  ray_unfit g = rw g (record { count = refl; front = refl })

  pub ray_unsized : IsTrue (not (sized p)) → Front (ray_reply p st y rows) rows None rows
  ray_unsized h = ray_unfit (unsized p _ _ _ h)
