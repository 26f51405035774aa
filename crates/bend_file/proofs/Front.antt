-- A step that ends at a place of the file is the same in the file as far as that place.
use Rattle.std.proofs.Common.{◌≡◌, ℕ, ◌+◌, ◌-◌, ◌*◌, ◌≤◌, ◌<◌, Bool, true, false, leb, List, length, take, arith, refl}
use Rattle.std.proofs.lemmas.List.{get_or-take}
use lib.Seq.{length-take-le}
use borrow.Author.Tests.{leb-true}
use Rattle.refusals.specs.Calls.{unless}
use Rattle.bend_file.specs.Little.{byte, u16, u32}
use Rattle.bend_file.specs.Trailer.{start, rows, coords, count, marked, counted, trailer_refusal}
use Rattle.bend_file.specs.Chain.{link_at, link, preceded, backward, reaching_from, link_refusal, step_refusal}
use Rattle.bend_file.specs.Private.{step}

module _ (f : List ℕ) (end : ℕ) where
  byte-front : (at : ℕ) → at < end → byte (take end f) at ≡ byte f at
  byte-front at h = get_or-take end f at 0 h

  u16-front : (at : ℕ) → at + 2 ≤ end → u16 (take end f) at ≡ u16 f at
  unfolding u16
  u16-front at h = rw (byte-front at (omega arith), byte-front (at + 1) (omega arith))

  u32-front : (at : ℕ) → at + 4 ≤ end → u32 (take end f) at ≡ u32 f at
  unfolding u32
  u32-front at h = rw (u16-front at (omega arith), u16-front (at + 2) (omega arith))

  module _ (h : 16 ≤ end) where
    marked-front : marked (take end f) end ≡ marked f end
    unfolding marked
    marked-front =
        rw (
          byte-front (end - 4) (omega arith),
          byte-front (end - 3) (omega arith),
          byte-front (end - 2) (omega arith),
          byte-front (end - 1) (omega arith),
        )

    start-front : start (take end f) end ≡ start f end
    unfolding start
    start-front = u32-front (end - 16) (omega arith)

    rows-front : rows (take end f) end ≡ rows f end
    unfolding rows
    rows-front = u16-front (end - 12) (omega arith)

    coords-front : coords (take end f) end ≡ coords f end
    unfolding coords
    coords-front = u16-front (end - 10) (omega arith)

    count-front : count (take end f) end ≡ count f end
    unfolding count
    count-front = u32-front (end - 8) (omega arith)

    link_at-front : link_at (take end f) end ≡ link_at f end
    unfolding link_at
    link_at-front = rw count-front

    link-front : link (take end f) end ≡ link f end
    unfolding link link_at
    link-front = rw count-front (u32-front (end - (20 + 8 * count f end)) (omega arith))

    step-front : step (take end f) end ≡ step f end
    step-front = rw (link-front, start-front, rows-front, coords-front, count-front)

    refusal-front : step_refusal (take end f) end ≡ step_refusal f end
    unfolding step_refusal trailer_refusal counted link_refusal preceded backward reaching_from
    refusal-front =
        rw (link-front, link_at-front, marked-front, start-front, rows-front, coords-front, count-front)

  pub front : end ≤ length f
      → unless (step_refusal (take end f) (length (take end f))) (step (take end f) (length (take end f)))
      ≡ unless (step_refusal f end) (step f end)
  unfolding step_refusal
  front h = rw (length-take-le end f h) (go (leb 16 end) refl)
    where
      go : (b : Bool) → leb 16 end ≡ b → unless (step_refusal (take end f) end) (step (take end f) end) ≡ unless (step_refusal f end) (step f end)
      go true e = let k = leb-true 16 end e in rw (refusal-front k, step-front k)
      go false e = rw e
