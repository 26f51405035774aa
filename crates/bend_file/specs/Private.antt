-- Words of private contracts. No promise of a public call stands on them; those are in Read.antt and Chain.antt.
-- Definitions only.
use Rattle.std.specs.Prelude.{ℕ, ◌+◌, ◌*◌, ◌≤◌, ◌≡◌, true, List, length, slice_get, Option, option_map, Result}
use Rattle.refusals.specs.declared.Refusal.{Refusal}
use Rattle.refusals.specs.Calls.{result_map}
use Rattle.bend_file.specs.Trailer.{start, rows, coords, count, marked, Small, wanted}
use Rattle.bend_file.specs.Read as read
use Rattle.bend_file.specs.Chain.{span, link_at, link}
use Rattle.bend_file.specs.declared.trailer.Values.{Values}
use Rattle.bend_file.specs.declared.step.Step.{Step}
use Rattle.bend_file.specs.declared.lent.Lent.{Lent}

-- a step of the file that keeps its rules, each as a fact
pub record Kept (f : List ℕ) (end : ℕ) : Type 0 where
  pub least : 16 ≤ end
  pub most : end ≤ 1048576
  pub within : end ≤ length f
  pub mark : marked f end ≡ true
  pub fair : Small (rows f end) (coords f end)
  pub full : count f end ≡ wanted (rows f end) (coords f end)
  pub room : span f end ≤ end
  pub back : link f end ≤ link_at f end
  pub reach : link f end + start f end + 8 * count f end + 16 ≡ end

-- where the values are of which the trailer that ends at `end` says that the first is at s
abbrev pub values_from : List ℕ → ℕ → ℕ → Values
values_from f s end = record { start = s; rows = rows f end; coords = coords f end; count = count f end }

-- in a file by itself, start counts from 0; in a step, from the linked offset
abbrev pub values : List ℕ → ℕ → Values
values f end = values_from f (start f end) end

abbrev pub step : List ℕ → ℕ → Step
step f end = record { link = link f end; values = values_from f (link f end + start f end) end }

abbrev pub step_values : List ℕ → ℕ → Values
step_values f end = (step f end).values

-- where the values of step number k are, of a file whose steps end as r says
unfoldable pub found : List ℕ → ℕ → Result (List ℕ) Refusal → Result (Option Values) Refusal
found f k r = result_map (λ s. option_map (step_values f) (slice_get s k)) r

-- what the lent buffers hold
abbrev pub held : Lent → read.Lent
held b =
    record {
      w = b.w.now;
      u_free = b.u_free.now;
      lo = b.lo.now;
      hi = b.hi.now;
      scale = b.scale.now;
      nu = b.nu.now;
      motion = b.motion.now;
    }

-- the problem at v
abbrev pub problem : List ℕ → Values → read.Problem
problem f v = read.problem f v.start v.rows v.coords

-- the values lie in the file
pub record Inside (f : List ℕ) (v : Values) : Type 0 where
  pub inside : v.start + 8 * wanted v.rows v.coords ≤ length f
  pub small : Small v.rows v.coords

-- n rows and c coordinates have room in the buffers
pub record Room (n c : ℕ) (b : read.Lent) : Type 0 where
  pub w : n * n ≤ length b.w
  pub u_free : n ≤ length b.u_free
  pub lo : n ≤ length b.lo
  pub hi : n ≤ length b.hi
  pub scale : n ≤ length b.scale
  pub nu : n ≤ length b.nu
  pub motion : c * n ≤ length b.motion

-- the references are still the same
pub record Same (b a : Lent) : Type 0 where
  pub w : a.w.ghost_name ≡ b.w.ghost_name
  pub u_free : a.u_free.ghost_name ≡ b.u_free.ghost_name
  pub lo : a.lo.ghost_name ≡ b.lo.ghost_name
  pub hi : a.hi.ghost_name ≡ b.hi.ghost_name
  pub scale : a.scale.ghost_name ≡ b.scale.ghost_name
  pub nu : a.nu.ghost_name ≡ b.nu.ghost_name
  pub motion : a.motion.ghost_name ≡ b.motion.ghost_name
