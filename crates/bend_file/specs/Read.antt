-- The problem that a bend file holds. Definitions only.
use Rattle.std.specs.Prelude.{ℕ, ◌+◌, ◌*◌, ◌≡◌, List, Float, length, Result, Ok, Err}
use Rattle.refusals.specs.declared.Refusal.{Refusal}
use Rattle.refusals.specs.Calls.{unless, result_map}
use Rattle.bend_file.specs.Little.{value, values, over}
use Rattle.bend_file.specs.Trailer.{start, rows, coords, refusal}
use Rattle.bend_file.specs.declared.Shape.{Shape}

pub record Problem : Type 0 where
  pub rows : ℕ
  pub coords : ℕ
  pub w : List Float
  pub u_free : List Float
  pub lo : List Float
  pub hi : List Float
  pub scale : List Float
  pub nu : List Float
  pub motion : List Float
  pub tolerance : Float

-- n rows and c coordinates, the values one after another from s on
unfoldable pub problem : List ℕ → ℕ → ℕ → ℕ → Problem
problem f s n c =
    record {
      rows = n;
      coords = c;
      w = values f s 0 (n * n);
      u_free = values f s (n * n) n;
      lo = values f s (n * n + n) n;
      hi = values f s (n * n + 2 * n) n;
      scale = values f s (n * n + 3 * n) n;
      nu = values f s (n * n + 4 * n) n;
      motion = values f s (n * n + 5 * n) (c * n);
      tolerance = value f (s + 8 * (n * n + 5 * n + c * n));
    }

-- an answer, as document 01 has it: the problem, or a refusal and nothing else
unfoldable pub answer : List ℕ → Result Problem Refusal
answer f = let end = length f in unless (refusal f) (problem f (start f end) (rows f end) (coords f end))

-- ---- what the call gives back

abbrev pub shape : Problem → Shape
shape p = record { rows = p.rows; coords = p.coords; tolerance = p.tolerance }

abbrev pub reading : Result Problem Refusal → Result Shape Refusal
reading a = result_map shape a

-- the lent buffers
pub record Lent : Type 0 where
  pub w : List Float
  pub u_free : List Float
  pub lo : List Float
  pub hi : List Float
  pub scale : List Float
  pub nu : List Float
  pub motion : List Float

-- the buffers with the problem's values at their fronts
abbrev pub with_problem : Problem → Lent → Lent
with_problem p b =
    record {
      w = over p.w b.w;
      u_free = over p.u_free b.u_free;
      lo = over p.lo b.lo;
      hi = over p.hi b.hi;
      scale = over p.scale b.scale;
      nu = over p.nu b.nu;
      motion = over p.motion b.motion;
    }

-- the buffers afterwards: unchanged by a refusal, else each with the problem's values at its front
abbrev pub filled : Result Problem Refusal → Lent → Lent
filled (Err r) b = b
filled (Ok p) b = with_problem p b

-- what `read` ensures: its result and what it leaves in the buffers are those of the file's answer
pub record Reads (f : List ℕ) (r : Result Shape Refusal) (before after : Lent) : Type 0 where
  pub result : r ≡ reading (answer f)
  pub buffers : after ≡ filled (answer f) before
