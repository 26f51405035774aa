-- The claim that what the writer writes reads back as the same steps, by the reader's definitions, which are those of bend_file/specs/Chain.antt. Proved in proofs/RoundTrip.antt.
use Rattle.std.specs.Prelude.{ℕ, ◌+◌, ◌*◌, ◌≡◌, List, [], map, reverse, Float, get_or, take, drop, Ok}
use Rattle.std.specs.Float.{nan}
use Rattle.floats.specs.Ops.{Fits}
use Rattle.bend_file.specs.Read.{Problem}
use Rattle.bend_file.specs.Chain.{pull}
use Rattle.bend_writer.specs.Steps.{Step}
use Rattle.bend_writer.specs.Write.{lent, answer, Writes}

-- `count` values of a step from number `first` on
unfoldable pub run : Step → ℕ → ℕ → List Float
run s first count = take count (drop first s.values)

-- the problem that a step is, its values one after another
unfoldable pub problem_of : Step → Problem
problem_of s =
    let n = s.rows in
    let c = s.coords in
    record {
      rows = n;
      coords = c;
      w = run s 0 (n * n);
      u_free = run s (n * n) n;
      lo = run s (n * n + n) n;
      hi = run s (n * n + 2 * n) n;
      scale = run s (n * n + 3 * n) n;
      nu = run s (n * n + 4 * n) n;
      motion = run s (n * n + 5 * n) (c * n);
      tolerance = get_or s.values (n * n + 5 * n + c * n) nan;
    }

-- every value of every step is one that an f64 holds, as every float of code is. Bit for bit is then equal: all NaNs are one value
abbrev pub nothing : Step
nothing = record { rows = 0; coords = 0; values = [] }

abbrev pub Held : List Step → Type 0
Held l = (k i : ℕ) → Fits (get_or (get_or l k nothing).values i nan)

-- the file of an accepted pull reads back as the same steps, which the reader has newest first
abbrev pub ReadsBack : Type 0
ReadsBack = (l : List Step) (room : ℕ) (f : List ℕ) → Held l → answer l room ≡ Ok f → pull f ≡ Ok (reverse (map problem_of l))

-- the same of the code, of which nothing is known but the contract of the writer: the bytes that it says it wrote
abbrev pub WrittenReadsBack : Type 0
WrittenReadsBack = (l : List Step) (bytes : ℕ) (out after : List ℕ) → Held l → Writes l (Ok bytes) out after → pull (take bytes after) ≡ Ok (reverse (map problem_of l))

-- the same of what `write_chain` and `write_steps` are lent
abbrev pub LentReadsBack : Type 0
LentReadsBack =
    (steps : ℕ) (rows coords counts : List ℕ) (values : List Float) (bytes : ℕ) (out after : List ℕ) → ((i : ℕ) → Fits (get_or values i nan)) → Writes (lent steps rows coords counts values) (Ok bytes) out after
    → pull (take bytes after) ≡ Ok (reverse (map problem_of (lent steps rows coords counts values)))
