-- Document 01's bend file and document 02's chained one, sentence by sentence: which bytes are a file of which problem,
-- or of which steps. That the readers' answers are these and nothing else is proved in proofs/Accepted.antt and
-- proofs/Chained.antt.
use Rattle.std.specs.Prelude.{ℕ, ◌+◌, ◌-◌, ◌*◌, ◌≤◌, ◌≡◌, List, [], ◌∷◌, length, take, drop}
use Rattle.bend_file.specs.Little.{u16, u32}
use Rattle.bend_file.specs.Read.{Problem, problem}

-- start, rows, coords, count: the trailer's first 12 bytes
pub record BendFile (f : List ℕ) (start count : ℕ) (p : Problem) : Type 0 where
  -- a file of 16 to 65,536 bytes
  pub least : 16 ≤ length f
  pub most : length f ≤ 65536
  -- its last 16 bytes: start, rows, coords, count, mark
  pub at_start : u32 f (length f - 16) ≡ start
  pub at_rows : u16 f (length f - 12) ≡ p.rows
  pub at_coords : u16 f (length f - 10) ≡ p.coords
  pub at_count : u32 f (length f - 8) ≡ count
  pub mark : take 4 (drop (length f - 4) f) ≡ 0x42 ∷ 0x45 ∷ 0x4E ∷ 0x44 ∷ []
  -- n at most 32, coords * n at most 2,048
  pub few_rows : p.rows ≤ 32
  pub few_moving : p.coords * p.rows ≤ 2048
  -- the count and the length
  pub counted : count ≡ p.rows * p.rows + 5 * p.rows + p.coords * p.rows + 1
  pub reaching : start + 8 * count + 16 ≡ length f
  -- from start: W, u_free, lo, hi, scale, nu, motion, tolerance
  pub values : p ≡ problem f start p.rows p.coords

-- One step of a chained bend file: its trailer ends at `end`, and the previous step's at `link`.
pub record StepFile (f : List ℕ) (end link start count : ℕ) (p : Problem) : Type 0 where
  pub least : 16 ≤ end
  -- the 16 bytes before its end: start, rows, coords, count, mark
  pub at_start : u32 f (end - 16) ≡ start
  pub at_rows : u16 f (end - 12) ≡ p.rows
  pub at_coords : u16 f (end - 10) ≡ p.coords
  pub at_count : u32 f (end - 8) ≡ count
  pub mark : take 4 (drop (end - 4) f) ≡ 0x42 ∷ 0x45 ∷ 0x4E ∷ 0x44 ∷ []
  -- n at most 32, coords * n at most 2,048, and the count
  pub few_rows : p.rows ≤ 32
  pub few_moving : p.coords * p.rows ≤ 2048
  pub counted : count ≡ p.rows * p.rows + 5 * p.rows + p.coords * p.rows + 1
  -- the numbers' own place is known from the end and the count, and the four bytes just before them are the link
  pub preceded : 20 + 8 * count ≤ end
  pub at_link : u32 f (end - 16 - 8 * count - 4) ≡ link
  -- the bytes between the linked offset and the link are free
  pub backward : link ≤ end - 16 - 8 * count - 4
  -- start and the length rule count from the linked offset
  pub reaching : start + 8 * count + 16 ≡ end - link
  pub values : p ≡ problem f (link + start) p.rows p.coords

-- The steps from one that ends at `end` back to one with a link of 0: where each ends, and its problem, newest first.
pub data Steps (f : List ℕ) : ℕ → List ℕ → List Problem → Type 0 where
  first : {end start count : ℕ} {p : Problem} → StepFile f end 0 start count p → Steps f end (end ∷ []) (p ∷ [])
  after : {end link start count : ℕ} {p : Problem} {ends : List ℕ} {l : List Problem}
      → StepFile f end link start count p → Steps f link ends l → Steps f end (end ∷ ends) (p ∷ l)

-- A chained bend file.
pub record ChainFile (f : List ℕ) (ends : List ℕ) (l : List Problem) : Type 0 where
  -- the whole is at most 1 MiB
  pub most : length f ≤ 1048576
  -- at most 40 steps, the newest ending with the file
  pub few : length ends ≤ 40
  pub steps : Steps f (length f) ends l
