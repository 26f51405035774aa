-- A step that the writer laid, read where it stands in a file: its fields, its rules and its problem.
use Prim.Native.Nat.{ℕ, ◌+◌, ◌-◌, ◌*◌, ◌≤◌, ◌<◌}
use mathlib.Core.Path.{◌≡◌, refl, sym, ◌∙◌}
use mathlib.Core.Bool.{true}
use mathlib.Core.List.{List, ◌++◌, append_assoc}
use native.Mathlib.Omega.{arith}
use Rattle.std.proofs.Common.{None}
use lib.Ieee.{nan}
use lib.ListN.{length, get_or, drop, length-append, length-drop}
use lib.Seq.{get_or-drop}
use borrow.Author.Tests.{le-leb, eq-eqb}
use Rattle.floats.specs.Ops.{Fits}
use Rattle.bend_file.specs.Little.{byte, u16, u32, value, values}
use Rattle.bend_file.specs.Trailer.{start, rows, coords, count, marked, small, wanted, counted, trailer_refusal}
use Rattle.bend_file.specs.Read.{problem}
use Rattle.bend_file.specs.Chain as chain
use Rattle.bend_writer.specs.Bytes.{bytes16, bytes32, patterns}
use Rattle.bend_writer.specs.RoundTrip.{run, problem_of}
use Rattle.bend_writer.specs.Steps.{Step, trailer, step_bytes}
use Rattle.bend_writer.proofs.Laying.{length32, length-patterns, length-trailer, length-step}
use Rattle.bend_writer.proofs.Rules.{Kept, square-fits}
use Rattle.bend_writer.proofs.Within.{byte-within, u16-within, u32-within, value-within, read32, read-value, tab-take}

-- ---- the trailer by itself

module _ (n c k : ℕ) where
  trailer-start : u32 (trailer n c k) 0 ≡ 4
  unfolding u32 u16 trailer bytes32 bytes16
  trailer-start = refl

  trailer-rows : n < 65536 → u16 (trailer n c k) 4 ≡ n
  unfolding u16 trailer bytes32 bytes16
  trailer-rows h = omega arith

  trailer-coords : c < 65536 → u16 (trailer n c k) 6 ≡ c
  unfolding u16 trailer bytes32 bytes16
  trailer-coords h = omega arith

  trailer-count : k < 4294967296 → u32 (trailer n c k) 8 ≡ k
  unfolding u32 u16 trailer bytes32 bytes16
  trailer-count h = omega arith

  trailer-mark : (byte (trailer n c k) 12 ≡ 0x42) × (byte (trailer n c k) 13 ≡ 0x45) × (byte (trailer n c k) 14 ≡ 0x4E) × (byte (trailer n c k) 15 ≡ 0x44)
  unfolding trailer bytes32 bytes16
  trailer-mark = (refl, refl, refl, refl)

-- ---- a file with the step in it, a before it and rest after it

module _ (file a rest : List ℕ) (s : Step) (is : file ≡ a ++ step_bytes (length a) s ++ rest) (end : ℕ) (is-end : end ≡ length a + (20 + 8 * length s.values)) (kept : Kept s.rows s.coords (length s.values))
    (few : end ≤ 1048576) where
  abbrev n : ℕ
  n = s.rows

  abbrev c : ℕ
  c = s.coords

  abbrev k : ℕ
  k = length s.values

  few-values : k ≤ 3233
  few-values = omega (arith, kept.counted, kept.few, square-fits n kept.few, kept.moving)

  -- the same bytes with the trailer apart
  abbrev front : List ℕ
  front = a ++ (bytes32 (length a) ++ patterns s.values)

  front_length : length front ≡ length a + (4 + 8 * k)
  front_length = length-append a _ ∙ omega (arith, length-append (bytes32 (length a)) (patterns s.values), length32 (length a), length-patterns s.values)

  by-trailer : file ≡ front ++ trailer n c k ++ rest
  unfolding step_bytes
  by-trailer = is ∙ rw (← append_assoc a (bytes32 (length a) ++ patterns s.values) (trailer n c k))

  place : (d j : ℕ) → d + j ≡ 16 → end - d ≡ length front + j
  place d j h = omega (arith, front_length, is-end)

  start_is : start file end ≡ 4
  unfolding start
  start_is = rw (by-trailer, place 16 0 refl) (u32-within front (trailer n c k) rest 0 (omega (arith, length-trailer n c k)) ∙ trailer-start n c k)

  rows_is : rows file end ≡ n
  unfolding rows
  rows_is = rw (by-trailer, place 12 4 refl) (u16-within front (trailer n c k) rest 4 (omega (arith, length-trailer n c k)) ∙ trailer-rows n c k (omega (arith, kept.few)))

  coords_is : coords file end ≡ c
  unfolding coords
  coords_is = rw (by-trailer, place 10 6 refl) (u16-within front (trailer n c k) rest 6 (omega (arith, length-trailer n c k)) ∙ trailer-coords n c k (omega (arith, kept.narrow)))

  count-is : count file end ≡ k
  unfolding count
  count-is = rw (by-trailer, place 8 8 refl) (u32-within front (trailer n c k) rest 8 (omega (arith, length-trailer n c k)) ∙ trailer-count n c k (omega (arith, few-values)))

  mark-byte : (d j : ℕ) → d + j ≡ 16 → j + 1 ≤ 16 → byte file (end - d) ≡ byte (trailer n c k) j
  mark-byte d j h g = rw (by-trailer, place d j h) (byte-within front (trailer n c k) rest j (omega (arith, length-trailer n c k)))

  marked-is : marked file end ≡ true
  unfolding marked
  marked-is =
      let m = trailer-mark n c k in
      let b0 = mark-byte 4 12 refl (omega arith) ∙ m.0 in
      let b1 = mark-byte 3 13 refl (omega arith) ∙ m.1 in
      let b2 = mark-byte 2 14 refl (omega arith) ∙ m.2 in
      let b3 = mark-byte 1 15 refl (omega arith) ∙ m.3 in
      rw (b0, b1, b2, b3)

  -- ---- the link

  link-at : chain.link_at file end ≡ length a
  unfolding chain.link_at
  link-at = rw count-is (omega (arith, is-end))

  front-link : u32 (step_bytes (length a) s) 0 ≡ length a
  unfolding step_bytes
  front-link =
      rw (append_assoc (bytes32 (length a)) (patterns s.values) (trailer n c k))
      (read32 (length a) (patterns s.values ++ trailer n c k) ∙ omega (arith, is-end, few))

  pub link-is : chain.link file end ≡ length a
  unfolding chain.link
  link-is =
      let z : length a ≡ length a + 0 = omega arith in
      let g : u32 file (length a + 0) ≡ length a = rw is (u32-within a (step_bytes (length a) s) rest 0 (omega (arith, length-step (length a) s))) ∙ front-link in
      rw link-at (rw (← z) at g)

  -- ---- the rules

  small_is : small n c ≡ true
  small_is = rw (le-leb n 32 kept.few, le-leb (c * n) 2048 kept.moving)

  link-kept : chain.link_refusal file end ≡ None
  unfolding chain.link_refusal chain.preceded chain.backward chain.reaching_from
  link-kept =
      rw (link-is, link-at, start_is, count-is, le-leb (20 + 8 * k) end (omega (arith, is-end)), le-leb (length a) (length a) (omega arith), eq-eqb (length a + 4 + 8 * k + 16) end (omega (arith, is-end)))

  pub refusal-is : chain.step_refusal file end ≡ None
  unfolding chain.step_refusal trailer_refusal counted
  refusal-is =
      rw (le-leb 16 end (omega (arith, is-end)), le-leb end 1048576 few, marked-is, rows_is, coords_is, count-is, small_is, eq-eqb k (wanted n c) kept.counted) link-kept

  -- ---- the values

  module _ (held : (i : ℕ) → Fits (get_or s.values i nan)) where
    by_values : file ≡ a ++ bytes32 (length a) ++ patterns s.values ++ (trailer n c k ++ rest)
    by_values =
        by-trailer
        ∙ rw (← append_assoc a (bytes32 (length a)) (patterns s.values), append_assoc (a ++ bytes32 (length a) ++ patterns s.values) (trailer n c k) rest)

    value-is : (i : ℕ) → i < k → value file (length a + 4 + 8 * i) ≡ get_or s.values i nan
    value-is i h =
        let e : length a + 4 + 8 * i ≡ length (a ++ bytes32 (length a)) + 8 * i = omega (arith, length-append a (bytes32 (length a)), length32 (length a)) in
        rw (by_values, e) (value-within (a ++ bytes32 (length a)) (patterns s.values) (trailer n c k ++ rest) (8 * i) (omega (arith, length-patterns s.values)) ∙ read-value s.values i h (held i))

    run_is : (first number : ℕ) → first + number ≤ k → values file (length a + 4) first number ≡ run s first number
    unfolding values run
    run_is first number h =
        tab-take nan (drop first s.values) (λ i. value file (length a + 4 + 8 * (first + i))) number (omega (arith, length-drop first s.values))
        (λ (i : ℕ) (b : i < number). value-is (first + i) (omega arith) ∙ sym (get_or-drop first s.values i nan))

    problem-at : problem file (length a + 4) n c ≡ problem_of s
    unfolding problem problem_of
    problem-at =
        let e = kept.counted in
        rw (
          run_is 0 (n * n) (omega arith),
          run_is (n * n) n (omega arith),
          run_is (n * n + n) n (omega arith),
          run_is (n * n + 2 * n) n (omega arith),
          run_is (n * n + 3 * n) n (omega arith),
          run_is (n * n + 4 * n) n (omega arith),
          run_is (n * n + 5 * n) (c * n) (omega arith),
          value-is (n * n + 5 * n + c * n) (omega arith),
        )

    pub problem-is : chain.step_problem file end ≡ problem_of s
    unfolding chain.step_problem
    problem-is = rw (link-is, start_is, rows_is, coords_is) problem-at
