-- Refusals 5 to 10, and which comes first: later faults stand beside earlier ones.
use Rattle.std.specs.Prelude.{◌≡◌, refl, true, List, [], ◌∷◌, ℕ, replicate}
use Rattle.cases.specs.Numbers.{∞, nan_bits, one, −one}
use Rattle.cases.specs.Cases.{Row, Input, named, refusing, problem, passes, all}

abbrev row : List ℕ → List ℕ → List ℕ → Input
row w lo s = problem w (0 ∷ []) lo (one ∷ []) s [] 0

unfoldable pub refusals : List Row
refusals =
    named "5: 33 rows" (refusing (problem [] (replicate 33 0) [] [] [] [] 0) [] 0 0 0 5) ∷
    named "5: motion of 2,049 values" (refusing (problem [] [] [] [] [] (replicate 2049 0) 0) [] 0 0 0 5) ∷
    named "6: no W, and nothing else of its length" (refusing (row [] [] []) [] 0 0 0 6) ∷
    named "7: lo too short, before a scale of 0" (refusing (row (one ∷ []) [] (0 ∷ [])) (0 ∷ []) 0 0 0 7) ∷
    named "7: hi too short" (refusing (problem (one ∷ []) (0 ∷ []) (0 ∷ []) [] (0 ∷ []) [] 0) (0 ∷ []) 0 0 0 7) ∷
    named "7: scale too short" (refusing (row (one ∷ []) (0 ∷ []) []) (0 ∷ []) 0 0 0 7) ∷
    named "7: nu too short" (refusing (row (one ∷ []) (0 ∷ []) (0 ∷ [])) [] 0 0 0 7) ∷
    named "8: a scale of 0, before short buffers" (refusing (row (one ∷ []) (0 ∷ []) (0 ∷ [])) (0 ∷ []) 0 0 0 8) ∷
    named "8: an infinite scale" (refusing (row (one ∷ []) (0 ∷ []) (∞ ∷ [])) (0 ∷ []) 0 0 0 8) ∷
    named "8: a NaN scale" (refusing (row (one ∷ []) (0 ∷ []) (nan_bits ∷ [])) (0 ∷ []) 0 0 0 8) ∷
    named "8: a negative scale" (refusing (row (one ∷ []) (0 ∷ []) (−one ∷ [])) (0 ∷ []) 1 1 2304 8) ∷
    named "9: motion of 1 value for 2 rows" (refusing (problem (replicate 4 one) (0 ∷ 0 ∷ []) (0 ∷ 0 ∷ []) (0 ∷ 0 ∷ []) (one ∷ one ∷ []) (0 ∷ []) 0) (0 ∷ 0 ∷ []) 0 0 0 9) ∷
    named "10: a workspace of 2,303" (refusing (row (one ∷ []) (0 ∷ []) (one ∷ [])) (0 ∷ []) 1 1 2303 10) ∷
    named "10: no states" (refusing (row (one ∷ []) (0 ∷ []) (one ∷ [])) (0 ∷ []) 0 1 2304 10) ∷
    named "10: no row list" (refusing (row (one ∷ []) (0 ∷ []) (one ∷ [])) (0 ∷ []) 1 0 2304 10) ∷ []

pub refusals-table : all refusals ≡ true
unfolding refusals passes
refusals-table = refl
