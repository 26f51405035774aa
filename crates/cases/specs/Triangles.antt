-- Worked solves of triangles, as one table. From three rows on the lower triangle by rows is another list than the upper one.
use Rattle.std.specs.Prelude.{◌≡◌, refl, true, false, List, [], ◌∷◌, replicate}
use Rattle.boxed.specs.declared.Cause.TheVariants as cause
use Rattle.cases.specs.Numbers.{∞, nan_bits, one, two, four, −one, −two, −four}
use Rattle.cases.specs.Cases.{Row, named, lower, problem, counts, refuses, solves, fights, passes, all}

unfoldable pub triangles : List Row
triangles =
    named "1: no rows, no values"
    (lower [] (problem [] [] [] [] [] [] 0)
    [] 0 0 2304 (solves (counts 0 0 true true 0 0)) [] [] []) ∷
    named "2: no rows, one value: 16"
    (lower (one ∷ []) (problem [] [] [] [] [] [] 0)
    [] 0 0 2304 (refuses 16) [] [] []) ∷
    named "3: one row: the program's case"
    (lower (two ∷ []) (problem [] (−four ∷ []) (0 ∷ []) (∞ ∷ []) (one ∷ []) [] 0)
    (0 ∷ []) 1 1 2304 (solves (counts 1 1 true true 0 0)) (0 ∷ []) (two ∷ []) (7 ∷ [])) ∷
    named "4: two rows: marked case 9, lower and upper by rows are the same list here"
    (lower (one ∷ −one ∷ one ∷ []) (problem [] (−one ∷ −one ∷ []) (0 ∷ 0 ∷ []) (∞ ∷ ∞ ∷ []) (one ∷ one ∷ []) [] 0)
    (0 ∷ 0 ∷ []) 2 2 2304 (fights cause.Pass (0 ∷ 1 ∷ []) (counts 1 1 false false two 0)) (0 ∷ 0 ∷ []) (one ∷ two ∷ []) (0 ∷ 1 ∷ [])) ∷
    named "5: three rows: W 4 1 2 / 1 5 3 / 2 3 6"
    (lower (four ∷ one ∷ 0x4014000000000000 ∷ two ∷ 0x4008000000000000 ∷ 0x4018000000000000 ∷ []) (problem [] (−one ∷ −two ∷ 0xC008000000000000 ∷ []) (0 ∷ 0 ∷ 0 ∷ []) (∞ ∷ ∞ ∷ ∞ ∷ []) (one ∷ one ∷ one ∷ []) [] 0)
    (0 ∷ 0 ∷ 0 ∷ []) 3 3 2304 (solves (counts 1 1 true true 0x3CA4000000000000 0)) (0 ∷ 0 ∷ 0 ∷ []) (0x3CA4000000000000 ∷ 0x3FC2492492492492 ∷ 0x3FDB6DB6DB6DB6DB ∷ []) (7 ∷ 7 ∷ 7 ∷ [])) ∷
    named "6: the same values, a free motion that leaves all inside"
    (lower (four ∷ one ∷ 0x4014000000000000 ∷ two ∷ 0x4008000000000000 ∷ 0x4018000000000000 ∷ []) (problem [] (0xC01C000000000000 ∷ 0xC022000000000000 ∷ 0xC026000000000000 ∷ []) (0 ∷ 0 ∷ 0 ∷ []) (∞ ∷ ∞ ∷ ∞ ∷ []) (one ∷ one ∷ one ∷ []) [] 0)
    (0 ∷ 0 ∷ 0 ∷ []) 3 3 2304 (solves (counts 1 1 true true 0x3CC0000000000000 0)) (0 ∷ 0 ∷ 0 ∷ []) (0x3FF0000000000002 ∷ 0x3FEFFFFFFFFFFFFD ∷ one ∷ []) (7 ∷ 7 ∷ 7 ∷ [])) ∷
    named "7: four rows, ten different values"
    (lower (0x4022000000000000 ∷ one ∷ 0x4024000000000000 ∷ two ∷ 0x4008000000000000 ∷ 0x4026000000000000 ∷ four ∷ 0x4014000000000000 ∷ 0x4018000000000000 ∷ 0x4028000000000000 ∷ []) (problem [] (0xC024000000000000 ∷ 0xC034000000000000 ∷ 0xC03E000000000000 ∷ 0xC044000000000000 ∷ []) (0 ∷ 0 ∷ 0 ∷ 0 ∷ []) (∞ ∷ ∞ ∷ ∞ ∷ ∞ ∷ []) (one ∷ one ∷ one ∷ one ∷ []) [] 0)
    (0 ∷ 0 ∷ 0 ∷ 0 ∷ []) 4 4 2304 (solves (counts 1 1 true true 0x3CD0000000000000 0)) (1 ∷ 0 ∷ 0 ∷ 0 ∷ []) (0 ∷ 0x3FD5FB43F93C888C ∷ 0x3FF3A812F01B0DDE ∷ 0x40049B8FB9A8C016 ∷ []) (7 ∷ 7 ∷ 7 ∷ 7 ∷ [])) ∷
    named "8: three rows, five values: 16"
    (lower (four ∷ one ∷ 0x4014000000000000 ∷ two ∷ 0x4008000000000000 ∷ []) (problem [] (−one ∷ −two ∷ 0xC008000000000000 ∷ []) (0 ∷ 0 ∷ 0 ∷ []) (∞ ∷ ∞ ∷ ∞ ∷ []) (one ∷ one ∷ one ∷ []) [] 0)
    (0 ∷ 0 ∷ 0 ∷ []) 3 3 2304 (refuses 16) (9 ∷ 9 ∷ 9 ∷ []) (0 ∷ 0 ∷ 0 ∷ []) (7 ∷ 7 ∷ 7 ∷ [])) ∷
    named "9: three rows, nine values (the full matrix): 16"
    (lower (four ∷ one ∷ two ∷ one ∷ 0x4014000000000000 ∷ 0x4008000000000000 ∷ two ∷ 0x4008000000000000 ∷ 0x4018000000000000 ∷ []) (problem [] (−one ∷ −two ∷ 0xC008000000000000 ∷ []) (0 ∷ 0 ∷ 0 ∷ []) (∞ ∷ ∞ ∷ ∞ ∷ []) (one ∷ one ∷ one ∷ []) [] 0)
    (0 ∷ 0 ∷ 0 ∷ []) 3 3 2304 (refuses 16) (9 ∷ 9 ∷ 9 ∷ []) (0 ∷ 0 ∷ 0 ∷ []) (7 ∷ 7 ∷ 7 ∷ [])) ∷
    named "10: a NaN below the diagonal is mirrored"
    (lower (one ∷ nan_bits ∷ one ∷ []) (problem [] (−one ∷ −one ∷ []) (0 ∷ 0 ∷ []) (∞ ∷ ∞ ∷ []) (one ∷ one ∷ []) [] 0)
    (0 ∷ 0 ∷ []) 2 2 2304 (solves (counts 1 1 true true 0 0)) (0 ∷ 0 ∷ []) (nan_bits ∷ nan_bits ∷ []) (7 ∷ 7 ∷ [])) ∷
    named "11: a diagonal of -0: Idle"
    (lower (0x8000000000000000 ∷ 0x3FE0000000000000 ∷ one ∷ []) (problem [] (−one ∷ −one ∷ []) (0 ∷ 0 ∷ []) (∞ ∷ ∞ ∷ []) (one ∷ one ∷ []) [] 0)
    (0 ∷ 0 ∷ []) 2 2 2304 (solves (counts 1 1 true true 0 1)) (3 ∷ 0 ∷ []) (0 ∷ one ∷ []) (7 ∷ 7 ∷ [])) ∷
    named "12: growth"
    (lower (0x3E70000000000000 ∷ []) (problem [] (−one ∷ []) (0 ∷ []) (∞ ∷ []) (one ∷ []) [] 0)
    (0 ∷ []) 1 1 2304 (fights cause.Growth (0 ∷ []) (counts 1 0 false false 0 0)) (0 ∷ []) (0x4170000000000000 ∷ []) (0 ∷ [])) ∷
    named "13: 33 rows and a triangle of no length: 5 before 16"
    (lower [] (problem [] (replicate 33 −one) (replicate 33 0) (replicate 33 ∞) (replicate 33 one) [] 0)
    (replicate 33 0) 33 33 2304 (refuses 5) (replicate 33 9) (replicate 33 0) (replicate 33 7)) ∷
    named "14: triangle and lo both wrong: 16 before 7"
    (lower (one ∷ one ∷ []) (problem [] (−one ∷ −one ∷ []) (0 ∷ []) (∞ ∷ ∞ ∷ []) (one ∷ one ∷ []) [] 0)
    (0 ∷ 0 ∷ []) 2 2 2304 (refuses 16) (9 ∷ 9 ∷ []) (0 ∷ 0 ∷ []) (7 ∷ 7 ∷ [])) ∷
    named "15: triangle right, lo wrong: 7"
    (lower (one ∷ 0 ∷ one ∷ []) (problem [] (−one ∷ −one ∷ []) (0 ∷ []) (∞ ∷ ∞ ∷ []) (one ∷ one ∷ []) [] 0)
    (0 ∷ 0 ∷ []) 2 2 2304 (refuses 7) (9 ∷ 9 ∷ []) (0 ∷ 0 ∷ []) (7 ∷ 7 ∷ [])) ∷
    named "16: scale 0: 8"
    (lower (one ∷ 0 ∷ one ∷ []) (problem [] (−one ∷ −one ∷ []) (0 ∷ 0 ∷ []) (∞ ∷ ∞ ∷ []) (0 ∷ one ∷ []) [] 0)
    (0 ∷ 0 ∷ []) 2 2 2304 (refuses 8) (9 ∷ 9 ∷ []) (0 ∷ 0 ∷ []) (7 ∷ 7 ∷ [])) ∷
    named "17: scale 0 and a wrong triangle: 16"
    (lower (one ∷ 0 ∷ one ∷ one ∷ []) (problem [] (−one ∷ −one ∷ []) (0 ∷ 0 ∷ []) (∞ ∷ ∞ ∷ []) (0 ∷ one ∷ []) [] 0)
    (0 ∷ 0 ∷ []) 2 2 2304 (refuses 16) (9 ∷ 9 ∷ []) (0 ∷ 0 ∷ []) (7 ∷ 7 ∷ [])) ∷ []

pub triangles-table : all triangles ≡ true
unfolding triangles passes
triangles-table = refl
