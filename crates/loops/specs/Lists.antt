-- Two lists compared, as a test that is computed: the tables of worked examples compare by it what comes out with what must. Definitions only.
use Rattle.std.specs.Prelude.{ℕ, Bool, true, false, ◌&&◌, List, [], ◌∷◌, eqb}

-- whether two lists have one length and pass the test place by place
abbrev pub same_by : {A B : Type 0} → (A → B → Bool) → List A → List B → Bool
same_by test [] [] = true
same_by test [] (y ∷ m) = false
same_by test (x ∷ l) [] = false
same_by test (x ∷ l) (y ∷ m) = test x y && same_by test l m

-- whether two lists of numbers, bytes or bit patterns among them, are equal
abbrev pub same : List ℕ → List ℕ → Bool
same l m = same_by eqb l m
