-- The number that documents 01 and 02 give each refusal. Definitions only.
use Rattle.std.specs.Prelude.{ℕ}
use Rattle.refusals.specs.declared.Refusal.{Refusal}
use Rattle.refusals.specs.declared.Refusal.TheVariants.{FileSize, FileMark, FileLimits, FileCount, TooLarge, NotSquare, Unequal, Scale, Motion, Short, Tally, LeastNorm, Join, Link, Steps, Triangle, NotFinite, ExactFull}

abbrev pub number : Refusal → ℕ
number FileSize = 1
number FileMark = 2
number FileLimits = 3
number FileCount = 4
number TooLarge = 5
number NotSquare = 6
number Unequal = 7
number Scale = 8
number Motion = 9
number Short = 10
number Tally = 11
number LeastNorm = 12
number Join = 13
number Link = 14
number Steps = 15
number Triangle = 16
number NotFinite = 17
number ExactFull = 18
