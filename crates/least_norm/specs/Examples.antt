-- A table of solved systems and of refusals, computed: document 01's cases 10 and 11, and others that the Rust
-- answered. Values are bits, any NaN 0x7FF8000000000000.
use Rattle.std.specs.Prelude.{ℕ, ◌≡◌, refl, Bool, true, false, ◌&&◌, List, [], ◌∷◌, map, eqb, replicate}
use Rattle.std.specs.Float.{nan, binary64}
use Rattle.std.specs.Float.Ieee.{of_bits, to_bits, add, sub, mul, div, lt, le, eq, ne, neg}
use Rattle.loops.specs.Loops.{turns, between, downward, tab, swap}
use Rattle.loops.specs.Updates.{updated}
use Rattle.loops.specs.Lists.{same}
use Rattle.floats.specs.Ops.{0ᶠ}
use Rattle.floats.specs.Helpers.{abs}
use Rattle.floats.specs.Sums.{gathered}
use Rattle.floats.specs.Sqrt.{sqrt, nearest_root, whole_root}
use Rattle.least_norm.specs.Reflector.{beta, reflect}
use Rattle.least_norm.specs.LeastNorm as least
use Rattle.least_norm.specs.Promise.{Reply, refused, answered, reply, reply_number}

answers : Reply → ℕ → List ℕ → List ℕ → List ℕ → Bool
answers (refused k) rank a b x = false
answers (answered s) rank a b x =
    let bits = map (to_bits binary64) in
    eqb s.rank rank && same (bits s.a) a && same (bits s.b) b && same (bits s.x) x

-- the system m, n, a, b has this rank, leaves this in a and b, and has this solution
solves : ℕ → ℕ → List ℕ → List ℕ → ℕ → List ℕ → List ℕ → List ℕ → Bool
solves m n a b rank a' b' x =
    let values = map (of_bits binary64) in
    answers (reply m n (values a) (values b) (replicate n nan) 1056) rank a' b' x

-- lengths that are refused with 12
refuses : ℕ → ℕ → ℕ → ℕ → ℕ → ℕ → Bool
refuses m n a b x room = eqb (reply_number (reply m n (replicate a 0ᶠ) (replicate b 0ᶠ) (replicate x 0ᶠ) room)) 12

all : List Bool → Bool
all [] = true
all (c ∷ cs) = c && all cs

cases : List Bool
cases =
    -- document 01, 10: rank 1, a left 5 0, b left -5
    solves 1 2 (0x4008000000000000 ∷ 0x4010000000000000 ∷ []) (0x4014000000000000 ∷ [])
    1 (0x4014000000000000 ∷ 0 ∷ []) (0xC014000000000000 ∷ []) (0x3FE3333333333334 ∷ 0x3FE999999999999A ∷ []) ∷
    -- document 01, 11: rank 0, x 0
    solves 1 1 (0 ∷ []) (0x401C000000000000 ∷ []) 0 (0 ∷ []) (0x401C000000000000 ∷ []) (0 ∷ []) ∷
    -- no rows: rank 0, x zero
    solves 0 2 [] [] 0 [] [] (0 ∷ 0 ∷ []) ∷
    -- no columns
    solves 2 0 [] (0x3FF0000000000000 ∷ 0x4000000000000000 ∷ []) 0 [] (0x3FF0000000000000 ∷ 0x4000000000000000 ∷ []) [] ∷
    -- a zero matrix
    solves 2 3 (0 ∷ 0x8000000000000000 ∷ 0 ∷ 0 ∷ 0 ∷ 0x8000000000000000 ∷ [])
    (0x3FF0000000000000 ∷ 0xC000000000000000 ∷ [])
    0 (0 ∷ 0x8000000000000000 ∷ 0 ∷ 0 ∷ 0 ∷ 0x8000000000000000 ∷ []) (0x3FF0000000000000 ∷ 0xC000000000000000 ∷ [])
    (0 ∷ 0 ∷ 0 ∷ []) ∷
    -- columns of equal norm: the first stays
    solves 2 2 (0x3FF0000000000000 ∷ 0 ∷ 0 ∷ 0x3FF0000000000000 ∷ []) (0x4008000000000000 ∷ 0x4010000000000000 ∷ [])
    2 (0xBFF0000000000000 ∷ 0 ∷ 0 ∷ 0xBFF0000000000000 ∷ []) (0xC008000000000000 ∷ 0xC010000000000000 ∷ [])
    (0x4008000000000000 ∷ 0x4010000000000000 ∷ []) ∷
    -- the second and third columns of equal norm: the second comes first
    solves 2 3 (0x3FF0000000000000 ∷ 0 ∷ 0x4000000000000000 ∷ 0 ∷ 0x4000000000000000 ∷ 0 ∷ [])
    (0x3FF0000000000000 ∷ 0x3FF0000000000000 ∷ [])
    2 (0xC000000000000000 ∷ 0 ∷ 0 ∷ 0 ∷ 0xC001E3779B97F4A8 ∷ 0 ∷ []) (0xBFF0000000000000 ∷ 0x3FF0000000000000 ∷ [])
    (0x3FC999999999999A ∷ 0x3FE0000000000000 ∷ 0x3FD999999999999B ∷ []) ∷
    -- m < n
    solves 2 3
    (0x3FF0000000000000 ∷ 0x4000000000000000 ∷ 0x4008000000000000 ∷
    0x4010000000000000 ∷ 0x4014000000000000 ∷ 0x401A000000000000 ∷ [])
    (0x3FF0000000000000 ∷ 0x4000000000000000 ∷ [])
    2 (0x402016E28DAB3D48 ∷ 0x40169458B99A95F2 ∷ 0 ∷ 0 ∷ 0x3FEA28E45BA251B8 ∷ 0xBC90000000000000 ∷ [])
    (0xC001E13B97E2F7DD ∷ 0x3FB1E13B97E2F7E0 ∷ [])
    (0xBFC104707661AA2E ∷ 0x3FBD986A8B1927F6 ∷ 0x3FD33CABA736C060 ∷ []) ∷
    -- m > n
    solves 3 2
    (0x3FF0000000000000 ∷ 0x4000000000000000 ∷ 0x4008000000000000 ∷ 0xC010000000000000 ∷
    0x4014000000000000 ∷ 0x4018000000000000 ∷ [])
    (0x3FF0000000000000 ∷ 0x4000000000000000 ∷ 0x4008000000000000 ∷ [])
    2 (0xC01DEEEA11683F49 ∷ 0xC00561829EB82D35 ∷ 0 ∷ 0xC0151CA886E323AE ∷ 0 ∷ 0 ∷ [])
    (0xBFF9A83658103640 ∷ 0xC00AD99DE15FE3DA ∷ 0xBFD9ED16B6197FF8 ∷ [])
    (0x3FE4594594594593 ∷ 0xBF8A41A41A41A3FC ∷ []) ∷
    -- rank 1 of 2: two equal rows and columns
    solves 2 2 (0x3FF0000000000000 ∷ 0x3FF0000000000000 ∷ 0x3FF0000000000000 ∷ 0x3FF0000000000000 ∷ [])
    (0x4000000000000000 ∷ 0x4000000000000000 ∷ [])
    1 (0x3FFFFFFFFFFFFFFF ∷ 0 ∷ 0 ∷ 0 ∷ []) (0xC006A09E667F3BCC ∷ 0 ∷ [])
    (0x3FEFFFFFFFFFFFFE ∷ 0x3FEFFFFFFFFFFFFE ∷ []) ∷
    -- rank 2 of 3, columns swapped and turned back
    solves 3 3
    (0x3FF0000000000000 ∷ 0x4000000000000000 ∷ 0x4008000000000000 ∷
    0x4000000000000000 ∷ 0x4010000000000000 ∷ 0x4018000000000000 ∷ 0x3FF0000000000000 ∷ 0xBFF0000000000000 ∷ 0 ∷ [])
    (0x3FF0000000000000 ∷ 0x4000000000000000 ∷ 0x4008000000000000 ∷ [])
    2 (0x40206E825DA8FC2B ∷ 0x3FF94C583ADA5B54 ∷ 0 ∷ 0 ∷ 0x3FF6A09E667F3BCC ∷ 0 ∷ 0 ∷ 0 ∷ 0xBCD8000000000000 ∷ [])
    (0xC001E3779B97F4A6 ∷ 0x4008000000000000 ∷ 0xBCEC000000000000 ∷ [])
    (0x3FFC71C71C71C71C ∷ 0xBFF38E38E38E38E2 ∷ 0x3FE1C71C71C71C72 ∷ []) ∷
    -- the second diagonal at the tolerance does not count
    solves 2 2 (0x3FF0000000000000 ∷ 0 ∷ 0 ∷ 0x3DA5FD7FE1796495 ∷ []) (0x3FF0000000000000 ∷ 0x3FF0000000000000 ∷ [])
    1 (0xBFF0000000000000 ∷ 0 ∷ 0 ∷ 0xBDA5FD7FE1796495 ∷ []) (0xBFF0000000000000 ∷ 0xBFEFFFFFFFFFFFFE ∷ [])
    (0x3FF0000000000000 ∷ 0 ∷ []) ∷
    -- and just above it does
    solves 2 2 (0x3FF0000000000000 ∷ 0 ∷ 0 ∷ 0x3DA5FD7FE1796496 ∷ []) (0x3FF0000000000000 ∷ 0x3FF0000000000000 ∷ [])
    2 (0xBFF0000000000000 ∷ 0 ∷ 0 ∷ 0xBDA5FD7FE1796496 ∷ []) (0xBFF0000000000000 ∷ 0xBFF0000000000000 ∷ [])
    (0x3FF0000000000000 ∷ 0x42374876E7FFFFFF ∷ []) ∷
    -- a negative and a negative zero pivot
    solves 2 2 (0xC000000000000000 ∷ 0x3FF0000000000000 ∷ 0x8000000000000000 ∷ 0xC008000000000000 ∷ [])
    (0x3FF0000000000000 ∷ 0x8000000000000000 ∷ [])
    2 (0xC0094C583ADA5B53 ∷ 0x3FE43D1362484914 ∷ 0 ∷ 0x3FFE5B9D136C6D96 ∷ [])
    (0xBFD43D1362484914 ∷ 0xBFEE5B9D136C6D96 ∷ []) (0xBFE0000000000000 ∷ 0x8000000000000000 ∷ []) ∷
    -- alpha zero: beta takes the negative sign
    solves 2 1 (0 ∷ 0x4008000000000000 ∷ []) (0x3FF0000000000000 ∷ 0x4000000000000000 ∷ [])
    1 (0xC008000000000000 ∷ 0 ∷ []) (0xC000000000000000 ∷ 0xBFF0000000000000 ∷ []) (0x3FE5555555555555 ∷ []) ∷
    -- alpha negative zero
    solves 2 1 (0x8000000000000000 ∷ 0x4008000000000000 ∷ []) (0x3FF0000000000000 ∷ 0x4000000000000000 ∷ [])
    1 (0xC008000000000000 ∷ 0 ∷ []) (0xC000000000000000 ∷ 0xBFF0000000000000 ∷ []) (0x3FE5555555555555 ∷ []) ∷
    -- squares that are subnormal
    solves 2 1 (0x1EB67E9C127B6E74 ∷ 0x1EB67E9C127B6E74 ∷ []) (0x7E37E43C8800759C ∷ 0x7E37E43C8800759C ∷ [])
    1 (0x9EBFCFDBC999E97D ∷ 0 ∷ []) (0xFFF0000000000000 ∷ 0xFFF0000000000000 ∷ []) (0x7FF0000000000000 ∷ []) ∷
    -- 2 s / vtv is nine times the smallest value, and 2 (s / vtv) ten times
    solves 2 1 (0x3FF0000000000000 ∷ 0x3FF0000000000000 ∷ []) (0x000000000000000B ∷ 0x0000000000000004 ∷ [])
    1 (0xBFF6A09E667F3BCD ∷ 0 ∷ []) (0x800000000000000B ∷ 0x8000000000000005 ∷ []) (0x0000000000000008 ∷ []) ∷
    -- sigma from the top down is 2.25, and from the bottom up the next value
    solves 4 1 (0 ∷ 0x3FF8000000000000 ∷ 0x3E4B333333333333 ∷ 0x3E4B333333333333 ∷ [])
    (0x3FF0000000000000 ∷ 0x4000000000000000 ∷ 0x4008000000000000 ∷ 0x4010000000000000 ∷ [])
    1 (0xBFF8000000000000 ∷ 0 ∷ 0 ∷ 0 ∷ [])
    (0xC000000007EEEEEE ∷ 0xBFF000000FDDDDDC ∷ 0x4007FFFFFC999998 ∷ 0x400FFFFFFC999998 ∷ [])
    (0x3FF555555FE93E93 ∷ []) ∷
    -- NaN in a
    solves 2 2 (0x3FF0000000000000 ∷ 0x7FF8000000000000 ∷ 0x4000000000000000 ∷ 0x4008000000000000 ∷ [])
    (0x3FF0000000000000 ∷ 0x4000000000000000 ∷ [])
    1 (0x7FF8000000000000 ∷ 0x7FF8000000000000 ∷ 0 ∷ 0x7FF8000000000000 ∷ [])
    (0xC001E3779B97F4A8 ∷ 0x7FF8000000000000 ∷ []) (0x7FF8000000000000 ∷ 0x7FF8000000000000 ∷ []) ∷
    -- NaN in the first column: it stays
    solves 2 2 (0x7FF8000000000000 ∷ 0x3FF0000000000000 ∷ 0x4000000000000000 ∷ 0x4008000000000000 ∷ [])
    (0x3FF0000000000000 ∷ 0x4000000000000000 ∷ [])
    0 (0x7FF8000000000000 ∷ 0x7FF8000000000000 ∷ 0 ∷ 0x7FF8000000000000 ∷ [])
    (0x7FF8000000000000 ∷ 0x7FF8000000000000 ∷ []) (0 ∷ 0 ∷ []) ∷
    -- infinity in a
    solves 2 2 (0x7FF0000000000000 ∷ 0x3FF0000000000000 ∷ 0x4000000000000000 ∷ 0x4008000000000000 ∷ [])
    (0x3FF0000000000000 ∷ 0x4000000000000000 ∷ [])
    0 (0xFFF0000000000000 ∷ 0x7FF8000000000000 ∷ 0 ∷ 0x7FF8000000000000 ∷ [])
    (0x7FF8000000000000 ∷ 0x7FF8000000000000 ∷ []) (0 ∷ 0 ∷ []) ∷
    -- NaN and infinity in b
    solves 2 2 (0x3FF0000000000000 ∷ 0x4000000000000000 ∷ 0x4008000000000000 ∷ 0x4010000000000000 ∷ [])
    (0x7FF8000000000000 ∷ 0xFFF0000000000000 ∷ [])
    2 (0xC011E3779B97F4A8 ∷ 0xC0090B410D07F01E ∷ 0 ∷ 0xBFDC9F25C5BFEDD8 ∷ [])
    (0x7FF8000000000000 ∷ 0x7FF8000000000000 ∷ []) (0x7FF8000000000000 ∷ 0x7FF8000000000000 ∷ []) ∷
    -- squares that underflow: the columns count as zero
    solves 2 2 (0x16687E92154EF7AC ∷ 0 ∷ 0 ∷ 0x16687E92154EF7AC ∷ []) (0x3FF0000000000000 ∷ 0x3FF0000000000000 ∷ [])
    0 (0x16687E92154EF7AC ∷ 0 ∷ 0 ∷ 0x16687E92154EF7AC ∷ []) (0x3FF0000000000000 ∷ 0x3FF0000000000000 ∷ [])
    (0 ∷ 0 ∷ []) ∷
    -- squares that overflow
    solves 1 1 (0x6974E718D7D7625A ∷ []) (0x3FF0000000000000 ∷ []) 0 (0xFFF0000000000000 ∷ []) (0x7FF8000000000000 ∷ []) (0 ∷ []) ∷
    -- six columns, four of them reflected together
    solves 5 6
    (0x3FE706DDC0000000 ∷ 0xBFCB0F1200000000 ∷ 0xBFA3E0C800000000 ∷ 0xBFE3E83EC0000000 ∷ 0xBFE4C53A80000000 ∷ 0x3FC7101D00000000 ∷
    0x3FCAD2E100000000 ∷ 0x3FE66A9E40000000 ∷ 0x3FE76A9380000000 ∷ 0x3FBF1D5200000000 ∷ 0xBFEDC2E300000000 ∷ 0xBFE4549EC0000000 ∷
    0xBFD521C380000000 ∷ 0xBFEC780F00000000 ∷ 0x3FDC90CC80000000 ∷ 0x3FE15D9400000000 ∷ 0xBFE2B0C100000000 ∷ 0x3FD1976D00000000 ∷
    0x3FEF158E40000000 ∷ 0x3FC2FB2D00000000 ∷ 0xBFD5DA7900000000 ∷ 0x3FDE5DCD80000000 ∷ 0xBFEC396C00000000 ∷ 0x3F75C42000000000 ∷
    0xBFEC784CC0000000 ∷ 0xBFECBD9FC0000000 ∷ 0x3FE721ACC0000000 ∷ 0xBFC2F7BC00000000 ∷ 0xBFE25F8980000000 ∷ 0xBFD236B900000000 ∷ [])
    (0xBFC38E9200000000 ∷ 0x3FE32E1C00000000 ∷ 0x3FCF07B200000000 ∷ 0x3FD85D4880000000 ∷ 0x3FE1CAD300000000 ∷ [])
    5
    (0xBFFD81673D2C107C ∷ 0x3F90DA79F77030C0 ∷ 0x3FC1C55D5A611EB7 ∷ 0x3FB93C2DB339AD40 ∷ 0x3FD631EBBA73C812 ∷ 0 ∷
    0 ∷ 0xBFFD15CD446BD3A0 ∷ 0xBFD9AF2C3F0A985C ∷ 0xBFABD91A4E93D7CC ∷ 0x3FE372547562D58C ∷ 0xBCB0000000000000 ∷
    0 ∷ 0 ∷ 0xBFF55FA29D4E8B2F ∷ 0x3FB69296F955371F ∷ 0x3FB798E961589A9C ∷ 0xBCA0000000000000 ∷
    0 ∷ 0 ∷ 0 ∷ 0x3FEEB8C401A24A36 ∷ 0xBFA87C9D1A7D6F44 ∷ 0xBC80000000000000 ∷
    0 ∷ 0 ∷ 0 ∷ 0 ∷ 0xBFD3BAFE92081DAE ∷ 0 ∷ [])
    (0xBFE84805E6A1813B ∷ 0xBFD8826BDE3D61F6 ∷ 0x3FD2730DC17BF8C8 ∷ 0xBFC967EA186DDB74 ∷ 0xBFCCC530B8E75905 ∷ [])
    (0xBFD0FB815A2071CF ∷ 0xBFBD01F90224D1BE ∷ 0xBFD5686F2F213530 ∷ 0x3FD0EF17AA7F8094 ∷ 0xBFDE747593C1B7E0 ∷
    0xBFE967E5A200E732 ∷ []) ∷
    -- the refusals, in document 01's order: m, n, a's, b's and x's lengths, and the workspace's
    refuses 33 1 33 33 1 1056 ∷
    refuses 1 33 33 1 33 1056 ∷
    refuses 2 3 5 2 3 1056 ∷
    refuses 2 3 7 2 3 1056 ∷
    refuses 2 3 6 3 3 1056 ∷
    refuses 2 3 6 2 2 1056 ∷
    refuses 2 3 6 2 3 1055 ∷
    []

cases-hold : all cases ≡ true
unfolding
    answers solves refuses all cases reply
    add sub mul div of_bits to_bits lt le eq ne neg
    turns between downward tab swap updated gathered abs sqrt nearest_root whole_root beta reflect
    least.norm2 least.pivot least.brought least.eliminated least.reduce least.reduced least.leading least.cleared least.substituted
    least.turned least.unpermuted least.solved least.least_norm
cases-hold = refl
