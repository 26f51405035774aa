-- What LeastNorm::solve promises: document 01's answers and number. Words of private contracts are in Private.antt.
-- Definitions only.
use Rattle.std.specs.Prelude.{ℕ, ◌*◌, ◌≤◌, ◌≡◌, Bool, cond, ◌&&◌, List, leb, eqb, length, drop, Float, Result, Ok, Err, IfOk}
use Rattle.refusals.specs.declared.Refusal.{Refusal}
use Rattle.refusals.specs.declared.Refusal.TheVariants.{LeastNorm}
use Rattle.refusals.specs.Numbers.{number}
use Rattle.least_norm.specs.LeastNorm as least

-- ---- the public call

-- m and n at most 32, a of m * n values, b of m, x of n, and a workspace of 1,056 or more
abbrev pub fits : ℕ → ℕ → List Float → List Float → List Float → ℕ → Bool
fits m n a b x room = leb m 32 && leb n 32 && eqb (length a) (m * n) && eqb (length b) m && eqb (length x) n && leb 1056 room

pub data Reply : Type 0 where
  refused : Refusal → Reply
  answered : least.Solution → Reply

unfoldable pub reply : ℕ → ℕ → List Float → List Float → List Float → ℕ → Reply
reply m n a b x room = cond (fits m n a b x room) (answered (least.least_norm m n a b)) (refused LeastNorm)

-- what the call gives: the rank, or why it is refused
abbrev pub result_of : Reply → Result ℕ Refusal
result_of (refused e) = Err e
result_of (answered s) = Ok s.rank

-- document 01's number, 0 where the call is accepted
abbrev pub reply_number : Reply → ℕ
reply_number (refused e) = number e
reply_number (answered s) = 0

-- what is left in a, b and x
abbrev pub a_left : Reply → List Float → List Float
a_left (refused e) a = a
a_left (answered s) a = s.a

abbrev pub b_left : Reply → List Float → List Float
b_left (refused e) b = b
b_left (answered s) b = s.b

abbrev pub x_left : Reply → List Float → List Float
x_left (refused e) x = x
x_left (answered s) x = s.x

-- how many values at the workspace's front are free
abbrev pub used : Reply → ℕ
used (refused e) = 0
used (answered s) = 1056

pub record Replied (reply : Reply) (r : Result ℕ Refusal) (a a' b b' x x' w w' : List Float) : Type 0 where
  pub result_is : r ≡ result_of reply
  pub rank_small : IfOk r (λ rank. rank ≤ 32)
  pub a_is : a' ≡ a_left reply a
  pub b_is : b' ≡ b_left reply b
  pub x_is : x' ≡ x_left reply x
  pub workspace_left : drop (used reply) w' ≡ drop (used reply) w
