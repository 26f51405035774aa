-- What the exported least-norm call answers and leaves. Definitions only.
use Rattle.std.specs.Prelude.{ℕ, ◌≡◌, cond, List, leb, length, set, drop, Float}
use Rattle.refusals.specs.declared.Refusal.TheVariants.{LeastNorm}
use Rattle.least_norm.specs.Promise as promise

-- the reply of LeastNorm::solve, where there is a place for the rank
unfoldable pub reply : ℕ → ℕ → List Float → List Float → List Float → ℕ → List ℕ → promise.Reply
reply m n a b x room rank = cond (leb 1 (length rank)) (promise.reply m n a b x room) (promise.refused LeastNorm)

abbrev pub rank_after : promise.Reply → List ℕ → List ℕ
rank_after (promise.refused e) rank = rank
rank_after (promise.answered s) rank = set rank 0 s.rank

pub record Answered (reply : promise.Reply) (r : ℕ) (a a' b b' x x' w w' : List Float) (rank rank' : List ℕ) : Type 0 where
  pub number_is : r ≡ promise.reply_number reply
  pub a_is : a' ≡ promise.a_left reply a
  pub b_is : b' ≡ promise.b_left reply b
  pub x_is : x' ≡ promise.x_left reply x
  pub workspace_left : drop (promise.used reply) w' ≡ drop (promise.used reply) w
  pub rank_left : rank' ≡ rank_after reply rank
