-- From what the writer promises to what the exported call answers and leaves.
use Rattle.std.proofs.Common.{◌≡◌, ℕ, ◌≤◌, Bool, true, false, ◌&&◌, leb, Result, List, length, refl, ap}
use borrow.Author.Tests.{leb-true}
use Rattle.loops.proofs.Every.{both_true}
use Rattle.refusals.specs.declared.Refusal.{Refusal}
use Rattle.bend_writer.specs.Steps.{Step}
use Rattle.bend_writer.specs.Write as write
use Rattle.capi_chains.specs.ChainWriter as def

module _ (taken : Bool) (l : List Step) (out written : List ℕ) where
  pub not_taken : taken ≡ false → def.Answered (def.reply taken l (length out)) 10 out out written written
  unfolding def.reply
  not_taken h = rw h (record { number_is = refl; output = refl; written_is = refl })

  pub answered : taken ≡ true → (w : Result ℕ Refusal) (out' : List ℕ) → write.Writes l w out out' → def.Answered (def.reply taken l (length out)) (def.number w) out out' written (def.written_left w written)
  unfolding def.reply
  answered h w out' p =
      rw h (record { number_is = ap def.number p.result; output = p.output; written_is = ap (λ (r : Result ℕ Refusal). def.written_left r written) p.result })
