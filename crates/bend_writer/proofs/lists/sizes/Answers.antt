use Rattle.std.proofs.Common.{rules, ◌≡◌, refl, sym, ◌∙◌, length, ℕ, ◌<◌, arith}
use Rattle.std.proofs.lemmas.List.{ext_get_or}
use Rattle.loops.proofs.Fill.{tab-length, tab-at}
use Rattle.bend_writer.specs.Private as private
use Rattle.bend_writer.proofs.Passes.{zero_size}
use Rattle.loops.proofs.Made.{made}
use Rattle.bend_writer.proofs.lists.sizes.Goals as goal

pub returns : goal.returns
returns c =
    let s = private.size c.args.rows.now c.args.coords.now c.args.counts.now in
    let all = c.from_fn.ensures.items in
    let m = made _ s (λ f. f ≡ (c.args.rows, c.args.coords, c.args.counts)) (λ f q i y kept called. (search rules, search rules)) 40 _ _ refl all in
    let long : length c.from_fn.result ≡ 40 = all.long in
    ext_get_or zero_size _ _ (long ∙ sym (tab-length s 40))
    (λ (i : ℕ) (h : i < length c.from_fn.result). let b : i < 40 = omega (arith, h, long) in (m i b).1 zero_size ∙ sym (tab-at s 40 i zero_size b))
