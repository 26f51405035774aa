use Rattle.std.proofs.Common.{◌≡◌, ℕ, length, length-take, refl, rules, arith}
use Rattle.capi_exact.proofs.Sums.{pasted_front}
use Rattle.capi_exact.proofs.exact.keep.Goals as goal

pub copy_from_slice-requires : goal.copy_from_slice-requires
copy_from_slice-requires c = let h : length c.args.sum.words ≡ 67 = search rules in omega (arith, h, c.requires.0, length-take {A = ℕ})

pub returns : goal.returns
returns c = let h : length c.args.sum.words ≡ 67 = search rules in rw (c.copy_from_slice.ensures.after, c.flag.ensures) (pasted_front _ _ h c.requires.0, refl)
