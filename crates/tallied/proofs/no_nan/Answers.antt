use Rattle.std.proofs.Common.{rules, sym}
use Rattle.std.proofs.lemmas.Iterator.{YieldsList-from_slice}
use Rattle.std.proofs.lemmas.Iterator.Search.{all_from_yields_List}
use Rattle.std.specs.Prelude.{not, Float}
use mathlib.Core.Path.{◌∙◌}
use lib.Ieee.{nan}
use Rattle.loops.proofs.Every.{every_all}
use Rattle.floats.specs.Helpers.{nan_test}
use Rattle.tally.specs.Tally as def
use Rattle.tallied.proofs.no_nan.Goals as goal

pub returns : goal.returns
unfolding def.no_nan
returns c =
    all_from_yields_List (λ (v : Float). not (nan_test v)) _ _ _ c.all.ensures.ran (YieldsList-from_slice c.args.nu.now (cc)) (λ x b q k. search rules)
    ∙ sym (every_all (λ (v : Float). not (nan_test v)) c.args.nu.now nan)
