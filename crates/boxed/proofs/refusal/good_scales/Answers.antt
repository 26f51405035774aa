use Rattle.std.proofs.Common.{rules, sym}
use Rattle.std.proofs.lemmas.Iterator.{YieldsList-from_slice}
use Rattle.std.proofs.lemmas.Iterator.Search.{all_from_yields_List}
use mathlib.Core.Path.{◌∙◌}
use lib.Ieee.{nan}
use Rattle.loops.proofs.Every.{every_all}
use Rattle.boxed.specs.Private.{good_scale}
use Rattle.boxed.proofs.refusal.good_scales.Goals as goal

pub returns : goal.returns
returns c =
    all_from_yields_List good_scale _ _ _ c.all.ensures.ran (YieldsList-from_slice c.args.scale.now (cc)) (λ x b q k. search rules)
    ∙ sym (every_all good_scale c.args.scale.now nan)
