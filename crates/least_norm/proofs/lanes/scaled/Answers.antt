use Rattle.std.proofs.Common.{rules, ◌≡◌, refl, sym, ◌∙◌, length, ℕ, ◌<◌, ◌+◌, replicate, arith}
use Rattle.std.proofs.lemmas.List.{ext_get_or}
use Rattle.std.specs.Float.{nan}
use lib.ListN.{length-replicate}
use lib.Ieee.{Float}
use Rattle.loops.proofs.Updates.{updated-long, updated_here}
use Rattle.floats.specs.Ops.{at, 0ᶠ, ◌⊗◌}
use Rattle.loops.proofs.Made.{made}
use Rattle.least_norm.proofs.lanes.scaled.Goals as goal

pub returns : goal.returns
returns g c =
    let x = c.args.x.now in
    let s : ℕ → Float = λ (t : ℕ). c.args.f ⊗ at x (c.args.p + t) in
    let w : (t : ℕ) → Float → Float = λ (t : ℕ) (v : Float). s t in
    let z = replicate g.row.K 0ᶠ in
    let all = c.from_fn.ensures.items in
    let m = made _ s (λ h. (h.0.now ≡ c.args.f) × (h.1.now ≡ x) × (h.2.now ≡ c.args.p)) (λ h q i y kept called. (search rules, search rules)) g.row.K _ _ (refl, refl, refl) all in
    let lz : length z ≡ g.row.K = length-replicate g.row.K 0ᶠ in
    let lu = updated-long nan (λ (t : ℕ). t) w 0 z g.row.K (omega arith) in
    ext_get_or nan _ _ (all.long ∙ sym (lu ∙ lz))
    (λ (i : ℕ) (h : i < length c.from_fn.result). let b : i < g.row.K = omega (arith, h, all.long) in
    (m i b).1 nan ∙ sym (updated_here nan (λ t. t) w 0 z (λ t u h e. omega arith) g.row.K i (omega arith) b (omega (arith, lz, b))))
