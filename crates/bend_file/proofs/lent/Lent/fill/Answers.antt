use native.Mathlib.Omega.{arith}
use Prim.Native.Nat.{◌+◌, ◌*◌}
use mathlib.Core.Path.{◌≡◌, ◌∙◌, ap}
use Rattle.bend_file.specs.Little.{value}
use Rattle.bend_file.specs.Read as read
use Rattle.bend_file.proofs.Values.{values-laid}
use Rattle.bend_file.proofs.lent.Lent.fill.Goals as goal

pub returns-clause-shape : goal.returns-clause-shape
unfolding read.problem
returns-clause-shape c =
    let n = c.args.at.rows in
    let m = c.args.at.coords in
    let e : c.fill-7.new.self.at ≡ c.args.at.start + 8 * (n * n + 5 * n + m * n) = omega arith in
    let t = c.f64_at.ensures ∙ ap (value c.args.file.now) e in
    λ i. record { rows = n; coords = m; tolerance = t i }

pub returns-clause-buffers : goal.returns-clause-buffers
unfolding read.problem
returns-clause-buffers c =
    let n = c.args.at.rows in
    let s = c.args.at.start in
    let file = c.args.file in
    let a = c.fill.ensures.out in
    let b = values-laid file c.fill.new.self.file s (n * n) n _ _ _ c.fill.ensures.file (omega arith) c.fill-2.ensures.out in
    let d = values-laid file c.fill-2.new.self.file s (n * n + n) n _ _ _ (cc) (omega arith) c.fill-3.ensures.out in
    let e = values-laid file c.fill-3.new.self.file s (n * n + 2 * n) n _ _ _ (cc) (omega arith) c.fill-4.ensures.out in
    let f = values-laid file c.fill-4.new.self.file s (n * n + 3 * n) n _ _ _ (cc) (omega arith) c.fill-5.ensures.out in
    let g = values-laid file c.fill-5.new.self.file s (n * n + 4 * n) n _ _ _ (cc) (omega arith) c.fill-6.ensures.out in
    let h = values-laid file c.fill-6.new.self.file s (n * n + 5 * n) (c.args.at.coords * n) _ _ _ (cc) (omega arith) c.fill-7.ensures.out in
    λ i. record { w = a i; u_free = b i; lo = d i; hi = e i; scale = f i; nu = g i; motion = h i }
