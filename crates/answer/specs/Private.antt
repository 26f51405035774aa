-- Words of private contracts: the problem at the fronts of what it was read into. No promise of a public call stands on
-- them. Definitions only.
use Rattle.std.specs.Prelude.{◌*◌, take}
use Rattle.bend_file.specs.Read as read
use Rattle.bend_file.specs.declared.Shape.{Shape}
use Rattle.box_rows.specs.Rows as box
use Rattle.boxed.specs.Solve as solve
use Rattle.answer.specs.Output.{solved}
use Rattle.answer.specs.declared.Values.{Values}

-- the solve of the problem at the fronts
abbrev pub fronts_of : Shape → read.Lent → solve.Result
fronts_of x b =
    solved
    (box.problem (take (x.rows * x.rows) b.w) (take x.rows b.u_free) (take x.rows b.lo) (take x.rows b.hi) (take x.rows b.scale))
    (solve.watch (take (x.coords * x.rows) b.motion) x.tolerance)
    (take x.rows b.nu)

abbrev pub held : Values → read.Lent
held v = record { w = v.w; u_free = v.u_free; lo = v.lo; hi = v.hi; scale = v.scale; nu = v.nu; motion = v.motion }

abbrev pub fronts : Shape → Values → solve.Result
fronts x v = fronts_of x (held v)
