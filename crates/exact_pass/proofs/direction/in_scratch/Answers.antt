use Rattle.std.proofs.Common.{◌*◌, ◌≤◌, arith, length}
use native.Mathlib.Nat.{mul-le-mul}
use Rattle.exact_pass.proofs.direction.in_scratch.Goals as goal

pub whole_as_front-from_system : goal.whole_as_front-from_system
whole_as_front-from_system g c =
    let n = length c.args.free.now.rows.now in
    let few : n * n ≤ g.row.N * g.row.N = mul-le-mul c.requires.few c.requires.few in
    (omega arith, omega arith)
