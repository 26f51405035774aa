use Rattle.std.proofs.Common.{◌≡◌, Err, arith}
use borrow.Author.Rules.{rules}
use Rattle.bend_file.proofs.Accepted.{inside, reads-refused, reads_accepted}
use Rattle.bend_file.proofs.read.Goals as goal

pub returns-in_err-values : goal.returns-in_err-values
returns-in_err-values c =
    let is : c.from_residual.result ≡ Err c.in_err-values.field-0.0 = search rules in
    rw is (reads-refused _ _ _ c.in_err-values.ensures)

pub fill-requires-clause-inside : goal.fill-requires-clause-inside
fill-requires-clause-inside c = inside _ _ c.in_ok-values.ensures

pub fill-requires-clause-room : goal.fill-requires-clause-room
fill-requires-clause-room c =
    let v = inside _ _ c.in_ok-values.ensures in
    record {
      w = omega (arith, v.small.square);
      u_free = omega (arith, v.small.few);
      lo = omega (arith, v.small.few);
      hi = omega (arith, v.small.few);
      scale = omega (arith, v.small.few);
      nu = omega (arith, v.small.few);
      motion = omega (arith, v.small.moving);
    }

pub returns : goal.returns
returns c = reads_accepted _ _ _ _ _ c.in_ok-values.ensures c.fill.ensures.shape (search rules)
