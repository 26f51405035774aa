use Rattle.std.proofs.Common.{◌≡◌, arith, length}
use Rattle.exact_pass.proofs.Systems.{directed-run}
use Rattle.exact_pass.proofs.direction.from_system.Goals as goal

pub returns : goal.returns
returns c =
    let long : length c.direction.new.y ≡ length c.args.free.now.rows.now = omega arith in
    directed-run _ _ _ _ _ _ _ _ _ _ c.right_hand_side.ensures c.store.ensures c.args.free.now.few _ _ c.solve.ensures
    _ _ c.matrix.ensures c.residual-inconsistent.ensures _ _ c.direction.ensures c.store-2.ensures long
