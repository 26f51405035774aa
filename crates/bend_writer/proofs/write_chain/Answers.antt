use Rattle.std.proofs.Common.{◌≡◌, Err}
use borrow.Author.Rules.{rules}
use Rattle.bend_writer.proofs.Rules.{has_room, refusal-written, file-written}
use Rattle.bend_writer.proofs.write_chain.Goals as goal

pub put_steps-requires : goal.put_steps-requires
put_steps-requires c = has_room _ _ _ c.in_ok-bytes.ensures

pub returns-in_err-bytes : goal.returns-in_err-bytes
returns-in_err-bytes c =
    let is : c.from_residual.result ≡ Err c.in_err-bytes.field-0.0 = search rules in
    rw is (refusal-written _ _ _ c.in_err-bytes.ensures)

pub returns : goal.returns
returns c = file-written _ _ _ _ c.in_ok-bytes.ensures c.put_steps.ensures
