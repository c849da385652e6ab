use Rattle.std.proofs.Common.{arith, length, ◌<◌}
use Rattle.std.proofs.lemmas.Result.{err_from_is_err_and}
use Rattle.mq_script.proofs.Pieces.{too_long, up_to_fault}
use Rattle.mq_script.proofs.hex_piece.parse_up_to.Goals as goal

pub returns-in_err-bytes : goal.returns-in_err-bytes
returns-in_err-bytes c =
    let p = err_from_is_err_and c.from_residual.result c.from_residual.ensures.1 in
    rw (p.1, p.2) (up_to_fault c.args.most c.args.text.now c.in_err-bytes.field-0.0 c.in_err-bytes.ensures)

pub returns-then-as_slice-most : goal.returns-then-as_slice-most
returns-then-as_slice-most c =
    let long : c.args.most < length c.as_slice.result.now = omega arith in
    too_long c.args.most c.args.text.now c.in_ok-bytes.bytes c.in_ok-bytes.ensures (rw c.as_slice.ensures at long)
