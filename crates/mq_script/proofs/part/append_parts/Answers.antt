use Rattle.std.proofs.lemmas.Result.{err_from_is_err_and}
use Rattle.mq_script.proofs.Printed.{front_before}
use Rattle.mq_script.proofs.part.append_parts.Goals as goal

pub returns-in_err-append_byte : goal.returns-in_err-append_byte
returns-in_err-append_byte c =
    let p = err_from_is_err_and c.from_residual.result c.from_residual.ensures.1 in
    rw p.1 (front_before _ _ _ _ c.loop-part.invariant c.in_err-append_byte.ensures)

pub returns-in_err-append_part : goal.returns-in_err-append_part
returns-in_err-append_part c =
    let p = err_from_is_err_and c.from_residual-in_err-append_part.result c.from_residual-in_err-append_part.ensures.1 in
    rw p.1 (front_before _ _ _ _ c.loop-part.invariant (front_before _ _ _ _ c.in_ok-append_byte.ensures c.in_err-append_part.ensures))
