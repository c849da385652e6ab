use Rattle.std.proofs.lemmas.Result.{err_from_is_err_and}
use Rattle.mq_script.proofs.Printed.{front_before}
use Rattle.mq_script.proofs.part.append_list.Goals as goal

pub returns-in_err-append_byte : goal.returns-in_err-append_byte
returns-in_err-append_byte c =
    let p = err_from_is_err_and c.from_residual.result c.from_residual.ensures.1 in
    rw p.1 (front_before _ _ _ _ c.loop-given.invariant c.in_err-append_byte.ensures)

pub returns-in_err-append_given : goal.returns-in_err-append_given
returns-in_err-append_given c =
    let p = err_from_is_err_and c.from_residual-in_err-append_given.result c.from_residual-in_err-append_given.ensures.1 in
    rw p.1 (front_before _ _ _ _ c.loop-given.invariant (front_before _ _ _ _ c.in_ok-append_byte.ensures c.in_err-append_given.ensures))
