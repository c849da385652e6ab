use Rattle.std.proofs.Common.{◌++◌, ap}
use Rattle.std.proofs.lemmas.Result.{err_from_is_err_and}
use Rattle.mq_huff.specs.Code.{bits_of}
use Rattle.mq_huff.specs.Coded.{joined}
use Rattle.mq_huff.specs.State.{read_at}
use Rattle.mq_huff.proofs.Reading.{joined_symbol, joined_end}
use Rattle.mq_huff.proofs.decoding.step.Goals as goal

pub returns-in-Nothing : goal.returns-in-Nothing
returns-in-Nothing c =
    let h = rw c.in-Nothing.is at c.step_at-ended.ensures in
    ap (λ x. joined c.args.out.now.items ++ x) h

pub returns-in-EndOfString : goal.returns-in-EndOfString
returns-in-EndOfString c =
    let h = rw c.in-EndOfString.is at c.step_at-ended.ensures in
    joined_end c.args.out.now.items (read_at c.args.state ++ bits_of 4 c.args.four) h

pub returns-in_ok-push-in-Symbol : goal.returns-in_ok-push-in-Symbol
returns-in_ok-push-in-Symbol c =
    let h = rw c.in-Symbol.is at c.step_at-ended.ensures in
    rw c.in_ok-push-in-Symbol.ensures.items
    (joined_symbol c.args.out.now.items (read_at c.args.state ++ bits_of 4 c.args.four) (read_at c.step_at-ended.result.next) c.in-Symbol.symbol h)

pub returns-in_err-push-in-Symbol : goal.returns-in_err-push-in-Symbol
returns-in_err-push-in-Symbol c =
    let p = err_from_is_err_and c.from_residual.result c.from_residual.ensures.1 in
    rw (p.1, p.2) tt
