use Rattle.std.proofs.Common.{◌≡◌, ◌+◌, ◌∷◌, [], sym, arith}
use Rattle.std.proofs.lemmas.Fmt.{decimal_digit}
use Rattle.std.proofs.lemmas.Result.{err_from_is_err_and}
use Rattle.mq_script.proofs.Digits.{two_digits}
use Rattle.mq_script.proofs.Printed.{front_before, appends_more}
use Rattle.mq_script.proofs.part.append_number.Goals as goal

pub returns-then-number-lt10 : goal.returns-then-number-lt10
returns-then-number-lt10 c = rw (decimal_digit c.args.number c.if-number-lt10.true) c.append_digit.ensures

pub returns-then-number-lt100 : goal.returns-then-number-lt100
returns-then-number-lt100 c =
    rw (two_digits c.args.number (omega (arith, c.if-number-lt10.false)) c.if-number-lt100.true)
    (appends_more _ _ _ _ _ _ c.in_ok-append_digit.ensures c.append_digit-then-number-lt100-2.ensures)
