use Rattle.std.proofs.Common.{arith}
use Rattle.std.proofs.lemmas.Fmt.{decimal_digit}
use Rattle.mq_addr.proofs.Decimals.{two_digits, three_digits}
use Rattle.mq_addr.proofs.print.push_decimal.Goals as goal

pub returns-in_default-clause-value : goal.returns-in_default-clause-value
returns-in_default-clause-value c = rw (decimal_digit c.args.n (omega arith)) c.push.ensures

pub returns-in-10-to-255-clause-value : goal.returns-in-10-to-255-clause-value
returns-in-10-to-255-clause-value c = rw (two_digits c.args.n (omega arith) (omega arith)) c.append.ensures

pub returns-in-100-to-255-clause-value : goal.returns-in-100-to-255-clause-value
returns-in-100-to-255-clause-value c = rw (three_digits c.args.n (omega arith) (omega arith)) c.append-in-100-to-255.ensures
