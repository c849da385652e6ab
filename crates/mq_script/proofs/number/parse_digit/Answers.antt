use Rattle.mq_script.proofs.Digits.{one_digit}
use Rattle.mq_script.proofs.number.parse_digit.Goals as goal

pub returns : goal.returns
returns c = one_digit c.digit_of.result c.in_ok-digit.digit c.args.text.now c.in_ok-digit.ensures c.digit_of.ensures
