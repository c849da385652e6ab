use Rattle.mq_script.proofs.Digits.{both_digits}
use Rattle.mq_script.proofs.number.parse_two.Goals as goal

pub returns : goal.returns
returns c = both_digits c.args.text.now _ _ c.in_ok-tens.tens c.in_ok-ones.ones c.in_ok-first.ensures c.in_ok-tens.ensures c.in_ok-ones.ensures c.if-tens-eq0.false
