use Rattle.std.proofs.Common.{lit<}
use Rattle.std.proofs.lemmas.Fmt.{decimal_digit}
use Rattle.mq_script.specs.Generated.{actor_word, step_line}
use Rattle.mq_script.proofs.drawn_line.append_step.Goals as goal

pub returns-in-0 : goal.returns-in-0
unfolding step_line
returns-in-0 c = let a = c.in-0.is in let digit = decimal_digit 0 (lit< tt) in rw (a, actor_word, digit) c.append.ensures

pub returns-in-1 : goal.returns-in-1
unfolding step_line
returns-in-1 c = let a = c.in-1.is in let digit = decimal_digit 1 (lit< tt) in rw (a, actor_word, digit) c.append-in-1.ensures
