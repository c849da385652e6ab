use Rattle.mq_target.proofs.form.is_pair.Goals as goal
use Rattle.mq_target.proofs.Stepping.{two_at, no_two}

pub returns-in-None : goal.returns-in-None
returns-in-None c = no_two c.args.text.now c.in-None.ensures

pub returns-in-Some : goal.returns-in-Some
returns-in-Some c = two_at c.cut_once.ensures c.args.text.now c.in-Some.first.now c.in-Some.second.now c.are_variables.result c.in-Some.ensures c.are_variables.ensures
