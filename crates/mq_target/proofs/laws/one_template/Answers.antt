use Rattle.mq_target.proofs.Templates.{one_template}
use Rattle.mq_target.proofs.laws.one_template.Goals as goal

pub returns : goal.returns
returns c = λ text a b is_a is_b. one_template c.cut_once.ensures text a b is_a is_b
