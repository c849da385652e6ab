use Rattle.std.proofs.Common.{◌∷◌, ◌∙◌, ap}
use Rattle.mq_machine.specs.declared.act.Due.{Due}
use Rattle.mq_conn.proofs.Wanting.{mark_want}
use Rattle.mq_conn.proofs.conn.Conn.want_of_due.Goals as goal

pub returns-in-Do : goal.returns-in-Do
returns-in-Do c = λ none front rest is. c.want_of_act.ensures none front rest (is ∙ ap (λ (d : Due). d ∷ rest) c.in-Do.is)

pub returns-in_default : goal.returns-in_default
returns-in_default c = λ none front rest is. mark_want c.args.self.now c.args.due.now rest none front is c.in_default.not-Do
