use Rattle.mq_conn.proofs.acts.bind_of_act.Goals as goal

pub returns-in-Bind : goal.returns-in-Bind
returns-in-Bind c = c.in-Bind.is

pub returns-in_default : goal.returns-in_default
returns-in_default c = tt
