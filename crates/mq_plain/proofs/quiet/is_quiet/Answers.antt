use Rattle.mq_plain.proofs.quiet.is_quiet.Goals as goal

pub returns : goal.returns
returns c = λ links seen boxes number w x box both. c.is_quiet.ensures w x.stands x.tells box both
