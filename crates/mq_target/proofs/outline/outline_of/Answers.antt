use Rattle.mq_target.proofs.Outlines.{no_braces, not_closed}
use Rattle.mq_target.proofs.outline.outline_of.Goals as goal

pub returns-in-None : goal.returns-in-None
returns-in-None c = no_braces c.args.kind c.args.text.now c.in-None.ensures

pub returns-in-None-cut : goal.returns-in-None-cut
returns-in-None-cut c = not_closed c.cut_once.ensures c.args.kind c.args.text.now c.in-Some.before.now c.in-Some.behind.now c.in-Some.ensures c.in-None-cut.ensures
