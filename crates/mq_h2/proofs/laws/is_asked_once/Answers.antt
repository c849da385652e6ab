use Rattle.mq_h2.proofs.AskedOnce.{asked_once, keeps_asked}
use Rattle.mq_h2.proofs.laws.is_asked_once.Goals as goal

pub returns-clause-reads : goal.returns-clause-reads
returns-clause-reads c = asked_once

pub returns-clause-acts : goal.returns-clause-acts
returns-clause-acts c = keeps_asked
