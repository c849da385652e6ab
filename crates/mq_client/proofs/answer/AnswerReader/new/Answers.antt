use Rattle.mq_client.proofs.Heads.{waits_first}
use Rattle.mq_client.proofs.answer.AnswerReader.new.Goals as goal

pub returns : goal.returns
returns c = (c.new.ensures.items, waits_first)
