use Rattle.mq_hpack.proofs.OneReading.{has_one_reading}
use Rattle.mq_hpack.proofs.laws.has_one_reading.Goals as goal

pub returns : goal.returns
returns c = has_one_reading c.one_reading.ensures c.one_answer.ensures.text_or_fault
