use Rattle.mq_client.proofs.Brought as brought
use Rattle.mq_client.proofs.Cutting as cutting
use Rattle.mq_client.proofs.laws.told_once.Goals as goal

pub returns-clause-bytes : goal.returns-clause-bytes
returns-clause-bytes c = brought.told_once c.is_read_once.ensures

pub returns-clause-reads : goal.returns-clause-reads
returns-clause-reads c = cutting.one_read (brought.told_once c.is_read_once.ensures) c.has_one_reading.ensures c.is_read_once.ensures c.is_read_once-2.ensures
