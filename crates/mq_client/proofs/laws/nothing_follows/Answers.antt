use Rattle.mq_client.proofs.Brought as brought
use Rattle.mq_client.proofs.Cutting as cutting
use Rattle.mq_client.proofs.laws.nothing_follows.Goals as goal

pub returns-clause-bytes : goal.returns-clause-bytes
returns-clause-bytes c = brought.nothing_follows c.is_readable.ensures c.stays_read.ensures

pub returns-clause-reads : goal.returns-clause-reads
returns-clause-reads c = cutting.tells_no_more (brought.told_once c.is_read_once.ensures) (brought.nothing_follows c.is_readable.ensures c.stays_read.ensures)
