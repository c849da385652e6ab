use Rattle.mq_addr.proofs.addr.addr_bytes.Goals as goal
use Rattle.mq_addr.proofs.Alphabet as lemma

pub returns : goal.returns
returns c = lemma.addr_bytes
