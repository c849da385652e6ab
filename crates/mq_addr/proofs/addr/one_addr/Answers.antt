use Rattle.mq_addr.proofs.addr.one_addr.Goals as goal
use Rattle.mq_addr.proofs.AddrTexts as lemma

pub returns : goal.returns
returns c = lemma.one_addr
