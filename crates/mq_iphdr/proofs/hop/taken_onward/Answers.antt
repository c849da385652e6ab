use Rattle.mq_iphdr.proofs.hop.taken_onward.Goals as goal
use Rattle.mq_iphdr.proofs.Hops as lemma

pub returns : goal.returns
returns c = lemma.taken_onward
