use Rattle.mq_iptun.proofs.Sizes.{told_short}
use Rattle.mq_iptun.proofs.Telling.{can_be_told}
use Rattle.mq_iptun.proofs.laws.answers_can_be_told.Goals as goal

pub returns : goal.returns
returns c = record { told = can_be_told; short = told_short }
