use Rattle.mq_client.proofs.Windows as windows
use Rattle.mq_client.proofs.Waiting as waiting
use Rattle.mq_client.proofs.laws.data_is_within_its_windows.Goals as goal

pub returns-clause-within : goal.returns-clause-within
returns-clause-within c = windows.sends_within

pub returns-clause-all : goal.returns-clause-all
returns-clause-all c = windows.sends_all

pub returns-clause-always : goal.returns-clause-always
returns-clause-always c = waiting.always_sent
