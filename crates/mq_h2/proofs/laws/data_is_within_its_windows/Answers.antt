use Rattle.mq_h2.proofs.Rooms.{sends_within}
use Rattle.mq_h2.proofs.laws.data_is_within_its_windows.Goals as goal

pub returns : goal.returns
returns c = sends_within
