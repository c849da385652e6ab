use Rattle.mq_play.proofs.Prints.{told}
use Rattle.mq_play.proofs.laws.note_told.Goals as goal

pub returns : goal.returns
returns c = told c.cut_once.ensures c.addr_bytes.ensures c.printed_again.ensures c.one_prefix.ensures
