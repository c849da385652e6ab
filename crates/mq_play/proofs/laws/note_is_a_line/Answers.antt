use Rattle.mq_play.proofs.Prints.{is_a_line}
use Rattle.mq_play.proofs.laws.note_is_a_line.Goals as goal

pub returns : goal.returns
returns c = is_a_line c.addr_bytes.ensures c.printed_again.ensures
