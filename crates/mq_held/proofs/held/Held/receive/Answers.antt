use Rattle.std.proofs.Common.{rules}
use Rattle.mq_held.proofs.held.Held.receive.Goals as goal

pub returns-in-Ok-Datagram-clause-gives : goal.returns-in-Ok-Datagram-clause-gives
returns-in-Ok-Datagram-clause-gives g c = rw (c.put_note.ensures) (search rules)
