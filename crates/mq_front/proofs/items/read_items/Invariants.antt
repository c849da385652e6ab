use Rattle.mq_front.proofs.Pieces.{Far}
use Rattle.mq_front.proofs.items.read_items.Given as goal

abbrev pub invariant-loop : goal.invariant-loop
invariant-loop l = Far l.fn.carrier l.fn.first l.initial.reader l.reader l.fn.piece l.left l.initial.due l.due l.asked.n l.asked.closes l.counter
