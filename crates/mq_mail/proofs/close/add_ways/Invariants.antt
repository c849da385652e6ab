use Rattle.mq_mail.proofs.Closing.{AreHalfJoined}
use Rattle.mq_mail.proofs.close.add_ways.Given as goal

abbrev pub invariant-loop-i : goal.invariant-loop-i
invariant-loop-i l = AreHalfJoined l.initial.passes.items l.fn.ways.items l.i l.passes.items l.ways.items
