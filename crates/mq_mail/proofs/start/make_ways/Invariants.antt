use Rattle.std.proofs.Common.{map}
use Rattle.mq_mail.specs.Made.{AreWaysTo}
use Rattle.mq_mail.proofs.MatrixMoves.{AreHalfway}
use Rattle.mq_mail.specs.PostParts.{inbox_id}
use Rattle.mq_mail.proofs.start.make_ways.Given as goal

abbrev pub invariant-loop-i : goal.invariant-loop-i
invariant-loop-i l = record {
  firsts : AreHalfway l.actor l.i (map inbox_id l.inboxes) l.firsts.items;
  ways : AreWaysTo l.actor l.i (map inbox_id l.inboxes) l.ways.items;
}
