use Rattle.std.proofs.Common.{◌≡◌, length, map}
use Rattle.mq_mail.specs.Made.{AreFirsts}
use Rattle.mq_mail.specs.PostParts.{inbox_id, HaveRoom}
use Rattle.mq_mail.proofs.start.make_inboxes.Given as goal

abbrev pub invariant-loop : goal.invariant-loop
invariant-loop l = record {
  size : length l.inboxes.items ≡ l.counter;
  room : HaveRoom l.capacity l.inboxes.items;
  firsts : AreFirsts 0 (map inbox_id l.inboxes.items) l.firsts.items;
}
