use Rattle.std.proofs.Common.{◌≡◌, length, map}
use Rattle.mq_mail.specs.Made.{AreFirsts, AreRows}
use Rattle.mq_mail.specs.PostParts.{inbox_id}
use Rattle.mq_mail.proofs.start.make_rows.Given as goal

abbrev pub invariant-loop-actor : goal.invariant-loop-actor
invariant-loop-actor l = record {
  firsts : AreFirsts l.actor (map inbox_id l.inboxes) l.firsts.items;
  rows : AreRows 0 (map inbox_id l.inboxes) l.rows.items;
  count : length l.rows.items ≡ l.actor;
}
