use Rattle.std.proofs.Common.{◌≡◌, ◌+◌, length, map}
use Rattle.mq_mail.specs.Made.{AreRows, AreLast}
use Rattle.mq_mail.specs.PostParts.{inbox_id}
use Rattle.mq_mail.specs.Posts.{new_keys}
use Rattle.mq_mail.proofs.start.make_keys.Given as goal

abbrev pub invariant-loop-actor : goal.invariant-loop-actor
invariant-loop-actor l = record {
  firsts : AreLast l.actors l.actor (map inbox_id l.inboxes) l.firsts.items;
  firsts_left : length l.firsts.items + l.actor ≡ l.actors;
  rows : AreRows l.actor (map inbox_id l.inboxes) l.rows.items;
  rows_left : length l.rows.items + l.actor ≡ l.actors;
  keys : l.keys.items ≡ new_keys (map inbox_id l.inboxes) 0 l.actor;
}
