use Rattle.std.proofs.Common.{◌≡◌, ◌≤◌, List, length, map, vec_len, vec_capacity}
use Rattle.mq_mail.specs.Closing.{AreGathered}
use Rattle.mq_mail.specs.PostParts.{inbox_id}
use Rattle.mq_mail.specs.Posts.{KeyOf}
use Rattle.mq_mail.specs.Tallies.{AreAllKeys}
use Rattle.mq_mail.proofs.Closing.{AreTalliedTo}
use Rattle.mq_mail.proofs.close.tally_each.Given as goal

abbrev pub invariant-loop-i : goal.invariant-loop-i
invariant-loop-i g l = record {
  gathered : (keys : List KeyOf) → AreAllKeys (map inbox_id l.inboxes) keys
      → AreGathered (map inbox_id l.inboxes) keys keys l.fn.gathered.passes.items l.fn.gathered.popped.items
      → AreGathered (map inbox_id l.inboxes) keys keys l.gathered.passes.items l.gathered.popped.items × AreTalliedTo keys l.tallies.items;
  size : length l.tallies.items ≡ l.i;
  count : vec_len l.tallies ≡ l.i;
  room : length l.inboxes ≤ vec_capacity l.tallies;
}
