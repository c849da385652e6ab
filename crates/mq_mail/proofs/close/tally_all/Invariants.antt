use Rattle.std.proofs.Common.{◌≡◌, ◌+◌, List, ◌∷◌, ◌++◌, length, map}
use Rattle.mq_mail.specs.Closing.{AreGathered}
use Rattle.mq_mail.specs.PostParts.{inbox_id}
use Rattle.mq_mail.specs.Posts.{KeyOf}
use Rattle.mq_mail.proofs.close.tally_all.Given as goal

abbrev pub invariant-loop : goal.invariant-loop
invariant-loop g l = record {
  done : List KeyOf;
  split : l.fn.first ∷ l.fn.rest.items ≡ done ++ l.rest.items;
  count : length done ≡ 1 + l.counter;
  gathered : AreGathered (map inbox_id l.inboxes) done done l.gathered.passes.items l.gathered.popped.items;
}
