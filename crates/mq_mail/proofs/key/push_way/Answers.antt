use Rattle.mq_mail.proofs.InboxMoves.{pushes, learns_among}
use Rattle.mq_mail.proofs.key.push_way.Goals as goal

pub push_as-requires-clause-rule : goal.push_as-requires-clause-rule
push_as-requires-clause-rule g c = (pushes _ _ _ _ _ c.requires.owns c.requires.place c.requires.parcel, learns_among _ _)
