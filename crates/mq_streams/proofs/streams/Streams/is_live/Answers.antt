use Rattle.std.proofs.Common.{◌∙◌}
use Rattle.mq_streams.proofs.Live.{live_test}
use Rattle.mq_streams.proofs.streams.Streams.is_live.Goals as goal

pub returns : goal.returns
returns c = λ h is. c.is_some.ensures ∙ live_test h c.args.self.now.table.rows.items is.live_are c.args.id c.place.result c.place.ensures
