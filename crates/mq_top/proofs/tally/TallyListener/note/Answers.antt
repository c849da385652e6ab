use Rattle.std.proofs.Common.{sym, ◌∙◌}
use Rattle.mq_play.specs.Text.{Says}
use Rattle.mq_top.proofs.Tallying.{counted_print}
use Rattle.mq_top.proofs.tally.TallyListener.note.Goals as goal

pub returns-clause-says : goal.returns-clause-says
returns-clause-says c = counted_print _ _ (Says c.args.note.now) (sym c.is_starved.ensures ∙ c.if-is_starved.false) c.in_ok-add.ensures.ok
