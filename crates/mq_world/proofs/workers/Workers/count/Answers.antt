use Rattle.std.proofs.Common.{sym, ◌∙◌}
use Rattle.mq_world.proofs.Offered.{workers_long}
use Rattle.mq_world.proofs.workers.Workers.count.Goals as goal

pub returns : goal.returns
returns c = λ s is. c.len.ensures ∙ c.args.self.now.workers.ok.0 ∙ sym (workers_long c.args.self.now s is)
