use Rattle.mq_replay.proofs.Playing.{told_kept}
use Rattle.mq_replay.proofs.told.Told.add.Goals as goal

pub invariant_of-self : goal.invariant_of-self
invariant_of-self c = told_kept c.self.inside.settings c.add.new.self c.args.line c.add.result c.self.invariant c.requires c.add.ensures.adds c.add.ensures.else_same
