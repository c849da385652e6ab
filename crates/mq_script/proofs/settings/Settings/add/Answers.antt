use Rattle.mq_script.proofs.Growth.{grown}
use Rattle.mq_script.proofs.settings.Settings.add.Goals as goal

pub returns-clause-adds : goal.returns-clause-adds
returns-clause-adds c = grown c.args.self.now c.put.new.self c.args.line c.put.result c.put.ensures
