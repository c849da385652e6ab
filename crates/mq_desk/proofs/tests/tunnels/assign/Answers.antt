use Rattle.mq_desk.proofs.Mine.{assigned}
use Rattle.mq_desk.proofs.tests.tunnels.assign.Goals as goal

pub returns-in-Ok-Assigned-clause-mine : goal.returns-in-Ok-Assigned-clause-mine
returns-in-Ok-Assigned-clause-mine g c =
    let desk = c.args.pass.now.desk.now in
    assigned desk.settings c.call.new.self.desk.now.settings c.args.pass.now.key c.call.new.self.key c.args.actor c.args.tunnel _ _ _ c.requires.actor.0 c.call.ensures.gives c.call.ensures.legal c.requires.mine

pub returns-clause-mine : goal.returns-clause-mine
returns-clause-mine g c =
    let desk = c.args.pass.now.desk.now in
    assigned desk.settings c.call.new.self.desk.now.settings c.args.pass.now.key c.call.new.self.key c.args.actor c.args.tunnel _ _ _ c.requires.actor.0 c.call.ensures.gives c.call.ensures.legal c.requires.mine
