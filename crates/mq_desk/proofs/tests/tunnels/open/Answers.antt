use Rattle.mq_desk.proofs.Mine.{opened}
use Rattle.mq_desk.proofs.tests.tunnels.open.Goals as goal

pub returns-in-Opened-clause-mine : goal.returns-in-Opened-clause-mine
returns-in-Opened-clause-mine g c =
    let desk = c.args.pass.now.desk.now in
    opened desk.settings c.call.new.self.desk.now.settings c.args.pass.now.key c.call.new.self.key c.args.actor 0 0 c.args.actor _ c.in-Opened.tunnel c.in-Opened.routes _ _
    c.requires.actor.0 c.in-Ok.is c.in-Opened.is c.call.ensures.gives
