use Rattle.mq_desk.proofs.Mine.{judged}
use Rattle.mq_desk.proofs.tests.tunnels.judge.Goals as goal

pub returns-clause-mine : goal.returns-clause-mine
returns-clause-mine g c =
    let desk = c.args.pass.now.desk.now in
    judged desk.settings c.judge.new.self.desk.now.settings c.args.pass.now.key c.judge.new.self.key c.args.actor c.args.tunnel _ _ _ c.requires.actor c.judge.ensures.gives c.judge.ensures.legal c.requires.mine
