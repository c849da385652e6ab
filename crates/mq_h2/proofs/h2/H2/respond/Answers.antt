use Rattle.mq_h2.proofs.Responding.{ready, responded}
use Rattle.mq_h2.proofs.h2.H2.respond.Goals as goal

pub returns : goal.returns
returns c = λ s is few.
    responded c.args.self.now c.respond.new.self c.args.stream c.args.fields.now c.args.end s c.respond.result is few c.respond.ensures.keeps
    (c.respond.ensures.acts s (ready c.args.self.now s is) few)
