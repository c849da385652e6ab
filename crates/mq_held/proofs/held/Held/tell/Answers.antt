use Rattle.mq_held.proofs.Asked.{tells_so}
use Rattle.mq_held.proofs.held.Held.tell.Goals as goal

pub returns-in-Ok-clause-gives : goal.returns-in-Ok-clause-gives
returns-in-Ok-clause-gives g c = λ s conn want.
    let old = g.O.Office.seen c.args.office.now in
    let new = g.O.Office.seen c.ask_or_close.new.office in
    tells_so old.actor old new c.args.call c.args.tunnel c.args.self.now.conn c.answer.new.self s c.in-Ok.reply c.answer.result conn c.requires.tunnel want c.in-Ok.ensures.gives c.answer.ensures.hears
