use Rattle.mq_held.proofs.held.Held.ask.Goals as goal
use Rattle.mq_held.proofs.Fronts.{hears}
use Rattle.mq_held.proofs.Telling.{tells}

pub returns-in-Ok-clause-gives : goal.returns-in-Ok-clause-gives
returns-in-Ok-clause-gives g c = λ s stands plain want fresh.
    hears
    (g.O.Office.seen c.args.office.now).actor
    (g.O.Office.seen c.args.office.now)
    c.args.call
    (g.O.Office.seen c.call.new.self)
    c.args.self.now.conn
    c.hear.new.self.conn
    s
    c.in-Ok.reply
    c.hear.result
    stands
    plain
    want
    fresh
    c.in-Ok.ensures.gives
    c.hear.ensures.gives

pub hear-requires : goal.hear-requires
hear-requires g c =
    tells c.begins_legal.ensures c.answers_can_be_told.ensures.told (g.O.Office.seen c.args.office.now).actor (g.O.Office.seen c.args.office.now) (g.O.Office.seen c.call.new.self) c.args.call c.in-Ok.reply
    c.in-Ok.ensures.gives (c.in-Ok.ensures.sound c.requires.sound)
