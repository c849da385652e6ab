use Rattle.std.proofs.Common.{sym, ap, subst, ◌∙◌, arith}
use Rattle.mq_machine.specs.Acting.{PumpSteps}
use Rattle.mq_mem.specs.Mails.{Mail as MailOf, shown}
use Rattle.mq_mem.specs.Offices.{Office as OfficeOf, seen_of}
use Rattle.mq_net.specs.Sims.{told}
use Rattle.mq_pump.specs.Holds.{IsPump, pump_sight}
use Rattle.mq_world.proofs.Pumping.{count_is, pumped}
use Rattle.mq_world.proofs.workers.Workers.step_pump.Goals as goal

pub turn_to-requires-2 : goal.turn_to-requires-2
turn_to-requires-2 c =
    let is = c.requires.1 in
    let at = count_is c.args.self.now c.requires.0 is c.count-number.result (c.count-number.ensures c.requires.0 is) in
    let size = is.boxes in
    omega (arith, at, size)

pub step-requires-clause-mail : goal.step-requires-clause-mail
step-requires-clause-mail c =
    let is = c.requires.1 in
    ap (λ (m : MailOf). m.actor) c.turn_to-2.ensures ∙ count_is c.args.self.now c.requires.0 is c.count-number.result (c.count-number.ensures c.requires.0 is) ∙ sym is.pump.workers_are

pub returns : goal.returns
returns c = λ s is.
    let old = c.args.self.now in
    let k = c.count-number.result in
    let office : OfficeOf = c.step.new.office in
    let mail : MailOf = c.step.new.mail in
    let pump = c.step.new.self in
    let gives =
    subst (λ (m : MailOf). PumpSteps (IsPump old.pump) (IsPump pump) (pump_sight (told old.pump.net) old.pump.net.counts (seen_of (record old.office { actor = k })) (shown m.boxes))
    (pump_sight (told pump.net) pump.net.counts (seen_of office) (shown mail.boxes)) c.step.result) c.turn_to-2.ensures
    (subst (λ (o : OfficeOf). PumpSteps (IsPump old.pump) (IsPump pump) (pump_sight (told old.pump.net) old.pump.net.counts (seen_of o) (shown c.turn_to-2.new.self.boxes))
    (pump_sight (told pump.net) pump.net.counts (seen_of office) (shown mail.boxes)) c.step.result) c.turn_to.ensures c.step.ensures.gives) in
    pumped old s is k (c.count-number.ensures s is) office mail pump old.pump.net.counts pump.net.counts c.step.ensures.rest.1
    (c.step.ensures.office.1 ∙ ap (λ (o : OfficeOf). o.book.config) c.turn_to.ensures) c.step.result gives
