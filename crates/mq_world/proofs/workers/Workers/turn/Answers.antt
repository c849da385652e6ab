use Rattle.std.proofs.Common.{ℕ, sym, ap, subst, ◌∙◌}
use Rattle.mq_held.specs.Notes.{note_with}
use Rattle.mq_mem.specs.Mails.{Mail as MailOf}
use Rattle.mq_mem.specs.Offices.{Office as OfficeOf, seen_of}
use Rattle.mq_talk.specs.Offices.{IsSound}
use Rattle.mq_plain.specs.Served.{Plain, Serves}
use Rattle.mq_plain.specs.Taking.{Common}
use Rattle.mq_world.proofs.Pumping.{sound_turned}
use Rattle.mq_world.proofs.Stepping.{read_at, begins, turned_took, stepped}
use Rattle.mq_world.proofs.workers.Workers.turn.Goals as goal

pub take-requires-clause-serves : goal.take-requires-clause-serves
take-requires-clause-serves c =
    let a : Plain = c.index_mut-worker.result.now in
    let s = c.requires.stands.0 in
    let at = read_at c.args.self.now.workers.items c.args.number a c.requires.number c.index_mut-worker.ensures.value in
    let f = begins c.args.self.now s c.requires.stands.1 c.args.number c.requires.number c.turn_to.new.self c.turn_to-2.new.self a c.turn_to.ensures c.turn_to-2.ensures at in
    (s.links, f.0, subst (λ (n : ℕ). Serves s.links (seen_of c.turn_to.new.self) c.turn_to-2.new.self.boxes n a f.0) (sym f.2.id) f.2)

pub take-requires-clause-office : goal.take-requires-clause-office
take-requires-clause-office c =
    let a : Plain = c.index_mut-worker.result.now in
    let s = c.requires.stands.0 in
    let at = read_at c.args.self.now.workers.items c.args.number a c.requires.number c.index_mut-worker.ensures.value in
    let f = begins c.args.self.now s c.requires.stands.1 c.args.number c.requires.number c.turn_to.new.self c.turn_to-2.new.self a c.turn_to.ensures c.turn_to-2.ensures at in
    ap (λ (o : OfficeOf). o.actor) c.turn_to.ensures ∙ sym f.2.id

pub take-requires-clause-mail : goal.take-requires-clause-mail
take-requires-clause-mail c =
    let a : Plain = c.index_mut-worker.result.now in
    let s = c.requires.stands.0 in
    let at = read_at c.args.self.now.workers.items c.args.number a c.requires.number c.index_mut-worker.ensures.value in
    let f = begins c.args.self.now s c.requires.stands.1 c.args.number c.requires.number c.turn_to.new.self c.turn_to-2.new.self a c.turn_to.ensures c.turn_to-2.ensures at in
    ap (λ (m : MailOf). m.actor) c.turn_to-2.ensures ∙ sym f.2.id

pub returns-clause-gives : goal.returns-clause-gives
returns-clause-gives c = λ s is.
    let a : Plain = c.index_mut-worker.result.now in
    let at = read_at c.args.self.now.workers.items c.args.number a c.requires.number c.index_mut-worker.ensures.value in
    let f = begins c.args.self.now s is c.args.number c.requires.number c.turn_to.new.self c.turn_to-2.new.self a c.turn_to.ensures c.turn_to-2.ensures at in
    let new : Common = record { office = c.take.new.office; mail = c.take.new.mail; bind_fails = c.take.new.bind_fails } in
    let took = turned_took c.args.self.now s is c.args.number c.requires.number c.turn_to.new.self c.turn_to-2.new.self new c.take.new.worker (note_with c.take.result c.take.new.told) f.0 c.turn_to.ensures c.turn_to-2.ensures
    (c.take.ensures.takes s.links c.args.number f.0 f.2) in
    stepped c.args.self.now s is c.args.number c.requires.number new c.mark.new.rests c.mark.ensures c.take.new.worker (note_with c.take.result c.take.new.told) f.0 f.1 (f.2.stands.id ∙ f.2.id) took

pub take-requires-clause-sound : goal.take-requires-clause-sound
take-requires-clause-sound c =
    subst (λ (o : OfficeOf). IsSound (seen_of o)) (sym c.turn_to.ensures) (sound_turned c.args.self.now.office c.args.number c.is_sound.ensures)
