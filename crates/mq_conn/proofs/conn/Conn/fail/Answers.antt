use Rattle.std.proofs.Common.{[], None, Some, sym, subst, ap, ◌∙◌, refl}
use Rattle.mq_talk.specs.declared.note.End.{End}
use Rattle.mq_talk.specs.declared.note.End.TheVariants as end
use Rattle.mq_machine.specs.Steps.{failed, starved}
use Rattle.mq_machine.proofs.Lawful.Steps.{given_up_lawful}
use Rattle.mq_conn.specs.declared.conn.Conn.{Conn}
use Rattle.mq_conn.specs.Conns.{Stands}
use Rattle.mq_conn.proofs.Standing.{gone_all}
use Rattle.mq_conn.proofs.conn.Conn.fail.Goals as goal

pub returns-clause-link : goal.returns-clause-link
returns-clause-link c = λ s conn is.
    let P : Conn → Type 0 = λ d. Stands d (failed s) in
    let G : End → Conn = λ why. record c.args.self.now { front = None; first = None; due = []; ending = Some why } in
    record { stands = subst P (sym (c.give_up.ensures ∙ ap G is)) (gone_all c.args.self.now s end.Link refl conn.stands); lawful = given_up_lawful end.Link s conn.lawful }

pub returns-clause-memory : goal.returns-clause-memory
returns-clause-memory c = λ s conn is.
    let P : Conn → Type 0 = λ d. Stands d (starved s) in
    let G : End → Conn = λ why. record c.args.self.now { front = None; first = None; due = []; ending = Some why } in
    record { stands = subst P (sym (c.give_up.ensures ∙ ap G is)) (gone_all c.args.self.now s end.NoMemory refl conn.stands); lawful = given_up_lawful end.NoMemory s conn.lawful }
