use Rattle.std.proofs.Common.{sym, subst}
use Rattle.mq_talk.specs.declared.note.Note.{Note}
use Rattle.mq_conn.specs.Conns.{TellsPush}
use Rattle.mq_conn.specs.Wants.{is_taken}
use Rattle.mq_conn.proofs.Parcels.{pushes_none, tells_lent}
use Rattle.mq_conn.proofs.conn.Conn.pushed.Goals as goal

pub returns-in_default : goal.returns-in_default
returns-in_default c = pushes_none c.args.self.now c.take_push.new.self (is_taken c.args.pushed) c.none.result c.in_default.ensures.0

pub returns : goal.returns
returns c =
    let old = c.args.self.now in
    let mid = c.take_push.new.self in
    let p = c.in-Some.pushing in
    let took = c.in-Some.ensures in
    let live = c.in-Some-live.ensures in
    let taken = is_taken c.args.pushed in
    let P : Note → Type 0 = λ said. TellsPush old c.settle.new.self taken said in
    subst P (sym c.pushed_note-note.ensures) (tells_lent old mid c.settle.new.self p took.0 c.in-Some-live.id live.0 taken took.1 took.2 live.1 live.2 c.settle.ensures)
