use Rattle.std.proofs.Common.{List, Ok, subst}
use Rattle.mq_addr.specs.declared.range.Range.{Range}
use Rattle.mq_conn.specs.Closing.{OpensOn}
use Rattle.mq_talk.specs.declared.book.Reply.TheVariants as reply
use Rattle.mq_conn.proofs.Hearing.{hears_err, hears_no_open, hears_opened, hears_unopened}
use Rattle.mq_conn.proofs.conn.Conn.open.Goals as goal

pub returns-in_default-clause-hears : goal.returns-in_default-clause-hears
returns-in_default-clause-hears c = hears_unopened c.args.self.now c.take_open.new.self (reply.Opened c.args.id c.args.routes) _ tt c.in_default.ensures

pub returns-in_err-note-clause-hears : goal.returns-in_err-note-clause-hears
returns-in_err-note-clause-hears c =
    let o = c.in-Some.opening in
    hears_err c.args.self.now c.put_open.new.self (reply.Opened c.args.id c.args.routes) c.from_residual.result c.from_residual.ensures.0 (λ after gives.
    hears_no_open c.args.self.now c.take_open.new.self c.put_open.new.self c.args.id o c.args.routes c.in_err-note.field-0.0 after c.in-Some.ensures c.in_err-note.ensures gives)

pub returns-clause-hears : goal.returns-clause-hears
returns-clause-hears c =
    let o = c.in-Some.opening in
    let P : List Range → Type 0 = λ routes. OpensOn c.take_open.new.self c.put_open.new.self c.args.id o routes (Ok c.in_ok-note.note) in
    hears_opened c.args.self.now c.take_open.new.self c.put_open.new.self c.settle.new.self c.args.id o c.args.routes c.in_ok-note.note c.in-Some.ensures (subst P c.as_slice.ensures c.in_ok-note.ensures) c.settle.ensures
