use Rattle.std.proofs.Common.{ℕ, sym, ap}
use Rattle.mq_talk.specs.declared.note.Note.TheVariants as note
use Rattle.mq_machine.specs.Done.{refusal, without}
use Rattle.mq_machine.specs.Putting.{putting}
use Rattle.mq_machine.specs.State.{owed}
use Rattle.mq_conn.proofs.Standing.{number_is, reads, refuses_put}
use Rattle.mq_conn.proofs.conn.Conn.refuse.Goals as goal

pub returns : goal.returns
returns c = λ none s st over.
    let old = c.args.self.now in
    let id = c.args.stream in
    let status = c.args.status in
    let f = c.in-Some.front in
    let read = reads old s f c.in-Some.is st in
    let mid = refuses_put old s id status f c.refuse.new.self c.refusal_end-end.result over (c.refusal_end-end.ensures s.front s.streams (owed s) read id status)
    (c.in_ok-refuse.ensures s.front s.streams (owed s) read) st in
    let x = putting s (refusal s.front id status) in
    let t = c.forget.ensures x none mid in
    (ap (λ (n : ℕ). note.Refused n id status c.args.rule) (sym (number_is c.forget.new.self (without id x) t)), t)
