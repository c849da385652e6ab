use Rattle.std.proofs.Common.{ap, sym, ◌∙◌}
use Rattle.mq_talk.specs.declared.book.Reply.TheVariants as reply
use Rattle.mq_conn.specs.declared.conn.Conn.{Conn}
use Rattle.mq_conn.proofs.Hearing.{hears_err, hears_full, hears_nothing, hears_unopened, leaves_both, leaves_taken}
use Rattle.mq_conn.proofs.conn.Conn.full.Goals as goal

pub returns-in_default-clause-hears : goal.returns-in_default-clause-hears
returns-in_default-clause-hears c = λ entries live. hears_unopened c.args.self.now c.take_open.new.self (reply.HistoryFull entries live) _ tt c.in_default.ensures

pub returns-in_err-note-clause-hears : goal.returns-in_err-note-clause-hears
returns-in_err-note-clause-hears c = λ entries live.
    let old = c.args.self.now in
    let mid = c.take_open.new.self in
    let takes = c.in-Some.ensures in
    let none = ap (λ (k : Conn). k.first) takes.1 in
    let first_is = ap (λ (k : Conn). record old { first = k.first; due = mid.due }) (sym takes.1) in
    hears_err old c.refuse.new.self (reply.HistoryFull entries live) c.from_residual.result c.from_residual.ensures.0 (λ after gives.
    hears_nothing old c.refuse.new.self after (reply.HistoryFull entries live) tt (leaves_both old mid c.refuse.new.self (leaves_taken old mid (takes.1 ∙ first_is)) (c.in_err-note.ensures none)) gives)

pub returns-clause-hears : goal.returns-clause-hears
returns-clause-hears c = λ entries live.
    let takes = c.in-Some.ensures in
    let none = ap (λ (k : Conn). k.first) takes.1 in
    hears_full c.args.self.now c.take_open.new.self c.refuse.new.self c.settle.new.self c.in-Some.opening entries live c.in_ok-note.note takes (c.in_ok-note.ensures none) c.settle.ensures
