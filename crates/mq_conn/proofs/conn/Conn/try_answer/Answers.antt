use Rattle.std.proofs.Common.{sym, subst}
use Rattle.mq_talk.specs.declared.book.Reply.{Reply}
use Rattle.mq_conn.specs.Conns.{Hears}
use Rattle.mq_conn.proofs.conn.Conn.try_answer.Goals as goal

pub returns-in-Opened-clause-hears : goal.returns-in-Opened-clause-hears
returns-in-Opened-clause-hears c =
    let P : Reply → Type 0 = λ r. Hears c.args.self.now c.open.new.self r c.open.result in
    subst P (sym c.in-Opened.is) c.open.ensures.hears

pub returns-in-HistoryFull-clause-hears : goal.returns-in-HistoryFull-clause-hears
returns-in-HistoryFull-clause-hears c =
    let P : Reply → Type 0 = λ r. Hears c.args.self.now c.full.new.self r c.full.result in
    subst P (sym c.in-HistoryFull.is) (c.full.ensures.hears c.in-HistoryFull.entries c.in-HistoryFull.live)

pub returns-in-Assigned-clause-hears : goal.returns-in-Assigned-clause-hears
returns-in-Assigned-clause-hears c =
    let P : Reply → Type 0 = λ r. Hears c.args.self.now c.assigned.new.self r c.assigned.result in
    subst P (sym c.in-Assigned.is) c.assigned.ensures.hears

pub returns-in-Accepted-clause-hears : goal.returns-in-Accepted-clause-hears
returns-in-Accepted-clause-hears c =
    let P : Reply → Type 0 = λ r. Hears c.args.self.now c.accepted.new.self r c.accepted.result in
    subst P (sym c.in-Accepted.is) c.accepted.ensures.hears
