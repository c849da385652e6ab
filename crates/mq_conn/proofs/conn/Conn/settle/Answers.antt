use Rattle.mq_machine.specs.Settle.{passing}
use Rattle.mq_machine.specs.State.{owed}
use Rattle.mq_conn.proofs.Standing.{reads, updated}
use Rattle.mq_conn.proofs.conn.Conn.settle.Goals as goal

pub returns-in-Some : goal.returns-in-Some
returns-in-Some c = λ s st loose.
    let mid = c.pass.new.self in
    let x = passing s.due s in
    let stx = c.pass.ensures s st loose in
    updated mid x c.in-Some.front c.update.new.self c.in-Some.is (c.update.ensures x.front x.streams (owed x) (reads mid x c.in-Some.front c.in-Some.is stx)) stx
