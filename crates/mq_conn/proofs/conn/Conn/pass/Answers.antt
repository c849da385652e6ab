use Rattle.std.proofs.Common.{◌∷◌, ap, ◌∙◌}
use Rattle.mq_machine.specs.Settle.{passing}
use Rattle.mq_conn.specs.declared.settle.Mark.{Mark}
use Rattle.mq_conn.specs.Marks.{mark_due}
use Rattle.mq_conn.proofs.Passing.{faults_one, spends_one}
use Rattle.mq_conn.proofs.conn.Conn.pass.Goals as goal

pub loop-mark-preserved-in-Spend : goal.loop-mark-preserved-in-Spend
loop-mark-preserved-in-Spend c = λ s st loose.
    let r = c.in-Some.ensures in
    let old = c.loop-mark.self in
    let is = r.2 ∙ ap (λ (m : Mark). mark_due m ∷ r.0) c.in-Spend.is in
    spends_one old c.spend.new.self (passing s.due s) c.in-Spend.stream c.in-Spend.size r.0 (c.loop-mark.invariant s st loose) r.1 is c.spend.ensures.spends

pub loop-mark-preserved : goal.loop-mark-preserved
loop-mark-preserved c = λ s st loose.
    let r = c.in-Some.ensures in
    let old = c.loop-mark.self in
    let is = r.2 ∙ ap (λ (m : Mark). mark_due m ∷ r.0) c.in-Fault.is in
    faults_one old c.fault.new.self (passing s.due s) c.in-Fault.code r.0 (c.loop-mark.invariant s st loose) r.1 is c.fault.ensures
