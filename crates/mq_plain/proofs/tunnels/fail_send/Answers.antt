use Rattle.std.proofs.Common.{sym, ap, subst}
use Rattle.mq_machine.specs.State as machine
use Rattle.mq_mem.specs.Ports.{Port as PortOf}
use Rattle.mq_plain.specs.Coming.{send_failing}
use Rattle.mq_plain.specs.Served.{Serves}
use Rattle.mq_plain.proofs.Serving.{serves_ported, serves_unported}
use Rattle.mq_plain.proofs.Arriving.{fails, failing}
use Rattle.mq_plain.proofs.tunnels.fail_send.Goals as goal

pub returns-in-None : goal.returns-in-None
returns-in-None c = λ links seen boxes number w x.
    let same = serves_unported links seen boxes number c.args.worker.now w x c.args.tunnel send_failing fails (sym c.in-None.ensures.value) in
    subst (λ (v : machine.Worker). Serves links seen boxes number c.args.worker.now v) (sym same) x

pub returns-in-Some : goal.returns-in-Some
returns-in-Some c = λ links seen boxes number w x.
    serves_ported links seen boxes number c.args.worker.now w x c.args.tunnel send_failing fails c.in-Some.port.now c.fail_next.new.self (sym c.in-Some.ensures.value)
    (ap (λ (p : PortOf). p.most) c.fail_next.ensures) (failing c.in-Some.port.now c.fail_next.new.self c.fail_next.ensures)
