use Rattle.std.proofs.Common.{Some, sym, ap, subst, ◌∙◌}
use Rattle.mq_machine.specs.State as machine
use Rattle.mq_mem.specs.Ports.{Port as PortOf, holds_of as port_holds}
use Rattle.mq_plain.specs.Coming.{with_datagram}
use Rattle.mq_plain.specs.Served.{Serves}
use Rattle.mq_plain.proofs.Serving.{serves_ported, serves_unported}
use Rattle.mq_plain.proofs.Arriving.{arrived, arrives, keeps_all}
use Rattle.mq_plain.proofs.Results.{ok_to, err_to}
use Rattle.mq_plain.proofs.Same.{serves_ports_same}
use Rattle.mq_plain.proofs.tunnels.arrive.Goals as goal

pub returns-in-None-clause-serves : goal.returns-in-None-clause-serves
returns-in-None-clause-serves c = λ links seen boxes number w x.
    let change = with_datagram c.args.datagram in
    let same = serves_unported links seen boxes number c.args.worker.now w x c.args.tunnel change (arrives c.args.datagram) (sym c.in-None.ensures.value) in
    subst (λ (v : machine.Worker). Serves links seen boxes number c.args.worker.now v) (sym same) x

pub returns-in-Some-clause-serves : goal.returns-in-Some-clause-serves
returns-in-Some-clause-serves c = ok_to c.arrive.result (λ is links seen boxes number w x.
    serves_ported links seen boxes number c.args.worker.now w x c.args.tunnel (with_datagram c.args.datagram) (arrives c.args.datagram) c.in-Some.port.now c.arrive.new.self (sym c.in-Some.ensures.value)
    (ap (λ (p : PortOf). p.most) is) (arrived c.in-Some.port.now c.arrive.new.self c.args.datagram is)) c.arrive.ensures.ok

pub returns-in-Some-clause-err : goal.returns-in-Some-clause-err
returns-in-Some-clause-err c = err_to c.arrive.result (λ is links seen boxes number w x.
    serves_ports_same c.args.tunnel links seen boxes number _ w
    (serves_ported links seen boxes number c.args.worker.now w x c.args.tunnel (λ (p : machine.Port). p) keeps_all c.in-Some.port.now c.arrive.new.self (sym c.in-Some.ensures.value)
    (ap (λ (p : PortOf). p.most) is) (λ p told. ap (λ (q : PortOf). Some (port_holds q.queue)) is ∙ told))) c.arrive.ensures.err
