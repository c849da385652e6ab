use Rattle.std.proofs.Common.{Some, refl, sym, ap, subst}
use Rattle.mq_outside.specs.Ports.{empty_port}
use Rattle.mq_machine.specs.State as machine
use Rattle.mq_machine.specs.Acting.{holding}
use Rattle.mq_mem.specs.Ports.{Port as PortOf, holds_of as port_holds}
use Rattle.mq_plain.specs.Served.{Serves}
use Rattle.mq_plain.proofs.Porting.{Keeps}
use Rattle.mq_plain.proofs.Serving.{serves_ported, serves_unported}
use Rattle.mq_plain.proofs.step.empty.Goals as goal

clears : Keeps (holding empty_port)
clears = record { tunnel = λ p. refl; limit = λ p. refl; received = λ p. refl }

pub returns-in-None-clause-serves : goal.returns-in-None-clause-serves
returns-in-None-clause-serves c = λ links seen boxes number w x.
    let same = serves_unported links seen boxes number c.args.worker.now w x c.args.tunnel (holding empty_port) clears (sym c.in-None.ensures.value) in
    subst (λ (v : machine.Worker). Serves links seen boxes number c.args.worker.now v) (sym same) x

pub returns-in-Some-clause-serves : goal.returns-in-Some-clause-serves
returns-in-Some-clause-serves c = λ links seen boxes number w x.
    serves_ported links seen boxes number c.args.worker.now w x c.args.tunnel (holding empty_port) clears c.in-Some.port.now c.clear.new.self (sym c.in-Some.ensures.value)
    (ap (λ (p : PortOf). p.most) c.clear.ensures) (λ p e. ap (λ (q : PortOf). Some (port_holds q.queue)) c.clear.ensures)
