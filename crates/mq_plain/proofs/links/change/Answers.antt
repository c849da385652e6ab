use Rattle.std.proofs.Common.{sym, ap, subst}
use Rattle.mq_machine.specs.State as machine
use Rattle.mq_mem.specs.Links.{Link as LinkOf}
use Rattle.mq_plain.specs.Coming.{changed}
use Rattle.mq_plain.specs.Served.{Serves}
use Rattle.mq_plain.proofs.Serving.{serves_linked, serves_unlinked}
use Rattle.mq_plain.proofs.links.change.Goals as goal

pub returns-in-None : goal.returns-in-None
returns-in-None c = λ links seen boxes number w x.
    let same = serves_unlinked links seen boxes number c.args.worker.now w x c.args.conn (changed c.args.event) (sym c.in-None.ensures.value) in
    subst (λ (v : machine.Worker). Serves links seen boxes number c.args.worker.now v) (sym same) x

pub returns-in-Some : goal.returns-in-Some
returns-in-Some c = λ links seen boxes number w x.
    serves_linked links seen boxes number c.args.worker.now w x c.args.conn (changed c.args.event) c.in-Some.link.now c.change.new.self (sym c.in-Some.ensures.value)
    (ap (λ (l : LinkOf). l.holds) c.change.ensures)
