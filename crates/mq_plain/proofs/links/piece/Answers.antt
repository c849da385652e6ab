use Rattle.std.proofs.Common.{sym, ap, subst}
use Rattle.mq_machine.specs.State as machine
use Rattle.mq_mem.specs.Links.{Link as LinkOf}
use Rattle.mq_plain.specs.Coming.{with_piece}
use Rattle.mq_plain.specs.Served.{Serves}
use Rattle.mq_plain.proofs.Results.{ok_to, err_to}
use Rattle.mq_plain.proofs.Same.{serves_links_same}
use Rattle.mq_plain.proofs.Serving.{serves_linked, serves_unlinked}
use Rattle.mq_plain.proofs.links.piece.Goals as goal

pub returns-in-None-clause-serves : goal.returns-in-None-clause-serves
returns-in-None-clause-serves c = λ links seen boxes number w x.
    let same = serves_unlinked links seen boxes number c.args.worker.now w x c.args.conn (with_piece c.args.bytes) (sym c.in-None.ensures.value) in
    subst (λ (v : machine.Worker). Serves links seen boxes number c.args.worker.now v) (sym same) x

pub returns-in-Some-clause-serves : goal.returns-in-Some-clause-serves
returns-in-Some-clause-serves c = ok_to c.piece.result (λ is links seen boxes number w x.
    serves_linked links seen boxes number c.args.worker.now w x c.args.conn (with_piece c.args.bytes) c.in-Some.link.now c.piece.new.self (sym c.in-Some.ensures.value)
    (ap (λ (l : LinkOf). l.holds) is)) c.piece.ensures.ok

pub returns-in-Some-clause-err : goal.returns-in-Some-clause-err
returns-in-Some-clause-err c = err_to c.piece.result (λ is links seen boxes number w x.
    serves_links_same c.args.conn links seen boxes number _ w
    (serves_linked links seen boxes number c.args.worker.now w x c.args.conn (λ (l : machine.Link). l) c.in-Some.link.now c.piece.new.self (sym c.in-Some.ensures.value)
    (ap (λ (l : LinkOf). l.holds) is))) c.piece.ensures.err
