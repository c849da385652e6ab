use Rattle.mq_machine.specs.State.{new_link}
use Rattle.mq_plain.proofs.Offering.{serves_offered, serves_still}
use Rattle.mq_plain.proofs.Results.{ok_then, ok_never, err_then, err_never}
use Rattle.mq_plain.proofs.offered.offer.Goals.{in-Ok, in-Err}
use Rattle.mq_plain.proofs.offered.offer.Goals as goal

pub returns-clause-serves : goal.returns-clause-serves
returns-clause-serves c = elim c.match-offer.branch [
  | in-Ok w ↦ ok_then c.match-offer.result _ w.result-is (λ links seen boxes actor v next x.
      serves_offered links seen boxes actor c.args.number c.args.worker.now c.offer.new.self v c.in_ok-link.link next x w.in-Ok.ensures.rest w.in-Ok.ensures.last c.in_ok-link.ensures.holds
      (w.in-Ok.ensures.offered v new_link x.stands))
  | in-Err w ↦ ok_never _ c.match-offer.result _ w.result-is
]

pub returns-clause-err : goal.returns-clause-err
returns-clause-err c = elim c.match-offer.branch [
  | in-Ok w ↦ err_never _ c.match-offer.result _ w.result-is
  | in-Err w ↦ err_then c.match-offer.result _ w.result-is (λ links seen boxes actor v x.
      serves_still links seen boxes actor c.args.worker.now c.offer.new.self v x w.in-Err.ensures.rest w.in-Err.ensures.refused.1)
]
