use Rattle.std.proofs.Common.{◌≡◌, ◌++◌, ◌∷◌, [], OnOk, Result, Ok, Err}
use Rattle.mq_machine.specs.State as machine
use Rattle.mq_machine.specs.State.{with_offer}
use Rattle.mq_actor.specs.Holds.{IsWorker}
use Rattle.mq_actor.proofs.Offering.{offered_stands}
use Rattle.mq_actor.proofs.actor.Actor.offer.Goals as goal

pub returns-clause-offered : goal.returns-clause-offered
returns-clause-offered g c = by_result c.offer.result c.offer.ensures.offered where
  by_result : (r : Result (Unit {0}) g.row.L.Denot)
      → OnOk r (c.offer.new.self.offered.items ≡ c.args.self.now.ring.offered.items ++ record { number = c.args.number; link = c.args.link } ∷ [])
      → OnOk r ((w : machine.Worker) (held : machine.Link) → IsWorker g.P.P.Port.most c.args.self.now.table.table c.args.self.now.ring w
      → IsWorker g.P.P.Port.most c.args.self.now.table.table c.offer.new.self (with_offer c.args.number held w))
  by_result (Ok done) more = λ w held is.
      offered_stands g.P.P.Port.most c.args.self.now.table.table c.args.self.now.ring c.offer.new.self c.args.number c.args.link w held c.requires more c.offer.ensures.rest is
  by_result (Err back) more = tt
