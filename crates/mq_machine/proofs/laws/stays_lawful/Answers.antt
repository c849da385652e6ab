use Rattle.mq_machine.proofs.Lawful.Doing.{done_lawful}
use Rattle.mq_machine.proofs.Lawful.Idle.{finished_lawful, port_failed_lawful}
use Rattle.mq_machine.proofs.Lawful.Steps.{framed_lawful, given_up_lawful, new_lawful, queued_lawful, wrote_lawful}
use Rattle.mq_machine.proofs.Lawful.Taking.{took_lawful}
use Rattle.mq_machine.proofs.laws.stays_lawful.Goals as goal

pub returns : goal.returns
returns c = record {
  begins = new_lawful;
  answers = λ s d answer note h fresh is. done_lawful s answer note d h fresh is;
  frames = λ s d note h is. framed_lawful s note d h is;
  writes = wrote_lawful;
  reads = λ setup s d bytes h took. took_lawful setup s bytes d c.is_asked_once.ensures.reads c.what_is_told_is_held.ensures h took;
  finishes = finished_lawful;
  gives_up = given_up_lawful;
  queues = queued_lawful;
  port_fails = port_failed_lawful;
}
