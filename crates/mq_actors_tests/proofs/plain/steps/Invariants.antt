use Rattle.std.proofs.Common.{◌≡◌, ◌+◌}
use Rattle.mq_machine.specs.State as machine
use Rattle.mq_machine.specs.Acting.{Outside, Known}
use Rattle.mq_talk.specs.Offices.{IsSound}
use Rattle.mq_mem.specs.Offices.{seen_of}
use Rattle.mq_actor.specs.Holds.{IsWorker}
use Rattle.mq_actor.specs.Steps.{sight}
use Rattle.mq_plain.specs.Served.{words}
use Rattle.mq_actors_tests.proofs.plain.steps.Given as goal

abbrev pub invariant-loop : goal.invariant-loop
invariant-loop g l = record {
  known : (o : Outside) × (w : machine.Worker) × IsWorker words.most l.worker.table.table l.worker.ring w × Known (sight o (seen_of l.office.office) (g.M.Mail.boxes l.mail)) w;
  sound : IsSound (seen_of l.office.office);
  office : l.office.office.actor ≡ l.worker.ring.id;
  mail : g.M.Mail.actor l.mail ≡ l.worker.ring.id;
  inboxes : g.M.Mail.count l.mail ≡ l.worker.ring.setup.pump + 1;
}
