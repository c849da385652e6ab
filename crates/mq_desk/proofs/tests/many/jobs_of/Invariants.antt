use Rattle.std.proofs.Common.{◌≡◌}
use Rattle.mq_desk.proofs.tests.many.jobs_of.Given as goal

abbrev pub invariant-loop-actor : goal.invariant-loop-actor
invariant-loop-actor g l = record {
  desk : l.pass.desk ≡ l.initial.pass.desk;
  key : l.pass.key ≡ record l.initial.pass.key { made = l.actor };
}
