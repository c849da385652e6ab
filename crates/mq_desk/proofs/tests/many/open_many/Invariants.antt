use Rattle.std.proofs.Common.{◌≡◌}
use Rattle.mq_desk.proofs.tests.many.open_many.Given as goal

abbrev pub invariant-loop : goal.invariant-loop
invariant-loop g l = record {
  desk : l.pass.desk ≡ l.initial.pass.desk;
  key : l.pass.key ≡ record l.initial.pass.key { seen = l.pass.key.seen };
}
