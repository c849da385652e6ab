use Rattle.std.proofs.Common.{◌≡◌}
use Rattle.mq_talk.specs.Answers.{IsMine}
use Rattle.mq_desk.proofs.tests.many.judge_many.Given as goal

abbrev pub invariant-loop : goal.invariant-loop
invariant-loop g l = record {
  mine : IsMine l.pass.key.seen l.actor l.tunnel;
  desk : l.pass.desk ≡ l.initial.pass.desk;
  key : l.pass.key ≡ record l.initial.pass.key { seen = l.pass.key.seen };
}
