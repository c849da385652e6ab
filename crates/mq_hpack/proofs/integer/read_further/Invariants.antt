use Rattle.std.proofs.Common.{◌≡◌, ◌+◌, ◌-◌, ◌^◌, ◌≤◌}
use Rattle.mq_hpack.specs.Integer.{further}
use Rattle.mq_hpack.proofs.integer.read_further.Given as goal

abbrev pub invariant-loop : goal.invariant-loop
invariant-loop l = record {
  read : further 5 1 l.full l.bytes ≡ further (5 - l.counter) l.worth l.number l.rest;
  within : l.number ≤ 254 + l.worth;
  worth : l.worth ≡ 128 ^ l.counter;
}
