use Rattle.std.proofs.Common.{arith}
use Rattle.mq_streams.proofs.Consumption.{within_all, within_one}
use Rattle.mq_streams.proofs.Events.{counted_here}
use Rattle.mq_streams.proofs.streams.consumed_within_what_came.Goals as goal

pub returns : goal.returns
returns c = record {
  within = λ streams id h is. within_one h is.came_first id;
  at_once = λ streams id size h is. counted_here h id size (within_one h is.came_first id);
  all = λ h came. let all = within_all h came 0 0 (let one = within_one h came 0 in omega arith) in (omega arith, within_one h came);
}
