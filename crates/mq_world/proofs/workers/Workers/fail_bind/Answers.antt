use Rattle.std.proofs.Common.{true, ap}
use Rattle.mq_machine.specs.State.{Shared}
use Rattle.mq_world.proofs.workers.Workers.fail_bind.Goals as goal

pub returns : goal.returns
returns c = λ s is. record {
  links = is.links;
  workers = is.workers;
  shared = ap (λ (sh : Shared). record sh { orders = record { bind = true } }) is.shared;
  count = is.count;
  few = is.few;
  boxes = is.boxes;
  config = is.config;
  pump = is.pump;
  offered = is.offered;
  rests = is.rests;
}
