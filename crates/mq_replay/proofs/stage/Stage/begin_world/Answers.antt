use Rattle.std.proofs.Common.{sym}
use Rattle.mq_replay.proofs.Opening.{begun}
use Rattle.mq_replay.proofs.stage.Stage.begin_world.Goals as goal

pub returns : goal.returns
returns c = record {
  opens = λ s stands. begun c.args.self.now c.in-Settings.told c.in_ok-begin.field-0 (sym c.in-Settings.ensures.value) c.in_ok-begin.ensures s stands;
  running = tt;
}
