use Rattle.std.proofs.Common.{refl}
use Rattle.mq_script.specs.Generated.{generated}
use Rattle.mq_script.specs.Left.{left_of}
use Rattle.mq_script.proofs.generator.Generator.new.Goals as goal

pub returns : goal.returns
unfolding generated left_of
returns c = refl
