use Rattle.std.proofs.Common.{arith}
use Rattle.std.proofs.lemmas.Grind.{common_steps}
use Rattle.std.proofs.lemmas.List.{flat_map_more}
use Rattle.mq_target.specs.Expansion.{escaped}
use Rattle.mq_target.proofs.escape.escape_onto.Goals as goal

pub loop-byte-init : goal.loop-byte-init
unfolding escaped
loop-byte-init c = grind (arith, common_steps)

pub loop-byte-preserved : goal.loop-byte-preserved
unfolding escaped
loop-byte-preserved c = grind (arith, common_steps, flat_map_more)
