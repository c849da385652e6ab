use Rattle.std.proofs.Common.{length}
use Rattle.mq_hpack.proofs.Blocks.{Leads}
use Rattle.mq_hpack.proofs.decoder.read_block.Given as goal

abbrev pub invariant-loop-rest : goal.invariant-loop-rest
invariant-loop-rest l = Leads l.initial.table l.bytes l.fields.items l.table l.total l.rest

abbrev pub decreases-loop-rest : goal.decreases-loop-rest
decreases-loop-rest l = length l.rest
