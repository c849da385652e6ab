use Rattle.std.proofs.Common.{◌≡◌}
use Rattle.std.specs.Prelude.{flat_map}
use Rattle.std.specs.Option.{option_or}
use Rattle.mq_head.specs.Lists.{members}
use Rattle.mq_head.specs.Fields.{first_kind}
use Rattle.mq_head.specs.Kept.{bytes_of}
use Rattle.mq_head.proofs.fields.first_kind.Given as goal

abbrev pub invariant-loop-value : goal.invariant-loop-value
invariant-loop-value l =
    option_or l.kind (first_kind (flat_map members (bytes_of l.value-iterator))) ≡ first_kind (flat_map members (bytes_of l.fn.values))
