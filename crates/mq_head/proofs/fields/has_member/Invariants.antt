use Rattle.std.proofs.Common.{◌≡◌}
use Rattle.std.specs.Prelude.{flat_map}
use Rattle.mq_head.specs.Lists.{members, has_member}
use Rattle.mq_head.specs.Kept.{bytes_of}
use Rattle.mq_head.proofs.fields.has_member.Given as goal

abbrev pub invariant-loop-value : goal.invariant-loop-value
invariant-loop-value l =
    has_member l.token (flat_map members (bytes_of l.value-iterator))
    ≡ has_member l.token (flat_map members (bytes_of l.fn.values))
