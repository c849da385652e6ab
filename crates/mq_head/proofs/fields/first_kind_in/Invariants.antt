use Rattle.std.proofs.Common.{◌≡◌}
use Rattle.std.specs.Option.{option_or}
use Rattle.mq_head.specs.Lists.{parts, parts_left}
use Rattle.mq_head.specs.Fields.{first_kind}
use Rattle.mq_head.proofs.fields.first_kind_in.Given as goal

abbrev pub invariant-loop-part : goal.invariant-loop-part
invariant-loop-part l = option_or l.kind (first_kind (parts_left l.part-iterator)) ≡ first_kind (parts l.value)
