use Rattle.std.proofs.Common.{◌≡◌}
use Rattle.mq_head.specs.Lists.{parts, parts_left, has_member}
use Rattle.mq_head.proofs.fields.has_member_in.Given as goal

abbrev pub invariant-loop-part : goal.invariant-loop-part
invariant-loop-part l = has_member l.token (parts_left l.part-iterator) ≡ has_member l.token (parts l.value)
