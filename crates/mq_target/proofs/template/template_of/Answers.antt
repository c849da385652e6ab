use Rattle.std.proofs.Common.{refl}
use Rattle.mq_target.specs.Classes.{is_delimiter}
use Rattle.mq_target.proofs.template.template_of.Goals as goal

pub invariant_of-result-in-Pair : goal.invariant_of-result-in-Pair
unfolding is_delimiter
invariant_of-result-in-Pair c = rw (c.in_ok-between_pair-in-Pair.ensures, c.new.ensures.items) (refl, refl)
