use Rattle.std.proofs.Common.{Option, [], refl, sym, ap}
use Rattle.mq_capsule.specs.Items.{head_items, up_to_bad}
use Rattle.mq_capsule.specs.declared.head.Head.{Head}
use Rattle.mq_capsule.proofs.Plans.{nothing, head_nothing}
use Rattle.mq_capsule.proofs.laws.says_nothing.Goals as goal

pub returns : goal.returns
returns c = (
  (nothing, refl),
  λ control. record {
    capsules = [];
    rest = [];
    are = (nothing, refl);
    items_are = sym (ap (λ (head : Option Head). up_to_bad (head_items control head)) head_nothing);
  },
)
