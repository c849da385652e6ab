use Rattle.std.proofs.Common.{[], refl, sym, ap}
use Rattle.mq_capsule.specs.Items.{head_items}
use Rattle.mq_capsule.proofs.Plans.{nothing, head_nothing}
use Rattle.mq_capsule.proofs.Steps.{front_nothing}
use Rattle.mq_capsule.proofs.reader.Reader.new.Goals as goal

pub returns : goal.returns
returns c = (
  [],
  record {
    control_is = refl;
    at = record {
      capsules = [];
      rest = [];
      are = (nothing, refl);
      items_are = refl;
      none_bad = refl;
      no_fault_yet = ap (head_items c.args.control) head_nothing;
      holds = (sym c.new.ensures, front_nothing c.args.control);
    };
  },
)
