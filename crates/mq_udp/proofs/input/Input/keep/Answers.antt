use Rattle.std.proofs.Common.{◌≡◌, ◌++◌, arith, refl}
use Rattle.std.proofs.lemmas.Grind.{common_steps}
use Rattle.mq_udp.proofs.Cutting.{kept, too_long}
use Rattle.mq_udp.proofs.input.Input.keep.Goals as goal

pub returns-then-saturating_add-gt-MOST_LINE : goal.returns-then-saturating_add-gt-MOST_LINE
returns-then-saturating_add-gt-MOST_LINE c = λ text plain r. too_long c.args.self.now text c.args.bytes.now r plain (omega arith)

pub returns : goal.returns
returns c = λ text plain r.
    let begun : c.extend_from_slice.new.self.items ≡ c.args.self.now.begun.items ++ c.args.bytes.now = grind (arith, common_steps) in
    kept c.args.self.now _ text c.args.bytes.now r plain begun refl (omega arith)
