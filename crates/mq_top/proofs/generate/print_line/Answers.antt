use Rattle.std.proofs.Common.{◌≡◌, ◌++◌, ◌∷◌, [], refl, ◌∙◌}
use Rattle.std.proofs.lemmas.Result.{err_from_is_err_and}
use Rattle.mq_play.specs.Text.{newline}
use Rattle.mq_top.proofs.Generating.{line_given, none_shown, line_begun, line_owed, line_spilled}
use Rattle.mq_output.proofs.Shown.{prints_said, prints_shown, prints_unsaid}
use Rattle.mq_top.proofs.generate.print_line.Goals as goal

pub returns-in_err-next_line-clause-prints : goal.returns-in_err-next_line-clause-prints
returns-in_err-next_line-clause-prints g c =
    let p = err_from_is_err_and c.from_residual.result c.from_residual.ensures.1 in (
      [],
      prints_unsaid _ _ _ refl c.in_err-next_line.ensures.1,
      rw (p.1, p.2) (none_shown c.args.generator.now),
    )

pub returns-then-is_err-clause-prints : goal.returns-then-is_err-clause-prints
returns-then-is_err-clause-prints g c =
    let line = line_given c.args.generator.now c.next_line.new.self c.args.output.now.owed.now.items c.next_line.new.out.items c.in_ok-next_line.field-0 c.if-not-branch.false c.in_ok-next_line.ensures in
    let same : c.push.new.self.items ≡ c.next_line.new.out.items = rw c.if-is_err.ensures.negation at c.push.ensures.items in (
      line.0,
      prints_said _ _ _ line.0 refl (same ∙ line.2),
      line_begun c.args.generator.now c.next_line.new.self line.0 line.1,
    )

pub returns-in_err-spill-clause-prints : goal.returns-in_err-spill-clause-prints
returns-in_err-spill-clause-prints g c =
    let line = line_given c.args.generator.now c.next_line.new.self c.args.output.now.owed.now.items c.next_line.new.out.items c.in_ok-next_line.field-0 c.if-not-branch.false c.in_ok-next_line.ensures in
    let ended : c.push.new.self.items ≡ c.next_line.new.out.items ++ newline ∷ [] = rw c.if-is_err.ensures.negation at c.push.ensures.items in
    let owed = line_owed c.args.output.now.owed.now.items c.next_line.new.out.items c.push.new.self.items line.0 line.2 ended in
    let p = err_from_is_err_and c.from_residual-in_err-spill.result c.from_residual-in_err-spill.ensures.1 in (
      line.0 ++ newline ∷ [],
      prints_shown _ _ _ _ (line.0 ++ newline ∷ []) c.in_err-spill.ensures.prints refl owed,
      rw (p.1, p.2) (line_spilled c.args.generator.now c.next_line.new.self c.next_line.new.self line.0 c.in_err-spill.field-0.0 c.in_err-spill.ensures.fault line.1),
    )

pub returns-clause-prints : goal.returns-clause-prints
returns-clause-prints g c =
    let line = line_given c.args.generator.now c.next_line.new.self c.args.output.now.owed.now.items c.next_line.new.out.items c.in_ok-next_line.field-0 c.if-not-branch.false c.in_ok-next_line.ensures in
    let ended : c.push.new.self.items ≡ c.next_line.new.out.items ++ newline ∷ [] = rw c.if-is_err.ensures.negation at c.push.ensures.items in
    let owed = line_owed c.args.output.now.owed.now.items c.next_line.new.out.items c.push.new.self.items line.0 line.2 ended in (
      line.0 ++ newline ∷ [],
      prints_shown _ _ _ _ (line.0 ++ newline ∷ []) c.in_ok-spill.ensures.prints refl owed,
      (line.0, line.1, refl),
    )
