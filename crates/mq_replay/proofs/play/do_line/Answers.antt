use Rattle.std.proofs.Common.{Err, refl, ap, inl}
use Rattle.mq_script.specs.declared.fault.LineFault.{LineFault}
use Rattle.mq_replay.proofs.Playing.{line_left}
use Rattle.mq_replay.proofs.play.do_line.Goals as goal

pub returns-in-Ok-clause-does : goal.returns-in-Ok-clause-does
returns-in-Ok-clause-does c = λ s stands.
    line_left s c.args.text.now c.in-Ok.said c.args.stage.now c.do_said.new.stage c.do_said.result c.requires c.in-Ok.ensures.ok (c.do_said.ensures.does s stands)

pub returns-in-Err-Syntax-clause-does : goal.returns-in-Err-Syntax-clause-does
returns-in-Err-Syntax-clause-does c = λ s stands. (inl (c.in-Err-Syntax.ensures.syntax (ap (λ (e : LineFault). Err e) c.in-Err-Syntax.field-0-is)), refl)

pub returns-in-Err-NoMemory-clause-does : goal.returns-in-Err-NoMemory-clause-does
returns-in-Err-NoMemory-clause-does c = λ s stands. inl refl
