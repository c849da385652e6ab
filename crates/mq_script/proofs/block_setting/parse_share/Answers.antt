use Rattle.mq_script.proofs.Texts.{no_prefix, no_share}
use Rattle.mq_script.proofs.block_setting.parse_share.Goals as goal

pub returns-in_default : goal.returns-in_default
returns-in_default c = λ block h. no_prefix c.one_prefix.ensures c.args.text.now c.in_default.field-0 c.in_default.ensures block h.0

pub returns-else-has_no_zero : goal.returns-else-has_no_zero
returns-else-has_no_zero c =
    no_share c.one_prefix.ensures c.args.text.now c.in-Ok.block c.in-Ok.ensures
    (λ h. let no = c.if-has_no_zero.false in let yes = c.has_no_zero.ensures.1 h in cc (no, yes))
