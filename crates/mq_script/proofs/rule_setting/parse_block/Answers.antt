use Rattle.mq_script.proofs.Texts.{no_block}
use Rattle.mq_script.proofs.rule_setting.parse_block.Goals as goal

pub returns-in-Err : goal.returns-in-Err
returns-in-Err c =
    let no = c.if-is_all.false in
    no_block c.one_prefix.ensures c.args.text.now c.in-Err.field-0 (λ e. let yes = c.is_all.ensures.1 e in cc (no, yes)) c.in-Err.ensures
