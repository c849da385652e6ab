use Rattle.std.proofs.Common.{sym, ◌∙◌}
use Rattle.std.proofs.lemmas.Bool.{true≢false}
use Rattle.mq_target.proofs.Areas.{set_bits}
use Rattle.mq_target.proofs.values.area_of.Goals as goal

pub returns-in-Err-Bits : goal.returns-in-Err-Bits
returns-in-Err-Bits c =
    let told = rw c.in-Err-Bits.field-0-is at c.in-Err-Bits.ensures in
    set_bits c.one_prefix.ensures c.args.text.now (λ e. true≢false (sym (c.is_all.ensures.1 e) ∙ c.if-is_all.false)) told.0 told.1 told.2
