use Rattle.std.proofs.Common.{ℕ, arith}
use Rattle.mq_policy.specs.declared.rule.Rule.TheVariants as rule
use Rattle.mq_play.specs.declared.line.SettingLine.{SettingLine}
use Rattle.mq_play.specs.declared.line.SettingLine.TheVariants as told
use Rattle.mq_play.specs.Parts.{IsNumber, Means}
use Rattle.mq_play.proofs.reading.Parted.{number_lacks, number_once, parted_none, parted_other}
use Rattle.mq_script.proofs.Parts.{means_none, parted_found}
use Rattle.mq_script.proofs.rule_setting.parse_ports.Goals as goal

pub returns-in_default : goal.returns-in_default
returns-in_default c = parted_none (IsNumber 1 65535) _ c.args.text.now c.in_default.ensures

pub returns-in_default-number_in : goal.returns-in_default-number_in
returns-in_default-number_in c =
    parted_other (IsNumber 1 65535) _ c.cut_once.ensures (number_lacks 1 65535 (omega arith)) c.args.text.now c.in-Some.first.now c.in-Some.last.now c.in-Some.ensures c.in_default-number_in.ensures

pub returns-in_default-number_in-2 : goal.returns-in_default-number_in-2
returns-in_default-number_in-2 c =
    let low = c.in-Some-number_in.low in
    let made : ℕ → SettingLine = λ high. told.Rule (rule.Udp c.args.allow c.args.block low high) in
    parted_found (IsNumber 1 65535) (λ first. Means (IsNumber first 65535) (λ (high : ℕ). told.Rule (rule.Udp c.args.allow c.args.block first high))) c.cut_once.ensures (number_lacks 1 65535 (omega arith)) (number_once 1 65535 (omega arith))
    c.args.text.now c.in-Some.first.now c.in-Some.last.now c.in-Some.ensures low c.in-Some-number_in.ensures (means_none (IsNumber low 65535) made c.in-Some.last.now c.in_default-number_in-2.ensures)
