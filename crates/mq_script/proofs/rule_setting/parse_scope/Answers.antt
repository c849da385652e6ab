use Rattle.std.proofs.Common.{ℕ, Option, codes}
use Rattle.mq_policy.specs.declared.rule.Rule.TheVariants as rule
use Rattle.mq_play.specs.declared.line.SettingLine.{SettingLine}
use Rattle.mq_play.specs.declared.line.SettingLine.TheVariants as told
use Rattle.mq_play.specs.Parts.{IsNumberOr}
use Rattle.mq_script.proofs.Parts.{means_none, means_read}
use Rattle.mq_script.proofs.rule_setting.parse_scope.Goals as goal

pub returns-in-Udp : goal.returns-in-Udp
returns-in-Udp c = let kind = c.in-Udp.is in rw kind c.parse_ports.ensures

pub returns-in-Some : goal.returns-in-Some
returns-in-Some c =
    let kind = c.in-Ip.is in
    let made : Option ℕ → SettingLine = λ protocol. told.Rule (rule.Ip c.args.allow c.args.block protocol) in
    rw kind (means_read (IsNumberOr (codes "*") 255) made c.args.text.now c.in-Some.protocol c.in-Some.ensures)

pub returns-in-None : goal.returns-in-None
returns-in-None c =
    let kind = c.in-Ip.is in
    let made : Option ℕ → SettingLine = λ protocol. told.Rule (rule.Ip c.args.allow c.args.block protocol) in
    rw kind (means_none (IsNumberOr (codes "*") 255) made c.args.text.now c.in-None.ensures)
