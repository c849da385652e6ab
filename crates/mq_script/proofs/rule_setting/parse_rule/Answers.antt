use Rattle.mq_play.specs.Parts.{Parted}
use Rattle.mq_play.specs.Settings.{IsBlock, IsKind, SaysRule}
use Rattle.mq_play.proofs.reading.Parted.{parted_none, parted_other}
use Rattle.mq_play.proofs.reading.Words.{kind_once, kinds_lack}
use Rattle.mq_script.proofs.Parts.{parted_read}
use Rattle.mq_script.proofs.rule_setting.parse_rule.Goals as goal

pub returns-in_default : goal.returns-in_default
returns-in_default c = parted_none IsKind (λ kind. Parted IsBlock (SaysRule c.args.allow kind)) c.args.rest.now c.in_default.ensures

pub returns-in_default-parse_kind : goal.returns-in_default-parse_kind
returns-in_default-parse_kind c =
    parted_other IsKind (λ kind. Parted IsBlock (SaysRule c.args.allow kind)) c.cut_once.ensures kinds_lack c.args.rest.now c.in-Some.text.now c.in-Some.behind.now c.in-Some.ensures c.in_default-parse_kind.ensures

pub returns : goal.returns
returns c =
    parted_read IsKind (λ kind. Parted IsBlock (SaysRule c.args.allow kind)) c.cut_once.ensures kinds_lack kind_once
    c.args.rest.now c.in-Some.text.now c.in-Some.behind.now c.in-Some.ensures c.in-Some-parse_kind.kind c.in-Some-parse_kind.ensures c.parse_rule_of.result c.parse_rule_of.ensures
