use Rattle.mq_play.specs.Settings.{IsBlock, SaysRule}
use Rattle.mq_play.proofs.reading.Parted.{parted_none, parted_other}
use Rattle.mq_play.proofs.reading.Singles.{block_once, blocks_lack}
use Rattle.mq_script.proofs.Parts.{parted_read}
use Rattle.mq_script.proofs.rule_setting.parse_rule_of.Goals as goal

pub returns-in_default : goal.returns-in_default
returns-in_default c = parted_none IsBlock (SaysRule c.args.allow c.args.kind) c.args.rest.now c.in_default.ensures

pub returns-in_default-parse_block : goal.returns-in_default-parse_block
returns-in_default-parse_block c =
    parted_other IsBlock (SaysRule c.args.allow c.args.kind) c.cut_once.ensures (blocks_lack c.addr_bytes.ensures) c.args.rest.now c.in-Some.text.now c.in-Some.behind.now c.in-Some.ensures c.in_default-parse_block.ensures

pub returns : goal.returns
returns c =
    parted_read IsBlock (SaysRule c.args.allow c.args.kind) c.cut_once.ensures (blocks_lack c.addr_bytes.ensures) (block_once c.addr_bytes.ensures c.one_prefix.ensures)
    c.args.rest.now c.in-Some.text.now c.in-Some.behind.now c.in-Some.ensures c.in-Some-parse_block.block c.in-Some-parse_block.ensures c.parse_scope.result c.parse_scope.ensures
