use Rattle.mq_addr.specs.Addr.{IsAddrText}
use Rattle.mq_play.proofs.reading.Parted.{parted_none, parted_other}
use Rattle.mq_play.proofs.reading.Singles.{LastText, addrs_lack}
use Rattle.mq_script.proofs.Parts.{parted_found}
use Rattle.mq_script.proofs.Texts.{no_addr, no_range}
use Rattle.mq_script.proofs.block_setting.parse_range.Goals as goal

pub returns-in_default : goal.returns-in_default
returns-in_default c = λ range h. parted_none IsAddrText LastText c.args.text.now c.in_default.ensures range h.0

pub returns-in_default-parse_addr : goal.returns-in_default-parse_addr
returns-in_default-parse_addr c = λ range h.
    parted_other IsAddrText LastText c.cut_once.ensures (addrs_lack c.addr_bytes.ensures) c.args.text.now c.in-Some.first.now c.in-Some.behind.now c.in-Some.ensures
    (no_addr c.in-Some.first.now c.in_default-parse_addr.field-0 c.in_default-parse_addr.ensures) range h.0

pub returns-in_default-parse_range_from : goal.returns-in_default-parse_range_from
returns-in_default-parse_range_from c = λ range h.
    parted_found IsAddrText LastText c.cut_once.ensures (addrs_lack c.addr_bytes.ensures) c.one_addr.ensures c.args.text.now c.in-Some.first.now c.in-Some.behind.now c.in-Some.ensures c.in-Ok.first c.in-Ok.ensures
    c.in_default-parse_range_from.ensures range h.0

pub returns-else-is_range : goal.returns-else-is_range
returns-else-is_range c =
    no_range c.cut_once.ensures c.addr_bytes.ensures c.one_addr.ensures c.args.text.now c.in-Some-parse_range_from.range
    (record { part = c.in-Some.first.now; first = c.in-Ok.first; rest = c.in-Some.behind.now; is = c.in-Some.ensures.is; says = c.in-Ok.ensures; behind = c.in-Some-parse_range_from.ensures })
    (λ h. let no = c.if-is_range.false in let yes = c.is_range.ensures.1 h in cc (no, yes))
