use Rattle.std.proofs.Common.{ℕ, List}
use Rattle.mq_addr.specs.declared.addr.Addr.{Addr}
use Rattle.mq_addr.specs.declared.range.Range.{Range}
use Rattle.mq_addr.specs.Addr.{IsAddrText}
use Rattle.mq_play.specs.Parts.{IsNumber, Means}
use Rattle.mq_play.proofs.reading.Parted.{parted_none, parted_other}
use Rattle.mq_play.proofs.reading.Singles.{addrs_lack}
use Rattle.mq_script.proofs.Parts.{means_none, parted_found}
use Rattle.mq_script.proofs.Texts.{no_addr}
use Rattle.mq_script.proofs.block_setting.parse_range_from.Goals as goal

abbrev made : Addr → Addr → ℕ → Range
made first last protocol = record { first = first; last = last; protocol = protocol }

abbrev Behind : Addr → Addr → List ℕ → Range → Type 0
Behind first last = Means (IsNumber 0 255) (made first last)

pub returns-in_default : goal.returns-in_default
returns-in_default c = parted_none IsAddrText (Behind c.args.first) c.args.text.now c.in_default.ensures

pub returns-in_default-parse_addr : goal.returns-in_default-parse_addr
returns-in_default-parse_addr c =
    parted_other IsAddrText (Behind c.args.first) c.cut_once.ensures (addrs_lack c.addr_bytes.ensures) c.args.text.now c.in-Some.last.now c.in-Some.protocol.now c.in-Some.ensures
    (no_addr c.in-Some.last.now c.in_default-parse_addr.field-0 c.in_default-parse_addr.ensures)

pub returns-in_default-number_in : goal.returns-in_default-number_in
returns-in_default-number_in c =
    parted_found IsAddrText (Behind c.args.first) c.cut_once.ensures (addrs_lack c.addr_bytes.ensures) c.one_addr.ensures c.args.text.now c.in-Some.last.now c.in-Some.protocol.now c.in-Some.ensures c.in-Ok.last c.in-Ok.ensures
    (means_none (IsNumber 0 255) (made c.args.first c.in-Ok.last) c.in-Some.protocol.now c.in_default-number_in.ensures)
