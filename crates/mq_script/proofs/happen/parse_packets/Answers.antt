use Rattle.std.proofs.Common.{ℕ, List, Ok, Err, arith}
use Rattle.std.proofs.lemmas.Result.{err_from_is_err_and}
use Rattle.mq_machine.specs.declared.event.Event.TheVariants as event
use Rattle.mq_play.specs.declared.line.Line.{Line}
use Rattle.mq_play.specs.declared.line.Line.TheVariants as line
use Rattle.mq_play.specs.Lines.{IsPacket}
use Rattle.mq_play.specs.Parts.{IsNumber, Means}
use Rattle.mq_play.proofs.reading.Parted.{IsLacking, IsSingle, number_lacks, number_once, parted_none, parted_other}
use Rattle.mq_script.proofs.Parts.{means_fault, means_read, parted_read}
use Rattle.mq_script.proofs.happen.parse_packets.Goals as goal

abbrev Count : List ℕ → ℕ → Type 0
Count = IsNumber 1 1024

abbrev made : ℕ → List ℕ → Line
made count bytes = line.Happens (event.Packet count bytes)

abbrev Behind : ℕ → List ℕ → Line → Type 0
Behind count = Means IsPacket (made count)

counts_lack : IsLacking Count
counts_lack = number_lacks 1 1024 (omega arith)

count_once : IsSingle Count
count_once = number_once 1 1024 (omega arith)

pub returns-in_default : goal.returns-in_default
returns-in_default c = parted_none Count Behind c.args.rest.now c.in_default.ensures

pub returns-in_default-number_in : goal.returns-in_default-number_in
returns-in_default-number_in c = parted_other Count Behind c.cut_once.ensures counts_lack c.args.rest.now c.in-Some.count.now c.in-Some.digits.now c.in-Some.ensures c.in_default-number_in.ensures

pub returns-in_err-bytes : goal.returns-in_err-bytes
returns-in_err-bytes c =
    let p = err_from_is_err_and c.from_residual.result c.from_residual.ensures.1 in
    rw (p.1, p.2) (parted_read Count Behind c.cut_once.ensures counts_lack count_once c.args.rest.now c.in-Some.count.now c.in-Some.digits.now c.in-Some.ensures
    c.in-Some-number_in.count c.in-Some-number_in.ensures (Err c.in_err-bytes.field-0.0)
    (means_fault IsPacket (made c.in-Some-number_in.count) c.in-Some.digits.now c.in_err-bytes.field-0.0 c.in_err-bytes.ensures))

pub returns : goal.returns
returns c =
    parted_read Count Behind c.cut_once.ensures counts_lack count_once c.args.rest.now c.in-Some.count.now c.in-Some.digits.now c.in-Some.ensures
    c.in-Some-number_in.count c.in-Some-number_in.ensures (Ok (made c.in-Some-number_in.count c.in_ok-bytes.bytes))
    (means_read IsPacket (made c.in-Some-number_in.count) c.in-Some.digits.now c.in_ok-bytes.bytes c.in_ok-bytes.ensures)
