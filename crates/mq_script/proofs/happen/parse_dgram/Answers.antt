use Rattle.std.proofs.Common.{ℕ, List, Ok, Err}
use Rattle.std.proofs.lemmas.Result.{err_from_is_err_and}
use Rattle.mq_machine.specs.declared.event.Event.TheVariants as event
use Rattle.mq_play.specs.declared.line.Line.{Line}
use Rattle.mq_play.specs.declared.line.Line.TheVariants as line
use Rattle.mq_play.specs.Lines.{IsPayload}
use Rattle.mq_play.specs.Parts.{Means}
use Rattle.mq_script.proofs.Parts.{means_fault, means_read, name_none, name_read}
use Rattle.mq_script.proofs.happen.parse_dgram.Goals as goal

abbrev made : ℕ → List ℕ → Line
made name bytes = line.Happens (event.Datagram name bytes)

abbrev Behind : ℕ → List ℕ → Line → Type 0
Behind name = Means IsPayload (made name)

pub returns-in_default : goal.returns-in_default
returns-in_default c = name_none Behind c.args.rest.now c.in_default.ensures

pub returns-in_err-bytes : goal.returns-in_err-bytes
returns-in_err-bytes c =
    let p = err_from_is_err_and c.from_residual.result c.from_residual.ensures.1 in
    rw (p.1, p.2) (name_read Behind c.cut_once.ensures c.args.rest.now c.in-Some.tunnel c.in-Some.digits.now c.in-Some.ensures (Err c.in_err-bytes.field-0.0)
    (means_fault IsPayload (made c.in-Some.tunnel) c.in-Some.digits.now c.in_err-bytes.field-0.0 c.in_err-bytes.ensures))

pub returns : goal.returns
returns c =
    name_read Behind c.cut_once.ensures c.args.rest.now c.in-Some.tunnel c.in-Some.digits.now c.in-Some.ensures (Ok (made c.in-Some.tunnel c.in_ok-bytes.bytes))
    (means_read IsPayload (made c.in-Some.tunnel) c.in-Some.digits.now c.in_ok-bytes.bytes c.in_ok-bytes.ensures)
