use Rattle.std.proofs.Common.{ℕ, List, ◌++◌, replicate, arith, Err}
use Rattle.std.proofs.lemmas.Result.{err_from_is_err_and}
use Rattle.mq_play.specs.Parts.{IsByte, IsNumber, Means}
use Rattle.mq_play.proofs.reading.Parted.{number_lacks, number_once, parted_none, parted_other}
use Rattle.mq_play.proofs.reading.Singles.{byte_once}
use Rattle.mq_script.proofs.Parts.{means_fault, means_made, parted_read}
use Rattle.mq_script.proofs.fill_piece.parse_behind.Goals as goal

pub returns-in_default : goal.returns-in_default
returns-in_default c = parted_none (IsNumber 1 99999) _ c.args.text.now c.in_default.ensures

pub returns-in_default-number_in : goal.returns-in_default-number_in
returns-in_default-number_in c = parted_other (IsNumber 1 99999) _ c.cut_once.ensures (number_lacks 1 99999 (omega arith)) c.args.text.now c.in-Some.number.now c.in-Some.value.now c.in-Some.ensures c.in_default-number_in.ensures

pub returns-in_err-byte : goal.returns-in_err-byte
returns-in_err-byte c =
    let p = err_from_is_err_and c.from_residual.result c.from_residual.ensures.1 in
    let make : ℕ → List ℕ = λ byte. c.args.front ++ replicate c.in-Some-number_in.count byte in
    rw (p.1, p.2) (parted_read (IsNumber 1 99999) (λ count. Means IsByte (λ (byte : ℕ). c.args.front ++ replicate count byte)) c.cut_once.ensures (number_lacks 1 99999 (omega arith)) (number_once 1 99999 (omega arith)) c.args.text.now c.in-Some.number.now c.in-Some.value.now c.in-Some.ensures
    c.in-Some-number_in.count c.in-Some-number_in.ensures (Err c.in_err-byte.field-0.0) (means_fault IsByte make c.in-Some.value.now c.in_err-byte.field-0.0 c.in_err-byte.ensures))

pub returns : goal.returns
returns c =
    let make : ℕ → List ℕ = λ byte. c.args.front ++ replicate c.in-Some-number_in.count byte in
    parted_read (IsNumber 1 99999) (λ count. Means IsByte (λ (byte : ℕ). c.args.front ++ replicate count byte)) c.cut_once.ensures (number_lacks 1 99999 (omega arith)) (number_once 1 99999 (omega arith)) c.args.text.now c.in-Some.number.now c.in-Some.value.now c.in-Some.ensures
    c.in-Some-number_in.count c.in-Some-number_in.ensures c.filled.result (means_made IsByte make c.in-Some.value.now c.in_ok-byte.byte byte_once c.in_ok-byte.ensures c.filled.result c.filled.ensures)
