use Rattle.std.proofs.lemmas.Result.{err_from_is_err_and}
use Rattle.mq_play.specs.Parts.{IsHex}
use Rattle.mq_play.proofs.reading.Parted.{parted_none}
use Rattle.mq_play.proofs.reading.Singles.{hex_once, hexes_lack}
use Rattle.mq_script.proofs.Parts.{parted_fault, parted_read}
use Rattle.mq_script.proofs.fill_piece.parse_filled.Goals as goal

pub returns-in_default : goal.returns-in_default
returns-in_default c = parted_none IsHex _ c.args.text.now c.in_default.ensures

pub returns-in_err-front : goal.returns-in_err-front
returns-in_err-front c =
    let p = err_from_is_err_and c.from_residual.result c.from_residual.ensures.1 in
    rw (p.1, p.2) (parted_fault IsHex _ c.cut_once.ensures hexes_lack c.args.text.now c.in-Some.digits.now c.in-Some.behind.now c.in-Some.ensures c.in_err-front.field-0.0 c.in_err-front.ensures)

pub returns : goal.returns
returns c =
    parted_read IsHex _ c.cut_once.ensures hexes_lack hex_once c.args.text.now c.in-Some.digits.now c.in-Some.behind.now c.in-Some.ensures
    c.in_ok-front.front c.in_ok-front.ensures c.parse_behind.result c.parse_behind.ensures
