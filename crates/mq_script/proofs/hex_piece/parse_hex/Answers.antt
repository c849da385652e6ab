use Rattle.std.proofs.Common.{◌≡◌, ◌≢◌, [], ap, arith, length}
use Rattle.std.proofs.lemmas.Grind.{common_steps}
use Rattle.std.proofs.lemmas.List.{nil_from_length}
use Rattle.std.proofs.lemmas.Result.{err_from_is_err_and}
use Rattle.mq_play.proofs.reading.Hexes.{hex_says, hex_low}
use Rattle.mq_script.proofs.Pieces.{empty_hex, hex_fault, hex_is}
use Rattle.mq_script.proofs.hex_piece.parse_hex.Goals as goal

pub returns-in_err-bytes : goal.returns-in_err-bytes
returns-in_err-bytes c =
    let p = err_from_is_err_and c.from_residual.result c.from_residual.ensures.1 in
    rw p.1 (hex_fault c.args.text.now c.in_err-bytes.field-0.0 p.0 p.2 c.in_err-bytes.ensures.err)

pub returns-then-is_empty : goal.returns-then-is_empty
returns-then-is_empty c =
    let none : length c.args.text.now ≡ 0 = grind (arith, common_steps) in
    empty_hex c.args.text.now (nil_from_length c.args.text.now none)

pub returns-then-not-lacks_capitals : goal.returns-then-not-lacks_capitals
returns-then-not-lacks_capitals c = λ value h.
    let odd = c.if-not-lacks_capitals.true in
    let low = c.lacks_capitals.ensures.1 (hex_low c.args.text.now value (h.are, h.is)) in
    cc (odd, low)

pub returns : goal.returns
returns c =
    let even = c.if-not-lacks_capitals.false in
    let low = c.lacks_capitals.ensures.0 even in
    let some : c.args.text.now ≢ [] = λ e. (let none : length c.args.text.now ≡ 0 = ap length e in grind (arith, common_steps)) in
    rw c.from_vec.ensures (hex_is c.args.text.now c.in_ok-bytes.bytes.items some (hex_says c.args.text.now c.in_ok-bytes.bytes.items low c.in_ok-bytes.ensures.ok))
