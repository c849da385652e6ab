use Rattle.std.proofs.Common.{◌≡◌, ◌≢◌, [], sym, ap, arith, length}
use Rattle.std.proofs.lemmas.Grind.{common_steps}
use Rattle.std.proofs.lemmas.List.{nil_from_length}
use Rattle.mq_play.proofs.reading.Texts.{bad_letter, bad_byte, at_end, refused, text_says}
use Rattle.mq_script.proofs.Pieces.{empty_text, not_text, some_text}
use Rattle.mq_script.proofs.text_piece.parse_text.Goals as goal

pub returns-then-is_empty : goal.returns-then-is_empty
returns-then-is_empty c =
    let none : length c.args.text.now ≡ 0 = grind (arith, common_steps) in
    empty_text c.args.text.now (nil_from_length c.args.text.now none)

pub returns-in_default : goal.returns-in_default
returns-in_default c =
    let waits = c.if-is_escape.true in
    not_text c.args.text.now (refused c.args.text.now (bad_letter c.loop-byte.bytes.items c.args.text.now c.loop-byte.byte-index (omega arith) (sym c.in_default.ensures) (rw waits at c.loop-byte.invariant)))

pub returns-then-not-is_plain : goal.returns-then-not-is_plain
returns-then-not-is_plain c =
    let waits = c.if-is_escape.false in
    let odd = c.if-not-is_plain.true in
    not_text c.args.text.now (refused c.args.text.now (bad_byte c.loop-byte.bytes.items c.args.text.now c.loop-byte.byte-index (omega arith) c.if-byte-eq92.false
    (λ within. let plain = c.is_plain.ensures.1 within in cc (odd, plain))
    (rw waits at c.loop-byte.invariant)))

pub returns-then-is_escape-2 : goal.returns-then-is_escape-2
returns-then-is_escape-2 c =
    let waits = c.if-is_escape-2.true in
    let end = at_end c.loop-byte.is_escape c.loop-byte.bytes.items c.args.text.now c.loop-byte.byte-index (omega arith) c.loop-byte.invariant in
    not_text c.args.text.now (refused c.args.text.now (sym (rw waits at end)))

pub returns : goal.returns
returns c =
    let waits = c.if-is_escape-2.false in
    let end = at_end c.loop-byte.is_escape c.loop-byte.bytes.items c.args.text.now c.loop-byte.byte-index (omega arith) c.loop-byte.invariant in
    let says = text_says c.args.text.now c.loop-byte.bytes.items (sym (rw waits at end)) in
    let some : c.args.text.now ≢ [] = λ e. (let none : length c.args.text.now ≡ 0 = ap length e in grind (arith, common_steps)) in
    rw c.from_vec.ensures (some_text c.args.text.now c.loop-byte.bytes.items some says)
