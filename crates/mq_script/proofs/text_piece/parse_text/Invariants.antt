use Rattle.std.proofs.Common.{◌≡◌, drop, false, []}
use Rattle.mq_play.proofs.reading.Texts.{scan}
use Rattle.mq_script.proofs.text_piece.parse_text.Given as goal

abbrev pub invariant-loop-byte : goal.invariant-loop-byte
invariant-loop-byte l = scan l.is_escape l.bytes.items (drop l.byte-index l.text) ≡ scan false [] l.text
