use Rattle.std.proofs.Common.{◌≡◌, ◌*◌, ◌≤◌, length, take}
use Rattle.mq_huff.specs.Coded.{joined}
use Rattle.mq_huff.proofs.size.encoded_len.Given as goal

abbrev pub invariant-loop-byte : goal.invariant-loop-byte
invariant-loop-byte l = record {
  counted : l.bits ≡ length (joined (take l.byte-index l.text));
  small : l.bits ≤ 30 * l.byte-index;
}
