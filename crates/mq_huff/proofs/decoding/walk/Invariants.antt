use Rattle.std.proofs.Common.{◌≡◌, ◌++◌, ◌<◌, take}
use Rattle.mq_huff.specs.Coded.{AreBytes, bits, joined}
use Rattle.mq_huff.specs.State.{read_at}
use Rattle.mq_huff.proofs.decoding.walk.Given as goal

abbrev pub invariant-loop-byte : goal.invariant-loop-byte
invariant-loop-byte l = record {
  bytes : AreBytes l.out.items;
  state : l.state < 256;
  walked : bits (take l.byte-index l.text) ≡ joined l.out.items ++ read_at l.state;
}
