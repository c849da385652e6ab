use Rattle.std.proofs.Common.{◌<◌, ◌^◌, take}
use Rattle.mq_huff.specs.Code.{bits_of}
use Rattle.mq_huff.specs.Coded.{joined}
use Rattle.mq_huff.specs.Encoded.{AppendsBits}
use Rattle.mq_huff.proofs.encoding.append.Given as goal

abbrev pub invariant-loop-byte : goal.invariant-loop-byte
invariant-loop-byte l = record {
  fits : l.word < 2 ^ l.waiting;
  few : l.waiting < 32;
  written : AppendsBits l.fn.out.items l.out.items (bits_of l.waiting l.word) (joined (take l.byte-index l.text));
}
