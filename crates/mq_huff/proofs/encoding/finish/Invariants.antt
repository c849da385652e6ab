use Rattle.std.proofs.Common.{◌≡◌, ◌+◌, ◌%◌, ◌≤◌}
use Rattle.mq_huff.specs.Code.{bits_of}
use Rattle.mq_huff.specs.Encoded.{AppendsBits}
use Rattle.mq_huff.proofs.encoding.finish.Given as goal

abbrev pub invariant-loop-left : goal.invariant-loop-left
invariant-loop-left l = record {
  whole : l.left % 8 ≡ 0;
  few : l.left ≤ 39;
  written : AppendsBits l.fn.out.items l.out.items (bits_of l.left l.padded) (bits_of (l.waiting + l.padding) l.padded);
}

abbrev pub decreases-loop-left : goal.decreases-loop-left
decreases-loop-left l = l.left
