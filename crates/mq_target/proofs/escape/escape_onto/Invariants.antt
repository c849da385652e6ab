use Rattle.std.proofs.Common.{◌≡◌, ◌++◌, take}
use Rattle.mq_target.specs.Expansion.{escaped}
use Rattle.mq_target.proofs.escape.escape_onto.Given as goal

abbrev pub invariant-loop-byte : goal.invariant-loop-byte
invariant-loop-byte l = l.out.items ≡ l.initial.out.items ++ escaped (take l.byte-index l.text)
