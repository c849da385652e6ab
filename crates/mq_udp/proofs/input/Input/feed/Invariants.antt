use Rattle.std.proofs.Common.{◌≡◌, ℕ, ◌++◌, List, length}
use Rattle.mq_udp.specs.Input.{IsRead}
use Rattle.mq_udp.proofs.input.Input.feed.Given as goal

-- the bytes before the rest were read
abbrev pub invariant-loop-end : goal.invariant-loop-end
invariant-loop-end l = record {
  front : List ℕ;
  are : l.bytes ≡ front ++ l.rest;
  read : (text : List ℕ) → IsRead l.initial.self text → IsRead l.self (text ++ front);
}

abbrev pub decreases-loop-end : goal.decreases-loop-end
decreases-loop-end l = length l.rest
