use Rattle.std.proofs.Common.{◌≡◌, ℕ, List}
use Rattle.mq_outside.specs.Outside.{Gives}
use Rattle.mq_udp.specs.Input.{IsRead}
use Rattle.mq_udp.proofs.reading.read_input.Given as goal

-- what the source gave was read
abbrev pub invariant-loop-turn : goal.invariant-loop-turn
invariant-loop-turn g l = record {
  text : List ℕ;
  gave : Gives (g.S.Source.left l.initial.source) (g.S.Source.left l.source) text;
  read : IsRead l.input text;
  counts : g.S.Source.faults l.source ≡ g.S.Source.faults l.initial.source;
}
