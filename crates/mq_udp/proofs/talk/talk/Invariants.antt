use Rattle.std.proofs.Common.{◌≡◌, ℕ, List, []}
use Rattle.mq_outside.specs.Outsides.{IsSame}
use Rattle.mq_output.specs.Printing.{Takes}
use Rattle.mq_udp.proofs.Ending.{Follows}
use Rattle.mq_udp.proofs.talk.talk.Given as goal

-- the exchange goes on, what was shown is written, and the outside is the same
abbrev pub invariant-loop-turn : goal.invariant-loop-turn
invariant-loop-turn g l = record {
  shown : List ℕ;
  takes : Takes g.K.Sink.taken l.initial.output l.output shown;
  follows : Follows g.O.L.Link.past g.O.L.Link.counts l.initial.exchange l.exchange shown;
  written : l.output.owed.now.items ≡ [];
  same : IsSame (g.O.Outside.holds l.initial.outside) (g.O.Outside.holds l.outside) (g.O.Outside.past l.initial.outside) (g.O.Outside.past l.outside) (g.O.Outside.faults l.initial.outside) (g.O.Outside.faults l.outside);
  counts : g.K.Sink.faults l.output.sink.now ≡ g.K.Sink.faults l.initial.output.sink.now;
}
