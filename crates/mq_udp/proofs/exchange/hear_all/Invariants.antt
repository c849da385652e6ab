use Rattle.std.proofs.Common.{◌≡◌, ℕ, true, List}
use Rattle.std.specs.Prelude.{Contains}
use Rattle.mq_client.specs.declared.event.ClientEvent.TheVariants as event
use Rattle.mq_output.specs.Printing.{Prints}
use Rattle.mq_udp.specs.Exchanges.{HearsTo}
use Rattle.mq_udp.proofs.exchange.hear_all.Given as goal

-- the payloads of the events so far were printed
abbrev pub invariant-loop-event : goal.invariant-loop-event
invariant-loop-event g l = record {
  shown : List ℕ;
  prints : Prints g.K.Sink.taken l.initial.output l.output shown;
  hears : HearsTo l.yielded l.initial.left shown l.heard.end l.left;
  opens : l.heard.opens ≡ true → Contains l.yielded event.Opened;
  counts : g.K.Sink.faults l.output.sink.now ≡ g.K.Sink.faults l.initial.output.sink.now;
}
