use Rattle.std.proofs.Common.{◌+◌, sym, subst, take, drop, ◌∙◌}
use Rattle.mq_streams.specs.History.{History}
use Rattle.mq_h2.specs.declared.event.StreamEvent.{StreamEvent}
use Rattle.mq_h2.specs.State.{with_history}
use Rattle.mq_h2.specs.Reading.{drained}
use Rattle.mq_h2.specs.Stand.{Serves}
use Rattle.mq_h2.specs.Doing.{AreHeld}
use Rattle.mq_h2.proofs.Draining.{drained_next, held_first, held_next, held_at}
use Rattle.mq_h2.proofs.parts.Core.drain.Goals as goal

pub loop-event-preserved : goal.loop-event-preserved
loop-event-preserved c =
    let all = c.args.events.now in
    let at = c.loop-event.event-index in
    let e : StreamEvent = c.event-item.result in
    let far = c.loop-event.invariant in
    record {
      serves = λ gone s is held.
          let before = far.serves gone s is held in
          let h : History = drained all (take at all) s.history in
          let here = held_at all at e h c.loop-event-test.true c.event-item.is before.1 in
          let done = c.drain_event.ensures.serves all gone (with_history h s) before.0 (held_first e (drop (at + 1) all) h here) in
          let next = drained_next all at e s.history c.loop-event-test.true c.event-item.is in (
            subst (λ (x : History). Serves c.drain_event.new.self (with_history x s)) (sym next) done,
            subst (λ (x : History). AreHeld (drop (at + 1) all) x) (sym next) (held_next all e (drop (at + 1) all) h here),
          );
      keeps = record { decoder = c.drain_event.ensures.keeps.decoder ∙ far.keeps.decoder; block = c.drain_event.ensures.keeps.block ∙ far.keeps.block };
    }
