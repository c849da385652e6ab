use Rattle.std.proofs.Common.{◌≡◌, take, List, ap, ◌∙◌, arith}
use Rattle.std.specs.List.{list_any}
use Rattle.std.proofs.lemmas.List.{take_all}
use Rattle.mq_h2.specs.declared.event.StreamEvent.{StreamEvent}
use Rattle.mq_h2.specs.Reading.{asks}
use Rattle.mq_h2.proofs.read.asked.Goals as goal

pub returns : goal.returns
returns c = λ id.
    let events = c.args.events.now in
    let all : take c.loop-event.event-index events ≡ events = take_all c.loop-event.event-index events (omega arith) in
    c.of.ensures id ∙ c.loop-event.invariant id ∙ ap (λ (xs : List StreamEvent). list_any (asks id) xs) all
