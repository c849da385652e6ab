use Rattle.std.proofs.Common.{◌≡◌, Bool, eqb, ◌&&◌, take, List, ap, ◌∙◌, arith}
use Rattle.std.specs.List.{list_any}
use Rattle.std.proofs.lemmas.List.{take_all}
use Rattle.mq_h2.specs.declared.event.StreamEvent.{StreamEvent}
use Rattle.mq_h2.specs.Reading.{resets}
use Rattle.mq_h2.proofs.read.withdrawn.Goals as goal

pub returns : goal.returns
returns c = λ id.
    let events = c.args.events.now in
    let all : take c.loop-event.event-index events ≡ events = take_all c.loop-event.event-index events (omega arith) in
    let came : Bool = list_any (λ g. eqb g id) c.in_ok-asked.asked.ids.items in
    c.of.ensures id ∙ c.loop-event.invariant id ∙ ap (λ (xs : List StreamEvent). came && list_any (resets id) xs) all
    ∙ ap (λ (b : Bool). b && list_any (resets id) events) (c.in_ok-asked.ensures id)
