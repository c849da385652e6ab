-- What is done is done as a relation says.
use Rattle.std.proofs.Common.{List, [], ◌∷◌, Result, Ok, Err, refl, sym, ap, ◌∙◌, append-nil}
use Rattle.mq_h2.specs.declared.parts.Core.{Core}
use Rattle.mq_h2.specs.declared.event.StreamEvent.{StreamEvent}
use Rattle.mq_h2.specs.declared.event.StreamEvent.TheVariants.{ConnectionError}
use Rattle.mq_h2.specs.declared.stop.Stop.{Stop}
use Rattle.mq_h2.specs.declared.stop.Stop.TheVariants.{Connection, NoMemory}
use Rattle.mq_h2.specs.State.{State}
use Rattle.mq_h2.specs.Frames.{Did, Is, breaks}
use Rattle.mq_h2.specs.Doing.{Comes, ComesBy}

pub comes_by : (did : Did) (R : List StreamEvent → State → Type 0) (before : List StreamEvent) (r : Result (Unit {0}) Stop) (after : List StreamEvent) (c : Core)
    → ((events : List StreamEvent) (t : State) → Is did events t → R events t) → Comes did before r after c → ComesBy R before r after c
comes_by did R before (Ok done) after c into comes = record {
  given = did.events;
  state = did.after;
  so = into did.events did.after (refl, refl);
  added = comes.0;
  goes = comes.1;
}
comes_by did R before (Err (Connection code)) after c into comes = record {
  given = [];
  mid = comes.0;
  so = into (ConnectionError code ∷ []) (breaks code comes.0).after (ap (λ (d : Did). d.events) (sym comes.1), ap (λ (d : Did). d.after) (sym comes.1));
  added = comes.2 ∙ sym (append-nil before);
  serves = comes.3;
}
comes_by did R before (Err NoMemory) after c into comes = tt

pub comes_as : (R S : List StreamEvent → State → Type 0) (before : List StreamEvent) (r : Result (Unit {0}) Stop) (after : List StreamEvent) (c : Core)
    → ((events : List StreamEvent) (t : State) → R events t → S events t) → ComesBy R before r after c → ComesBy S before r after c
comes_as R S before (Ok done) after c into comes =
    record { given = comes.given; state = comes.state; so = into comes.given comes.state comes.so; added = comes.added; goes = comes.goes }
comes_as R S before (Err (Connection code)) after c into comes =
    record { given = comes.given; mid = comes.mid; so = into _ _ comes.so; added = comes.added; serves = comes.serves }
comes_as R S before (Err NoMemory) after c into comes = tt
