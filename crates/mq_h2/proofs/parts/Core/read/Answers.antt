use Rattle.std.proofs.Common.{◌≡◌, ℕ, Bool, true, false, List, refl, subst, ◌∙◌}
use Rattle.mq_frame.specs.declared.frame.Frame.{Frame}
use Rattle.mq_streams.specs.History.{History}
use Rattle.mq_h2.specs.declared.event.StreamEvent.{StreamEvent}
use Rattle.mq_h2.specs.declared.parts.Core.{Core}
use Rattle.mq_h2.specs.State.{State, with_history}
use Rattle.mq_h2.specs.Frames.{DoAll}
use Rattle.mq_h2.specs.Reading.{drained}
use Rattle.mq_h2.specs.Stand.{Serves, Goes}
use Rattle.mq_h2.specs.Doing.{Met, AreWithdrawn, AreHeld}
use Rattle.mq_h2.proofs.Cores.{serves_same}
use Rattle.mq_h2.proofs.Telling.{all_held}
use Rattle.mq_h2.proofs.parts.Core.read.Goals as goal

-- what is so of a read that met an error of the connection or not
record Parts (ended : Bool) (fs : List Frame) (s : State) (told : List StreamEvent) (t : State) (c : Core) : Type 0 where
  pub did : DoAll fs s told t
  pub serves : Serves c t
  pub goes : ended ≡ false → Goes c t
  pub over : ended ≡ true → t.ended ≡ true

parts : (ended : Bool) (fs : List Frame) (s : State) (told : List StreamEvent) (t : State) (c : Core) → Met ended fs s told t c → Parts ended fs s told t c
parts true fs s told t c met = record { did = met.0; serves = met.2; goes = λ e. absurd cc; over = λ e. met.1 }
parts false fs s told t c met = record { did = met.0; serves = met.1.decodes.serves; goes = λ e. met.1; over = λ e. absurd cc }

pub returns-clause-read : goal.returns-clause-read
returns-clause-read c = λ s goes.
    let frames = c.args.frames.items in
    let told : List StreamEvent = c.meet.new.events.items in
    let met = c.in_ok-ended.ensures s goes c.new-events.ensures.items in
    let t : State = met.0 in
    let p : Parts c.in_ok-ended.ended frames s told t c.meet.new.self = parts c.in_ok-ended.ended frames s told t c.meet.new.self met.1 in
    let held : AreHeld told t.history = all_held frames s told t p.did (λ id. c.consumed_within_what_came.ensures.within c.args.self.now.streams id s.history goes.decodes.serves.streams) in
    let gone : List ℕ = c.in_ok-gone.gone.ids.items in
    let are : AreWithdrawn gone told = subst (λ (es : List StreamEvent). AreWithdrawn gone es) c.as_slice.ensures.value c.in_ok-gone.ensures in
    let h : History = drained told told t.history in
    let Q : List ℕ → List StreamEvent → Type 0 =
    λ g es. AreWithdrawn g es → (s : State) → Serves c.meet.new.self s → AreHeld es s.history → Serves c.drain.new.self (with_history (drained es es s.history) s) in
    let drains : Q gone told =
    subst (λ (es : List StreamEvent). Q gone es) c.as_slice-2.ensures.value c.drain.ensures.serves in
    let u : State = with_history h t in
    let served : Serves c.drain.new.self u = drains are t p.serves held in
    let d : Core = record c.drain.new.self { owed = c.reserve.new.self } in
    let last : Serves d u = serves_same c.drain.new.self d u served refl refl c.reserve.ensures.items in
    record {
      told = told;
      met = t;
      did = p.did;
      events_are = c.in_ok-events.ensures are;
      serves = last;
      goes = λ e.
          let g = p.goes e in
          record {
            decodes = record { serves = last; decoder = c.drain.ensures.keeps.decoder ∙ g.decodes.decoder; on = g.decodes.on };
            block = c.drain.ensures.keeps.block ∙ g.block;
          };
      over = p.over;
    }
