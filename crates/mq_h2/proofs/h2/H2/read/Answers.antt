use Rattle.std.proofs.Common.{ℕ, ◌^◌, ◌<◌, Bool, List, ◌++◌, refl, sym, subst, ◌∙◌, arith}
use Rattle.std.proofs.lemmas.List.Elements.{All-from_get_or}
use Rattle.mq_frame.specs.declared.frame.Frame.{Frame}
use Rattle.mq_streams.specs.History.{History}
use Rattle.mq_h2.specs.declared.event.StreamEvent.{StreamEvent}
use Rattle.mq_h2.specs.declared.h2.H2.{H2}
use Rattle.mq_h2.specs.declared.h2.Phase.{Phase}
use Rattle.mq_h2.specs.State.{State}
use Rattle.mq_h2.specs.Reading.{drained, ReadsWhile}
use Rattle.mq_h2.specs.Stand.{Serves, IsPhase}
use Rattle.mq_h2.specs.Doing.{ReadFrames}
use Rattle.mq_h2.specs.Reached.{by_reading}
use Rattle.mq_h2.proofs.Phases.{Reads, reading, phase_is, serves_read, goes_read}
use Rattle.mq_h2.proofs.h2.H2.read.Goals as goal

pub returns : goal.returns
returns c = λ s is on.
    let v : H2 = c.args.self.now in
    let piece = c.args.piece.now in
    let r : Reads v s = reading v.phase v s is.phase on in
    let frames : List Frame = c.in_ok-frames.frames in
    let were = c.is_readable.ensures s.read in
    let stands = c.in_ok-frames.ensures.stands s.read r.stands in
    let are = c.in_ok-frames.ensures.frames s.read were.0 r.stands were.1 in
    let ended : Bool = c.in_ok-events.field-0.ended in
    let told : List StreamEvent = c.in_ok-events.field-0.events.items in
    let done : ReadFrames frames s told ended c.read.new.self =
    subst (λ (fs : List Frame). ReadFrames fs s told ended c.read.new.self) c.into_vec.ensures (c.in_ok-events.ensures.read s r.goes) in
    let h : History = drained done.told done.told done.met.history in
    let bytes : List ℕ = s.read ++ piece in
    let t : State = record done.met { read = bytes; history = h } in
    let w : H2 = record { frames = c.feed.new.self; core = c.read.new.self; phase = c.phase_behind-self.result } in
    let serves : Serves w.core t = serves_read w.core (record done.met { history = h }) bytes done.serves in
    let few = c.few_are_live.ensures w.core.streams h serves.streams in
    let space = c.in_ok-events.ensures.room in
    let reads : ReadsWhile s.ended s piece c.from_vec.result t =
    subst (λ (b : Bool). ReadsWhile b s piece c.from_vec.result t) (sym on) (record {
      earlier = were.0;
      frames = frames;
      were = were.1;
      are = are;
      told = done.told;
      met = done.met;
      did = done.did;
      events_are = c.from_vec.ensures ∙ done.events_are;
      state_is = refl;
    }) in (
      t,
      reads,
      record {
        phase = subst (λ (p : Phase). IsPhase p w t) (sym c.phase_behind-self.ensures)
            (phase_is ended w t stands serves (λ e. goes_read w.core (record done.met { history = h }) bytes (done.goes e)) done.over);
        room = record { room = omega (arith, space, few); least = omega (arith, space) };
        reached = by_reading s piece c.from_vec.result t is.reached (All-from_get_or (λ b. b < 2 ^ 8) piece 0 (λ i lt. (c.type_inv.piece i).fits)) reads;
      },
    )
