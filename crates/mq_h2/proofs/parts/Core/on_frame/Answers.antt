use Rattle.std.proofs.Common.{◌≡◌, List, [], Result, refl, sym, subst, append-nil, inl, inr}
use Rattle.mq_frame.specs.declared.frame.Frame.{Frame}
use Rattle.mq_frame.specs.declared.frame.Setting.{Setting}
use Rattle.mq_streams.specs.Answers.{count_of, grant_of}
use Rattle.mq_h2.specs.declared.event.StreamEvent.{StreamEvent}
use Rattle.mq_h2.specs.declared.parts.Core.{Core}
use Rattle.mq_h2.specs.declared.stop.Stop.{Stop}
use Rattle.mq_h2.specs.State.{State}
use Rattle.mq_h2.specs.Frames.{Did, Is, Does, breaks, on_data, on_reset, on_settings, on_window}
use Rattle.mq_h2.specs.Stand.{Goes}
use Rattle.mq_h2.specs.Doing.{Comes, ComesBy, Gave}
use Rattle.mq_h2.proofs.Coming.{comes_by}
use Rattle.mq_h2.proofs.parts.Core.on_frame.Goals as goal

-- what was done is what this frame does
as_frame : (f g : Frame) (s : State) (did : Did) (before : List StreamEvent) (r : Result (Unit {0}) Stop) (after : List StreamEvent) (c : Core)
    → f ≡ g → ((events : List StreamEvent) (t : State) → Is did events t → Does g s events t) → Comes did before r after c → ComesBy (Does f s) before r after c
as_frame f g s did before r after c e into comes = subst (λ (x : Frame). ComesBy (Does x s) before r after c) (sym e) (comes_by did (Does g s) before r after c into comes)

-- the frame does nothing
nothing : (f g : Frame) (s : State) (events : List StreamEvent) (c : Core) → f ≡ g → Does g s [] s → Goes c s → Gave (Does f s) events events c
nothing f g s events c e does goes =
    record { given = []; state = s; so = subst (λ (x : Frame). Does x s [] s) (sym e) does; added = sym (append-nil events); goes = goes }

pub returns-in-Content : goal.returns-in-Content
returns-in-Content c = λ s goes.
    as_frame c.args.frame _ s (on_data (count_of c.in-Content.stream c.in-Content.length s.history) c.in-Content.stream c.in-Content.bytes c.in-Content.length c.in-Content.end s)
    c.args.events.now.items c.on_data.result c.on_data.new.events.items c.on_data.new.self c.in-Content.is (λ events t done. done) (c.on_data.ensures s goes)

pub returns-in-Reset : goal.returns-in-Reset
returns-in-Reset c = λ s goes.
    as_frame c.args.frame _ s (on_reset c.in-Reset.stream c.in-Reset.code s) c.args.events.now.items c.on_reset.result c.on_reset.new.events.items c.on_reset.new.self
    c.in-Reset.is (λ events t done. done) (c.on_reset.ensures s goes)

pub returns-in-Window : goal.returns-in-Window
returns-in-Window c = λ s goes.
    as_frame c.args.frame _ s (on_window (grant_of c.in-Window.stream c.in-Window.grow s.history) c.in-Window.stream c.in-Window.grow s)
    c.args.events.now.items c.on_window.result c.on_window.new.events.items c.on_window.new.self c.in-Window.is (λ events t done. done) (c.on_window.ensures s goes)

pub returns-in-Settings : goal.returns-in-Settings
returns-in-Settings c = λ s goes.
    let pairs : List Setting = c.in-Settings.pairs in
    let done = subst (λ (ps : List Setting). Comes (on_settings c.in-Settings.ack ps s) c.args.events.now.items c.on_settings.result c.on_settings.new.events.items c.on_settings.new.self)
    c.as_slice.ensures (c.on_settings.ensures s goes) in
    as_frame c.args.frame _ s (on_settings c.in-Settings.ack pairs s) c.args.events.now.items c.on_settings.result c.on_settings.new.events.items c.on_settings.new.self
    c.in-Settings.is (λ events t done. done) done

pub returns-in-Fault : goal.returns-in-Fault
returns-in-Fault c = λ s goes. record {
  given = [];
  mid = s;
  so = subst (λ (x : Frame). Does x s (breaks c.in-Fault.code s).events (breaks c.in-Fault.code s).after) (sym c.in-Fault.is) (refl, refl);
  added = sym (append-nil c.args.events.now.items);
  serves = goes.decodes.serves;
}

pub returns-in-Priority : goal.returns-in-Priority
returns-in-Priority c = λ s goes.
    elim c.in-Priority.is [
      | inl x ↦ nothing c.args.frame _ s c.args.events.now.items c.args.self.now x.1 (refl, refl) goes
      | inr y ↦ elim y [
        | inl x ↦ nothing c.args.frame _ s c.args.events.now.items c.args.self.now x.2 (refl, refl) goes
        | inr x ↦ nothing c.args.frame _ s c.args.events.now.items c.args.self.now x.2 (refl, refl) goes
      ]
    ]
