use Rattle.std.proofs.Common.{◌≡◌, ℕ, Bool, true, false, ◌||◌, List, [], ◌++◌, refl, sym, ap, subst, ◌∙◌}
use Rattle.mq_frame.specs.declared.frame.Frame.{Frame}
use Rattle.mq_frame.specs.Readers.{Stands}
use Rattle.mq_client.specs.declared.event.ClientEvent.{ClientEvent}
use Rattle.mq_client.specs.declared.http2.Http2.{Http2}
use Rattle.mq_client.specs.declared.http2.Phase.{Phase}
use Rattle.mq_client.specs.Session.{Session, ended}
use Rattle.mq_client.specs.Talk.{Talk, is_over}
use Rattle.mq_client.specs.Frames.{DoAll}
use Rattle.mq_client.specs.Talking.{Leads, Gave, IsPhase, phase_behind}
use Rattle.mq_client.proofs.Told.{ended_both}
use Rattle.mq_client.proofs.http2.Http2.read.Goals as goal

phase_is : (over : Bool) (two : Http2) (after : Session) (came : List ℕ) (told : List ClientEvent) → Stands two.frames came → Leads over two.parts after → ended told ≡ over
    → IsPhase (phase_behind over) two (record { came = came; told = told; session = after })
phase_is true two after came told stands leads e = (leads, e)
phase_is false two after came told stands leads e = (stands, leads, e)

pub returns-clause-reads : goal.returns-clause-reads
returns-clause-reads c = λ s is on.
    let two : Http2 = c.args.self.now in
    let piece = c.args.piece.now in
    let r = subst (λ (p : Phase). IsPhase p two s) on is in
    let frames : List Frame = c.in_ok-frames.frames in
    let were = c.is_readable.ensures s.came in
    let over : Bool = c.in_ok-over.over in
    let told : List ClientEvent = c.from_vec.result in
    let done : Gave (DoAll false frames s.session) [] told over c.on_frames.new.self =
    subst (λ (l : List ClientEvent). Gave (DoAll false frames s.session) [] l over c.on_frames.new.self) (sym c.from_vec.ensures)
    (subst (λ (l : List ClientEvent). Gave (DoAll false frames s.session) l c.on_frames.new.events.items over c.on_frames.new.self) c.new-events.ensures.items
    (subst (λ (fs : List Frame). Gave (DoAll false fs s.session) c.new-events.result.items c.on_frames.new.events.items over c.on_frames.new.self) c.into_vec.ensures
    (c.in_ok-over.ensures s.session r.1))) in
    let all : List ClientEvent = s.told ++ told in
    let last : ended all ≡ over =
    ended_both s.told told ∙ ap (λ (b : Bool). b || ended told) r.2 ∙ ap ended done.added ∙ sym done.over_is in
    let did : DoAll (is_over s) frames s.session told done.state =
    subst (λ (b : Bool). DoAll b frames s.session told done.state) (sym r.2) (subst (λ (l : List ClientEvent). DoAll false frames s.session l done.state) (sym done.added) done.so) in
    let two' : Http2 = record { frames = c.feed.new.self; parts = c.on_frames.new.self; phase = c.phase_behind-self.result } in
    let t : Talk = record { came = s.came ++ piece; told = all; session = done.state } in (
      t,
      record {
        earlier = were.0;
        frames = frames;
        were = were.1;
        are = c.in_ok-frames.ensures.frames s.came were.0 r.0 were.1;
        after = done.state;
        did = did;
        state_is = refl;
      },
      subst (λ (p : Phase). IsPhase p two' t) (sym c.phase_behind-self.ensures)
          (phase_is over two' done.state (s.came ++ piece) all (c.in_ok-frames.ensures.stands s.came r.0) done.leads last),
    )
