use Rattle.std.proofs.Common.{◌≡◌, Bool, true, List, [], ◌++◌, refl, sym, ap, subst, ◌∙◌, append-nil}
use Rattle.mq_frame.specs.declared.frame.Frame.{Frame}
use Rattle.mq_frame.specs.Stream.{FramesOf}
use Rattle.mq_client.specs.declared.event.ClientEvent.{ClientEvent}
use Rattle.mq_client.specs.declared.http2.Http2.{Http2}
use Rattle.mq_client.specs.declared.http2.Phase.{Phase}
use Rattle.mq_client.specs.Session.{ended}
use Rattle.mq_client.specs.Talk.{Talk}
use Rattle.mq_client.specs.Talking.{IsPhase}
use Rattle.mq_client.specs.Frames.{DoAll}
use Rattle.mq_client.proofs.Doings.{do_none}
use Rattle.mq_client.proofs.http2.Http2.feed.Goals as goal

pub returns-in-Over-clause-reads : goal.returns-in-Over-clause-reads
returns-in-Over-clause-reads c = λ s is.
    let two : Http2 = c.args.self.now in
    let piece = c.args.piece.now in
    let r = subst (λ (p : Phase). IsPhase p two s) c.in-Over.is is in
    let were = c.is_readable.ensures s.came in
    let all = c.is_readable.ensures (s.came ++ piece) in
    let more = c.stays_read.ensures s.came piece were.0 all.0 were.1 all.1 in
    let told : List ClientEvent = c.from_vec.result in
    let none : told ≡ [] = c.from_vec.ensures ∙ c.new.ensures.items in
    let same : s.told ++ told ≡ s.told = ap (λ (l : List ClientEvent). s.told ++ l) none ∙ append-nil s.told in
    let t : Talk = record { came = s.came ++ piece; told = s.told ++ told; session = s.session } in (
      t,
      record {
        earlier = were.0;
        frames = more.0;
        were = were.1;
        are = subst (λ (fs : List Frame). FramesOf (s.came ++ piece) fs) more.1 all.1;
        after = s.session;
        did =
            subst (λ (b : Bool). DoAll b more.0 s.session told s.session) (sym r.1)
            (subst (λ (l : List ClientEvent). DoAll true more.0 s.session l s.session) (sym none) (do_none more.0 s.session));
        state_is = refl;
      },
      subst (λ (p : Phase). IsPhase p two t) (sym c.in-Over.is) (r.0, ap ended same ∙ r.1),
    )
