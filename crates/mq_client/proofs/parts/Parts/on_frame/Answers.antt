use Rattle.std.proofs.Common.{◌≡◌, [], ◌∷◌, List, false, refl, sym, subst, append-nil, inl, inr}
use Rattle.mq_frame.specs.declared.frame.Frame.{Frame}
use Rattle.mq_client.specs.declared.event.ClientEvent.{ClientEvent}
use Rattle.mq_client.specs.declared.event.ClientEvent.TheVariants.{BadPeer}
use Rattle.mq_client.specs.declared.parts.Parts.{Parts}
use Rattle.mq_client.specs.Session.{Session}
use Rattle.mq_client.specs.Frames.{Does}
use Rattle.mq_client.specs.Talking.{Goes, Gave}
use Rattle.mq_client.proofs.Goings.{broke_all}
use Rattle.mq_client.proofs.parts.Parts.on_frame.Goals as goal

-- the frame does nothing
nothing : (f g : Frame) (s : Session) (events : List ClientEvent) (c : Parts) → f ≡ g → Does g s [] s → Goes c s → Gave (Does f s) events events false c
nothing f g s events c e does goes = record {
  given = [];
  state = s;
  so = subst (λ (x : Frame). Does x s [] s) (sym e) does;
  added = sym (append-nil events);
  over_is = refl;
  leads = goes;
}

pub returns-in-Fault : goal.returns-in-Fault
returns-in-Fault c = λ s goes.
    let a = c.args in
    let code = c.in-Fault.code in
    broke_all code _ a.events.now.items c.bad.new.events.items _ s c.bad.result
    (subst (λ (f : Frame). Does f s (BadPeer code ∷ []) s) (sym c.in-Fault.is) (refl, refl)) goes.decodes.serves c.bad.ensures

pub returns-in-Priority : goal.returns-in-Priority
returns-in-Priority c = λ s goes.
    elim c.in-Priority.is [
      | inl x ↦ nothing c.args.frame _ s c.args.events.now.items c.args.self.now x.1 (refl, refl) goes
      | inr y ↦ elim y [
        | inl x ↦ nothing c.args.frame _ s c.args.events.now.items c.args.self.now x.2 (refl, refl) goes
        | inr x ↦ nothing c.args.frame _ s c.args.events.now.items c.args.self.now x.2 (refl, refl) goes
      ]
    ]
