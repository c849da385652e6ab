use Rattle.std.proofs.Common.{◌≡◌, [], ◌∷◌, Option, None, refl, sym, subst, ◌∙◌}
use Rattle.mq_client.specs.Frames.{OnContinuation}
use Rattle.mq_client.specs.declared.block.OpenBlock.{OpenBlock}
use Rattle.mq_client.specs.declared.event.ClientEvent.TheVariants.{BadPeer}
use Rattle.mq_client.proofs.Goings.{broke_all}
use Rattle.mq_client.proofs.parts.Parts.on_continuation.Goals as goal

pub returns-in_default : goal.returns-in_default
returns-in_default c = λ s goes.
    let a = c.args in
    let none : s.block ≡ None = sym goes.block ∙ sym c.take.ensures.value ∙ c.in_default.is in
    let x = goes.decodes.serves in
    broke_all 1 _ a.events.now.items c.bad.new.events.items _ s c.bad.result
    (subst (λ (b : Option OpenBlock). OnContinuation b a.bytes a.whole s (BadPeer 1 ∷ []) s) (sym none) (refl, refl))
    (record { streams = x.streams; live = x.live; waits_are = x.waits_are; owed_is = x.owed_is; within = x.within }) c.bad.ensures
