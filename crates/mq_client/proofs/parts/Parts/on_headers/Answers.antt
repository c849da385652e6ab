use Rattle.std.proofs.Common.{Bool, [], ◌∷◌, refl, sym, subst}
use Rattle.std.proofs.lemmas.Bool.{ne_eqb, eq-eqb}
use Rattle.mq_client.specs.declared.event.ClientEvent.TheVariants.{BadPeer}
use Rattle.mq_client.specs.Frames.{OnBlock, OnHeaders}
use Rattle.mq_client.proofs.Goings.{broke_all, gave_as_all}
use Rattle.mq_client.proofs.parts.Parts.on_headers.Goals as goal

pub returns-then-stream-ne-STREAM : goal.returns-then-stream-ne-STREAM
returns-then-stream-ne-STREAM c = λ s goes.
    let a = c.args in
    broke_all 1 _ a.events.now.items c.bad.new.events.items _ s c.bad.result
    (subst (λ (k : Bool). OnHeaders k a.block.bytes a.block.end a.whole s (BadPeer 1 ∷ []) s) (sym (ne_eqb a.stream 1 c.if-stream-ne-STREAM.true)) (refl, refl))
    goes.decodes.serves c.bad.ensures

pub returns : goal.returns
returns c = λ s goes.
    let a = c.args in
    gave_as_all (OnBlock a.whole a.block s) _ a.events.now.items c.on_part.new.events.items c.on_part.new.self c.on_part.result
    (λ events t on. subst (λ (k : Bool). OnHeaders k a.block.bytes a.block.end a.whole s events t) (sym (eq-eqb a.stream 1 c.if-stream-ne-STREAM.false)) on)
    (c.on_part.ensures s goes.decodes)
