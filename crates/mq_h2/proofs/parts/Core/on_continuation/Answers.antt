use Rattle.std.proofs.Common.{◌≡◌, [], ◌∷◌, Option, None, refl, sym, subst, ◌∙◌, append-nil}
use Rattle.mq_h2.specs.Frames.{OnContinuation, breaks}
use Rattle.mq_h2.specs.declared.block.OpenBlock.{OpenBlock}
use Rattle.mq_h2.specs.declared.event.StreamEvent.TheVariants.{ConnectionError}
use Rattle.mq_h2.proofs.Cores.{serves_same}
use Rattle.mq_h2.proofs.parts.Core.on_continuation.Goals as goal

pub returns-in_default : goal.returns-in_default
returns-in_default c = λ s goes.
    let a = c.args in
    let none : s.block ≡ None = sym goes.block ∙ sym c.take.ensures.value ∙ c.in_default.is in
    record {
      given = [];
      mid = s;
      so = subst (λ (b : Option OpenBlock). OnContinuation b a.bytes a.whole s (ConnectionError 1 ∷ []) (breaks 1 s).after) (sym none) (refl, refl);
      added = sym (append-nil a.events.now.items);
      serves = serves_same a.self.now _ s goes.decodes.serves refl refl refl;
    }
