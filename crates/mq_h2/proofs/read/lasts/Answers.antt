use Rattle.std.proofs.Common.{◌≡◌, not, sym, ap, subst, ◌∙◌, inl, inr}
use Rattle.mq_h2.specs.declared.event.StreamEvent.{StreamEvent}
use Rattle.mq_h2.specs.Reading.{lasts, is_withdrawn}
use Rattle.mq_h2.proofs.read.lasts.Goals as goal

pub returns-in-Request : goal.returns-in-Request
returns-in-Request c = λ events are.
    let among : c.has.result ≡ is_withdrawn events c.in-Request.stream = c.has.ensures ∙ are c.in-Request.stream in
    let P : StreamEvent → Type 0 = λ e. not c.has.result ≡ lasts events e in
    elim c.in-Request.is [
      | inl x ↦ subst P (sym x.2) (ap not among)
      | inr y ↦ elim y [
        | inl x ↦ subst P (sym x.3) (ap not among)
        | inr x ↦ subst P (sym x.1) (ap not among)
      ]
    ]
