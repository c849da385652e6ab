use Rattle.std.proofs.Common.{◌≡◌, Option, sym, ap, subst, ◌∙◌, inl, inr}
use Rattle.std.specs.Option.{is_some}
use Rattle.mq_h2.specs.declared.block.OpenBlock.{OpenBlock}
use Rattle.mq_h2.specs.declared.h2.H2.{H2}
use Rattle.mq_h2.specs.declared.h2.Phase.{Phase}
use Rattle.mq_h2.specs.declared.h2.Phase.TheVariants.{Reading}
use Rattle.mq_h2.specs.State.{State}
use Rattle.mq_h2.specs.Stand.{IsPhase, IsH2}
use Rattle.mq_h2.proofs.Phases.{Reads}
use Rattle.mq_h2.proofs.h2.H2.begun.Goals as goal

-- a reading core reads
reads : (v : H2) (s : State) → v.phase ≡ Reading → IsH2 v s → Reads v s
reads v s e is =
    let phase : IsPhase Reading v s = subst (λ (p : Phase). IsPhase p v s) e is.phase in
    record { stands = phase.0; goes = phase.1 }

pub returns-then-begun : goal.returns-then-begun
returns-then-begun c = λ s is.
    let r = reads c.args.self.now s c.in-Reading.is is in
    let b = c.begun.ensures s.read r.stands in
    (λ yes. (r.goes.decodes.on, inl (b.0 yes)), λ begun. c.if-begun.true)

pub returns-else-begun : goal.returns-else-begun
returns-else-begun c = λ s is.
    let r = reads c.args.self.now s c.in-Reading.is is in
    let b = c.begun.ensures s.read r.stands in
    let same : c.is_some.result ≡ is_some s.block = c.is_some.ensures ∙ ap (λ (x : Option OpenBlock). is_some x) r.goes.block in (
      λ yes. (r.goes.decodes.on, inr (sym same ∙ yes)),
      λ begun. elim begun.1 [
        | inl x ↦ absurd (let t = b.1 x in let f = c.if-begun.false in cc)
        | inr x ↦ same ∙ x
      ],
    )
