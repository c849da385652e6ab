use Rattle.std.proofs.Common.{refl, ◌∙◌, sym}
use Rattle.mq_script.specs.declared.generator.Next.TheVariants.{Nothing}
use Rattle.mq_script.specs.Left.{left_of}
use Rattle.mq_script.proofs.Generating.{some_left, told}
use Rattle.mq_script.proofs.generator.Generator.is_done.Goals as goal

pub returns-in-Nothing : goal.returns-in-Nothing
unfolding left_of
returns-in-Nothing c =
    let s = c.self.inside in
    (λ _. told c.args.self.now s.next Nothing s.state s.packet s.left c.self.view_is c.in-Nothing.is, λ _. refl)

pub returns-in_default : goal.returns-in_default
returns-in_default c =
    let s = c.self.inside in
    let parts = some_left s.next s.state s.packet s.left c.self.invariant.0 c.in_default.not-Nothing in
    (λ is. cc is, λ none. let is = sym parts.is ∙ c.self.view_is ∙ none in absurd (cc is))
