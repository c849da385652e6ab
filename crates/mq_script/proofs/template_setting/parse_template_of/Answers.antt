use Rattle.std.proofs.Common.{ℕ, List, subst}
use Rattle.mq_addr.specs.declared.kind.Kind.{Kind}
use Rattle.mq_target.specs.Template.{IsTemplate, NoTemplate, Shape}
use Rattle.mq_play.specs.Settings.{IsTemplateOf}
use Rattle.mq_script.proofs.template_setting.parse_template_of.Goals as goal

-- the text is no template of this kind
no_template : (kind : Kind) (text : List ℕ) → NoTemplate kind text → (shape : Shape) → IsTemplateOf kind text shape → ⊥
no_template kind text none shape h =
    none shape.order shape.before shape.between shape.after
    (subst (λ (k : Kind). IsTemplate text (record { kind = k; order = shape.order; before = shape.before; between = shape.between; after = shape.after })) h.1 h.0)

pub returns-in-Err-Syntax : goal.returns-in-Err-Syntax
returns-in-Err-Syntax c =
    let told = rw c.in-Err-Syntax.field-0-is at c.in-Err-Syntax.ensures in
    no_template c.args.kind c.args.text.now told.1

pub returns-in-Err-Variables : goal.returns-in-Err-Variables
returns-in-Err-Variables c =
    let told = rw c.in-Err-Variables.field-0-is at c.in-Err-Variables.ensures in
    no_template c.args.kind c.args.text.now told.1
