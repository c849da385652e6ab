-- What `Template::parse` answers.
use Rattle.std.specs.Prelude.{◌≡◌, ℕ, List, Result, Ok, Err}
use Rattle.mq_addr.specs.declared.kind.Kind.{Kind}
use Rattle.mq_target.specs.declared.fault.TemplateFault.{TemplateFault}
use Rattle.mq_target.specs.declared.fault.TemplateFault.TheVariants.{Syntax, Variables, NoMemory}
use Rattle.mq_target.specs.Form.{HasForm}
use Rattle.mq_target.specs.Template.{Shape, IsTemplate, NoTemplate}

-- The template that the text is; Variables where the text is none of this kind and has the form of one; Syntax where
-- it hasn't even the form. Of want of memory nothing is told.
abbrev pub ParsesTemplate : Kind → List ℕ → Result Shape TemplateFault → Type 0
ParsesTemplate kind text (Ok shape) = (shape.kind ≡ kind) × IsTemplate text shape
ParsesTemplate kind text (Err Variables) = HasForm text × NoTemplate kind text
ParsesTemplate kind text (Err Syntax) = ¬ (HasForm text) × NoTemplate kind text
ParsesTemplate kind text (Err NoMemory) = Unit {0}
