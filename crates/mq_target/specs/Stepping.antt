-- What one step over a template's text tells.
use Rattle.std.specs.Prelude.{ℕ, ◌<◌, ◌↔◌, IsTrue, List, length}
use Rattle.mq_target.specs.declared.form.Step.{Step}
use Rattle.mq_target.specs.declared.form.Step.TheVariants.{Ends, GoesOn}
use Rattle.mq_target.specs.Form.{HasRuns}

-- the answer is this, or it is that of a shorter text
abbrev pub IsStep : List ℕ → Step → Type 0
IsStep text (Ends answer) = IsTrue answer ↔ HasRuns text
IsStep text (GoesOn rest) = (length rest.now < length text) × (HasRuns rest.now ↔ HasRuns text)
