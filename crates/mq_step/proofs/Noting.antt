-- A note was told where something was done.
use Rattle.std.proofs.Common.{◌≡◌, Option, Some, None, Result, Ok, Err, refl}
use Rattle.mq_talk.specs.declared.note.Note.{Note}
use Rattle.mq_held.specs.declared.went.Went.TheVariants as done
use Rattle.mq_held.specs.Notes.{WentWith, went_by}
use Rattle.mq_held.specs.Notes as went
use Rattle.mq_step.specs.declared.stepped.Stepped.{Stepped}
use Rattle.mq_step.specs.declared.stepped.Stepped.TheVariants as stepped
use Rattle.mq_step.specs.Notes.{SteppedWith, Quiet, Noteless, stepped_by}

pub did_told : (P : WentWith → Type 0) → (P went.Noteless → ⊥) → (told : Option Note) → P (went_by done.Did told)
    → (said : Note) × (told ≡ Some said) × P (went.Did said)
did_told P none None gives = absurd (none gives)
did_told P none (Some said) gives = (said, refl, gives)

-- a step that isn't quiet isn't so with its note, either
pub loud_by : (s : Stepped) (told : Option Note) → (s ≡ stepped.Quiet → ⊥) → stepped_by s told ≡ Quiet → ⊥
loud_by stepped.Quiet told loud is = loud refl
loud_by stepped.Did None loud is = absurd cc
loud_by stepped.Did (Some said) loud is = absurd cc
loud_by stepped.Ended None loud is = absurd cc
loud_by stepped.Ended (Some said) loud is = absurd cc
