-- What who hears a play promises.
use Rattle.std.specs.Prelude.{ℕ, List, [], Option, Some, None, Result, Ok, Err}
use Rattle.mq_machine.specs.Silent.{Reached}
use Rattle.mq_play.specs.Play.{Fate, Noted, Silent}
use Rattle.mq_play.specs.Text.{printed, Says}
use Rattle.mq_talk.specs.declared.note.Note.{Note}
use Rattle.mq_output.specs.declared.stop.Stop.{Stop}
use Rattle.mq_output.specs.declared.stop.Stop.TheVariants.{BadLine, WriteFault, NoMemory}
use Rattle.mq_wire.specs.declared.NoMemory as wire

-- a text was heard, though the sink may have failed then; or memory ran out before that
abbrev pub HearsTo : {A : Type 0} → (A → A → List ℕ → Type 0) → A → A → List ℕ → Result (Unit {0}) Stop → Type 0
HearsTo Hears old new text (Ok done) = Hears old new text
HearsTo Hears old new text (Err WriteFault) = Hears old new text
HearsTo Hears old new text (Err NoMemory) = Hears old new []
HearsTo Hears old new text (Err BadLine) = ⊥

-- what a step told was heard; where it told nothing, nothing was
abbrev pub HearsTold : {A : Type 0} → (A → A → List ℕ → Type 0) → A → A → Option Note → Result (Unit {0}) Stop → Type 0
HearsTold Hears old new None (Ok done) = Hears old new []
HearsTold Hears old new None (Err why) = ⊥
HearsTold Hears old new (Some note) result = HearsTo Hears old new (printed (Says note)) result

-- the play goes on behind a step that was refused memory only where that may be heard
abbrev pub GoesOnBehind : (Fate → Type 0) → Result (Unit {0}) wire.NoMemory → Type 0
GoesOnBehind May (Ok done) = (reached : Reached) → May (Silent reached)
GoesOnBehind May (Err e) = Unit {0}

-- whatever the step
abbrev pub MayBeAny : Fate → Type 0
MayBeAny fate = Unit {0}

-- a step that gave a note
abbrev pub IsNoted : Fate → Type 0
IsNoted Noted = Unit {0}
IsNoted (Silent reached) = ⊥

-- no step
abbrev pub MayBeNone : Fate → Type 0
MayBeNone fate = ⊥
