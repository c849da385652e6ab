-- A run: what happens to the machine, and the steps of its actors, one after the other.
use Rattle.std.specs.Prelude.{◌≡◌, ℕ, false, List, [], ◌∷◌}
use Rattle.std.specs.List.{flat_map}
use Rattle.mq_talk.specs.declared.note.Note.{Note}
use Rattle.mq_machine.specs.declared.event.Event.{Event}
use Rattle.mq_machine.specs.State.{State}
use Rattle.mq_machine.specs.Silent.{Reached, SilentTurn}
use Rattle.mq_machine.specs.Turn.{Actor, Turn}
use Rattle.mq_play.specs.declared.plan.Plan.{Plan}
use Rattle.mq_play.specs.Events.{state_of, happen, is_missing}
use Rattle.mq_play.specs.Settings.{IsPlan}
use Rattle.mq_play.specs.Text.{Print, Says, Idle, More, Bad, printed}

-- an event that names what there is, the step of an actor with its note, or one that was refused memory when it had come so far
pub data Moment : Type 0 where
  Happened : (event : Event) → Moment
  Noted : (actor : Actor) (note : Note) → Moment
  Refused : (actor : Actor) (reached : Reached) → Moment

abbrev pub Goes : State → Moment → State → Type 0
Goes old (Happened event) new = (is_missing old event ≡ false) × (new ≡ happen old event)
Goes old (Noted actor note) new = Turn old actor note new
Goes old (Refused actor reached) new = SilentTurn old actor reached new

-- the moments, in order, lead from old to new
abbrev pub Run : State → List Moment → State → Type 0
Run old [] new = new ≡ old
Run old (moment ∷ moments) new = (mid : State) × Goes old moment mid × Run mid moments new

-- the notes of these moments
abbrev pub notes_of : List Moment → List Note
notes_of [] = []
notes_of (Happened event ∷ moments) = notes_of moments
notes_of (Noted actor note ∷ moments) = note ∷ notes_of moments
notes_of (Refused actor reached ∷ moments) = notes_of moments

-- the notes among what is printed: what else is printed says that an actor had no step left, or that one has
abbrev pub notes_in : List Print → List Note
notes_in [] = []
notes_in (Says note ∷ prints) = note ∷ notes_in prints
notes_in (Idle actor ∷ prints) = notes_in prints
notes_in (More ∷ prints) = notes_in prints
notes_in (Bad number ∷ prints) = notes_in prints

-- A run from the first state of a plan leads there, and this text is what its notes print, in order, with such lines between.
pub record IsRunOf (text : List ℕ) (last : State) : Type 0 where
  pub plan : Plan
  pub moments : List Moment
  pub prints : List Print
  pub is_plan : IsPlan plan
  pub run : Run (state_of plan) moments last
  pub text_is : text ≡ flat_map printed prints
  pub notes_are : notes_in prints ≡ notes_of moments

-- The moment comes in a run from the first state of a plan: at this state, behind these moments, and the run leads on to last.
pub record Comes (plan : Plan) (here : State) (moment : Moment) (last : State) : Type 0 where
  pub before : List Moment
  pub next : State
  pub after : List Moment
  pub reaches : Run (state_of plan) before here
  pub goes : Goes here moment next
  pub leads_on : Run next after last
