-- What the parts of a call in its turn need and do. Only the crate's own functions cite this.
use Rattle.std.specs.Prelude.{◌≡◌, ℕ, List, [], ◌∷◌, Option, Some, None}
use Rattle.atomic_table.specs.declared.shared.Seat.{Seat}
use Rattle.mq_turn.specs.declared.view.Stage.TheVariants.{Idle, Waiting, Serving}
use Rattle.mq_turn.specs.declared.view.View.{View}
use Rattle.mq_turn.specs.History.{Adds}
use Rattle.mq_turn.specs.Passes.{TurnOf}
use Rattle.mq_turn.specs.Steps.{Seated, GoesOn}

abbrev pub SeatOf : Type 0 → Type 0 → Type 0 → Type 0
SeatOf V E S = Seat (Option V) (View E S)

-- the seat is one of this turn, and no other took it in
pub record IsAt {V E S : Type 0} (turn : TurnOf S) (seat : SeatOf V E S) : Type 0 where
  pub turn_is : seat.table_id ≡ turn.id
  pub settings_are : seat.me.0.settings ≡ Some turn.settings

-- it is the same seat, and knows this now
pub record IsNow {V E S : Type 0} (old new : SeatOf V E S) (me : Seated V E S) : Type 0 where
  pub turn_is : new.table_id ≡ old.table_id
  pub id_is : new.id ≡ old.id
  pub me_is : new.me ≡ me

module _ {V E S : Type 0} where
  abbrev pub waiting : Seated V E S → ℕ → Seated V E S
  waiting me ticket = (record me.0 { stage = Waiting ticket }, [])

  -- it is served, and the value is out of its slot
  abbrev pub serving : Seated V E S → ℕ → List E → Seated V E S
  serving me ticket history = (record me.0 { stage = Serving ticket; seen = history }, (0, None) ∷ [])

  abbrev pub passed : Seated V E S → List E → Seated V E S
  passed me history = (record me.0 { stage = Idle; seen = history }, [])

module _ {V E S : Type 0} (settings_of : V → S) (history_of : V → List E) (maker : E → ℕ) (is_sound : S → List E → Type 0) where
  -- the value was taken out of its slot
  pub record Took (old : SeatOf V E S) (ticket : ℕ) (value : V) (new : SeatOf V E S) : Type 0 where
    pub now : IsNow old new (serving old.me ticket (history_of value))
    pub goes_on : GoesOn settings_of history_of maker is_sound old.me.0 value

  -- who is served may put back this value
  pub record MayPutBack (seat : SeatOf V E S) (ticket : ℕ) (value : V) : Type 0 where
    pub stage : seat.me.0.stage ≡ Serving ticket
    pub slot : seat.me.1 ≡ (0, None) ∷ []
    pub settings : seat.me.0.settings ≡ Some (settings_of value)
    pub adds : Adds maker seat.me.0.number seat.me.0.seen (history_of value)
    pub sound : is_sound (settings_of value) (history_of value)
