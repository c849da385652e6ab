-- What a reader stands for: the bytes that it was fed.
use Rattle.std.specs.Prelude.{◌≡◌, ℕ, ◌<◌, ◌≤◌, ◌↔◌, List, ◌++◌, length, take, Option, Some, None, Bool}
use Rattle.std.specs.List.{AllByRecursion}
use Rattle.mq_capsule.specs.declared.front.Front.{Front}
use Rattle.mq_capsule.specs.declared.front.Plan.{Plan}
use Rattle.mq_capsule.specs.declared.front.Plan.TheVariants.{Keep, Skip, Stop}
use Rattle.mq_capsule.specs.declared.item.Item.{Item}
use Rattle.mq_capsule.specs.declared.state.State.{State}
use Rattle.mq_capsule.specs.declared.state.State.TheVariants as state
use Rattle.mq_capsule.specs.declared.reader.Reader.{Reader}
use Rattle.mq_capsule.specs.Capsule.{Capsule, AreCapsules}
use Rattle.mq_capsule.specs.Items.{ItemsOf, IsSized, EndsInside}
use Rattle.mq_capsule.specs.Fronts.{front_of}
use Rattle.mq_capsule.specs.Steps.{IsAt}

-- the reader was fed these bytes, and gave these items
pub record HasRead (r : Reader) (control : Bool) (bytes : List ℕ) (items : List Item) : Type 0 where
  pub control_is : r.control ≡ control
  pub at : IsAt control r.state bytes items

-- the reader, which tells control capsules or doesn't, was fed these bytes
abbrev pub Stands : Reader → Bool → List ℕ → Type 0
Stands r control bytes = (items : List Item) × HasRead r control bytes items

-- a reader that was fed some bytes was fed the piece too
abbrev pub StandsOn : Reader → Reader → List ℕ → Type 0
StandsOn old new piece = (control : Bool) (bytes : List ℕ) → Stands old control bytes → Stands new control (bytes ++ piece)

-- the answer tells whether the bytes that the reader was fed end inside a capsule
abbrev pub TellsBegun : Reader → Type 0 → Type 0
TellsBegun r answer = (control : Bool) (bytes : List ℕ) → Stands r control bytes → answer ↔ EndsInside control bytes

-- of a piece that isn't empty, a byte was taken at least
abbrev pub TakesByte : Reader → List ℕ → ℕ → Type 0
TakesByte r piece used = (control : Bool) (bytes : List ℕ) → Stands r control bytes → 0 < length piece → 0 < used

-- where bytes of a piece are left, the data stream doesn't end inside a capsule with those that were taken
abbrev pub StopsAtBoundary : Reader → List ℕ → ℕ → Type 0
StopsAtBoundary r piece used =
    used < length piece → (control : Bool) (bytes : List ℕ) → Stands r control bytes
    → EndsInside control (bytes ++ take used piece) → ⊥

-- memory ran out in the reader
abbrev pub IsSpent : Reader → Type 0
IsSpent r = r.state ≡ state.Spent

-- a piece leads a reader on, with these items
abbrev pub Went : Reader → Reader → List ℕ → List Item → Type 0
Went old new piece more =
    (control : Bool) (bytes : List ℕ) (items : List Item) → HasRead old control bytes items
    → HasRead new control (bytes ++ piece) (items ++ more)

-- and those go to the end of a list
abbrev pub Reads : Reader → Reader → List ℕ → List Item → List Item → Type 0
Reads old new piece before after = (more : List Item) × (after ≡ before ++ more) × Went old new piece more

-- The items that a piece gives: whatever bytes the reader was fed, with the piece they say these items beyond those that
-- they said before.
abbrev pub GivesItems : Reader → List ℕ → List Item → Type 0
GivesItems r piece given =
    (control : Bool) (bytes : List ℕ) (items : List Item) → Stands r control bytes → ItemsOf control bytes items
    → ItemsOf control (bytes ++ piece) (items ++ given)

-- each of them keeps to the limits
abbrev pub AreSized : Reader → List Item → Type 0
AreSized r given = (control : Bool) (bytes : List ℕ) → Stands r control bytes → AllByRecursion IsSized given

-- how many bytes of a data stream the reader keeps
abbrev pub kept : State → ℕ
kept (state.Front head) = length head.items
kept (state.Keep what bytes missing) = length bytes.items
kept (state.Skip what missing) = 0
kept state.Ended = 0
kept state.Spent = 0

abbrev pub held : Reader → ℕ
held r = kept r.state

-- how many bytes of a capsule with this front are kept at most: of one that is read past none
abbrev pub planned : Plan → ℕ
planned (Keep what size) = size
planned (Skip what size) = 0
planned (Stop fault) = 0

abbrev pub room_of : Option Front → ℕ
room_of None = 23
room_of (Some front) = planned front.plan

-- the reader keeps so many bytes at most
abbrev pub KeepsAtMost : ℕ → Reader → Reader → Type 0
KeepsAtMost limit old new = (control : Bool) (bytes : List ℕ) → Stands old control bytes → held new ≤ limit

-- and of what stands behind the whole capsules no more than its front asks for
abbrev pub KeepsFew : Reader → Reader → List ℕ → Type 0
KeepsFew old new piece =
    (control : Bool) (bytes : List ℕ) (capsules : List Capsule) (rest : List ℕ) → Stands old control bytes
    → AreCapsules (bytes ++ piece) capsules rest → held new ≤ room_of (front_of control rest)
