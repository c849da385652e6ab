-- What a reader keeps of an unfinished capsule, and what a step of it does.
use Rattle.std.specs.Prelude.{◌≡◌, ℕ, ◌+◌, ◌<◌, ◌≤◌, List, [], ◌++◌, length, take, drop, Option, Some, None, Bool, true, false, not, ◌==◌, option_to_list}
use Rattle.std.specs.List.{filter_map, list_any}
use Rattle.mq_capsule.specs.declared.front.Plan.{Plan}
use Rattle.mq_capsule.specs.declared.front.Plan.TheVariants.{Keep, Skip}
use Rattle.mq_capsule.specs.declared.front.Kept.{Kept}
use Rattle.mq_capsule.specs.declared.front.Kept.TheVariants as kept
use Rattle.mq_capsule.specs.declared.front.Skipped.{Skipped}
use Rattle.mq_capsule.specs.declared.front.Skipped.TheVariants as skipped
use Rattle.mq_capsule.specs.declared.item.Item.{Item}
use Rattle.mq_capsule.specs.declared.item.Item.TheVariants as item
use Rattle.mq_capsule.specs.declared.state.State.{State}
use Rattle.mq_capsule.specs.declared.state.State.TheVariants as state
use Rattle.mq_capsule.specs.declared.step.Step.{Step}
use Rattle.mq_capsule.specs.declared.step.WholeCapsule.{WholeCapsule}
use Rattle.mq_capsule.specs.Capsule.{Capsule, AreCapsules, head_of}
use Rattle.mq_capsule.specs.Items.{ItemsOf, item_of, head_items, is_bad}
use Rattle.mq_capsule.specs.Fronts.{front_of}

-- what a capsule says that was kept, and one that was not
abbrev pub kept_item : Kept → List ℕ → Item
kept_item (kept.Payload context) bytes = item.Datagram context bytes
kept_item (kept.Control kind) bytes = item.Control kind bytes

abbrev pub skipped_item : Skipped → Option Item
skipped_item (skipped.Payload context size) = Some (item.TooLongDatagram context size)
skipped_item skipped.Other = None

-- the rest is a front and the bytes kept behind it, and so many are missing
pub record IsKept (control : Bool) (what : Kept) (bytes : List ℕ) (missing : ℕ) (rest : List ℕ) : Type 0 where
  pub used : ℕ
  pub front : front_of control rest ≡ Some (record { plan = Keep what (length bytes + missing); used = used })
  pub bytes_are : bytes ≡ drop used rest

-- the rest is a front and bytes that were read past, and so many are missing
pub record IsSkipped (control : Bool) (what : Skipped) (missing : ℕ) (rest : List ℕ) : Type 0 where
  pub used : ℕ
  pub size : ℕ
  pub front : front_of control rest ≡ Some (record { plan = Skip what size; used = used })
  pub count : length rest + missing ≡ used + size

-- the state keeps what is needed of the first bytes of a capsule
abbrev pub Holds : Bool → State → List ℕ → Type 0
Holds control (state.Front head) rest = (rest ≡ head.items) × (front_of control rest ≡ None)
Holds control (state.Keep what bytes missing) rest = IsKept control what bytes.items missing rest × (0 < missing)
Holds control (state.Skip what missing) rest = IsSkipped control what missing rest × (0 < missing)
Holds control state.Ended rest = ⊥
Holds control state.Spent rest = ⊥

-- bytes of an unfinished capsule were read
abbrev pub is_begun : State → Bool
is_begun (state.Front head) = not (length head.items == 0)
is_begun (state.Keep what bytes missing) = true
is_begun (state.Skip what missing) = true
is_begun state.Ended = false
is_begun state.Spent = false

-- the next byte begins a capsule; where nothing is read any more none does
abbrev pub is_between : State → Bool
is_between (state.Front head) = length head.items == 0
is_between (state.Keep what bytes missing) = false
is_between (state.Skip what missing) = false
is_between state.Ended = false
is_between state.Spent = false

-- the bytes are whole capsules that say these items, none bad, and a rest that the state holds
pub record IsOpen (control : Bool) (s : State) (bytes : List ℕ) (items : List Item) : Type 0 where
  pub capsules : List Capsule
  pub rest : List ℕ
  pub are : AreCapsules bytes capsules rest
  pub items_are : items ≡ filter_map (item_of control) capsules
  pub none_bad : list_any is_bad items ≡ false
  pub no_fault_yet : head_items control (head_of rest) ≡ []
  pub holds : Holds control s rest

-- the bytes say these items, and one is bad
pub record IsEnded (control : Bool) (bytes : List ℕ) (items : List Item) : Type 0 where
  pub are : ItemsOf control bytes items
  pub bad : list_any is_bad items ≡ true

-- the state is that of a reader that was fed these bytes, and gave these items
abbrev pub IsAt : Bool → State → List ℕ → List Item → Type 0
IsAt control (state.Front head) bytes items = IsOpen control (state.Front head) bytes items
IsAt control (state.Keep what part missing) bytes items = IsOpen control (state.Keep what part missing) bytes items
IsAt control (state.Skip what missing) bytes items = IsOpen control (state.Skip what missing) bytes items
IsAt control state.Ended bytes items = IsEnded control bytes items
IsAt control state.Spent bytes items = ⊥

-- a step took bytes of the piece, behind the first bytes of a capsule
pub record IsStep (control : Bool) (rest piece : List ℕ) (s : Step) : Type 0 where
  pub at : IsAt control s.state (rest ++ take s.used piece) (option_to_list s.told)

-- the piece begins with this capsule, which is kept, and has all its bytes
abbrev pub BeginsWhole : Bool → List ℕ → WholeCapsule → Type 0
BeginsWhole control piece whole =
    (front_of control piece ≡ Some (record { plan = Keep whole.what whole.length; used = whole.front })) × (whole.front + whole.length ≤ length piece)

-- a step that took the whole piece, with which nothing is whole
abbrev pub all_taken : State → List ℕ → Step
all_taken s piece = record { state = s; told = None; used = length piece }

-- from whatever the state holds, a step of the piece leads there
abbrev pub LeadsTo : Bool → State → List ℕ → Step → Type 0
LeadsTo control s piece step = (rest : List ℕ) → Holds control s rest → IsStep control rest piece step

-- and it takes a byte at least, where there is one
abbrev pub StepTakesByte : Bool → State → List ℕ → ℕ → Type 0
StepTakesByte control s piece used = (rest : List ℕ) → Holds control s rest → 0 < length piece → 0 < used

-- it takes all of the piece, or leaves nothing unfinished
abbrev pub GoesFar : List ℕ → Step → Type 0
GoesFar piece step = step.used < length piece → is_begun step.state ≡ false

-- from a front that has just come
abbrev pub LeadsFrom : Plan → List ℕ → Step → Type 0
LeadsFrom plan piece step =
    (control : Bool) (rest : List ℕ) → front_of control rest ≡ Some (record { plan = plan; used = length rest }) → IsStep control rest piece step

-- from a capsule of which bytes are missing
abbrev pub LeadsFromKept : Kept → List ℕ → ℕ → List ℕ → Step → Type 0
LeadsFromKept what bytes missing piece step = (control : Bool) (rest : List ℕ) → IsKept control what bytes missing rest → IsStep control rest piece step

abbrev pub LeadsFromSkipped : Skipped → ℕ → List ℕ → Step → Type 0
LeadsFromSkipped what missing piece step = (control : Bool) (rest : List ℕ) → IsSkipped control what missing rest → IsStep control rest piece step

-- behind a bad item bytes change nothing
abbrev pub StaysEnded : State → List ℕ → Step → Type 0
StaysEnded (state.Front head) piece s = Unit {0}
StaysEnded (state.Keep what part missing) piece s = Unit {0}
StaysEnded (state.Skip what missing) piece s = Unit {0}
StaysEnded state.Ended piece s = (s.state ≡ state.Ended) × (s.told ≡ None) × (s.used ≡ length piece)
StaysEnded state.Spent piece s = Unit {0}
