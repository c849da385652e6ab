-- The inboxes of the actors: one for each worker, and the last is the pump's.
use Rattle.std.specs.Prelude.{◌≡◌, ⊤, ℕ, ◌+◌, ◌≤◌, Bool, true, false, List, [], ◌∷◌, ◌++◌, length, nat_lt, slice_get, slice_set, Option, Some, None, option_map, IsSome}
use Rattle.std.specs.Option.{is_some, unwrap_or}
use Rattle.mq_talk.specs.declared.place.Parcel.{Parcel}
use Rattle.mq_talk.specs.declared.place.Place.{Place}
use Rattle.mq_talk.specs.declared.place.Place.TheVariants as place
use Rattle.mq_talk.specs.declared.place.Pushed.{Pushed}
use Rattle.mq_talk.specs.declared.place.Pushed.TheVariants as pushed
use Rattle.mq_talk.specs.Packets.{flow_of}

abbrev pub Boxes : Type 0
Boxes = List (List Parcel)

-- the most parcels of an inbox
abbrev pub most_parcels : ℕ
most_parcels = 256

abbrev pub box_at : Boxes → ℕ → List Parcel
box_at boxes i = unwrap_or (slice_get boxes i) []

abbrev pub has_room : Boxes → ℕ → Bool
has_room boxes i = nat_lt (length (box_at boxes i)) most_parcels

-- a parcel goes to the back of an inbox
abbrev pub with_parcel : Boxes → ℕ → Parcel → Boxes
with_parcel boxes i parcel = slice_set boxes i (box_at boxes i ++ parcel ∷ [])

-- what isn't told is free
abbrev pub IsTold : {A : Type 0} → Option A → A → Type 0
IsTold None a = ⊤
IsTold (Some told) a = a ≡ told

-- a well-formed IP packet
pub record IsPacket (bytes : List ℕ) : Type 0 where
  pub size : length bytes ≤ 65535
  pub packet : IsSome (flow_of bytes)

-- a parcel has one
abbrev pub IsParcel : Parcel → Type 0
IsParcel parcel = IsPacket parcel.packet

-- the inbox of a place, where so many workers have theirs before the pump's
abbrev pub inbox_in : ℕ → Place → ℕ
inbox_in workers (place.Tunnel tunnel actor) = actor
inbox_in workers place.Net = workers

-- there is one for this place
abbrev pub HasInbox : ℕ → Place → Type 0
HasInbox workers to = inbox_in workers to ≤ workers

-- a push is taken where the inbox has room, and else handed back
abbrev pub PushDoes : Pushed → Boxes → ℕ → Parcel → Boxes → Type 0
PushDoes pushed.Taken old to parcel new = (has_room old to ≡ true) × (new ≡ with_parcel old to parcel)
PushDoes (pushed.Full back) old to parcel new = (has_room old to ≡ false) × (new ≡ old) × (back ≡ parcel)

-- a pop takes the front of the own inbox, and nothing where that is empty
abbrev pub PopDoes : Option Parcel → Boxes → ℕ → Boxes → Type 0
PopDoes None old of new = (box_at old of ≡ []) × (new ≡ old)
PopDoes (Some parcel) old of new = (rest : List Parcel) × (slice_get old of ≡ Some (parcel ∷ rest)) × (new ≡ slice_set old of rest) × IsParcel parcel

-- what a call moved: nothing, a parcel that was pushed to an inbox, with the answer, or one that was popped from an inbox
pub data Moved : Type 0 where
  Nothing : Moved
  Put : (to : ℕ) (parcel : Parcel) (answer : Pushed) → Moved
  Got : (of : ℕ) (parcel : Parcel) → Moved

abbrev pub moved_by : ℕ → Option Parcel → Moved
moved_by of None = Nothing
moved_by of (Some parcel) = Got of parcel

abbrev pub MovedDoes : Moved → Boxes → Boxes → Type 0
MovedDoes Nothing old new = new ≡ old
MovedDoes (Put to parcel answer) old new = PushDoes answer old to parcel new
MovedDoes (Got of parcel) old new = PopDoes (Some parcel) old of new

-- All that an actor moved: what each inbox took, by its number, and what it popped of its own; how many parcels were handed
-- back, and by which inbox the last of them.
pub record Went : Type 0 where
  pub taken : List (List Parcel)
  pub popped : List Parcel
  pub back : ℕ
  pub back_by : ℕ

abbrev pub went_after : Moved → Went → Went
went_after Nothing w = w
went_after (Put to parcel pushed.Taken) w = record w { taken = slice_set w.taken to (unwrap_or (slice_get w.taken to) [] ++ parcel ∷ []) }
went_after (Put to parcel (pushed.Full back)) w = record w { back = w.back + 1; back_by = to }
went_after (Got of parcel) w = record w { popped = w.popped ++ parcel ∷ [] }

-- An actor's mail: the inboxes, and all that the actor moved, each where the mail tells it.
pub record Inboxes : Type 0 where
  pub told : Option Boxes
  pub went : Option Went

-- what a push answers: between inboxes with which that fits what is told
pub record PushGives (count : ℕ) (old : Inboxes) (to : ℕ) (parcel : Parcel) (answer : Pushed) (new : Inboxes) : Type 0 where
  pub before : Boxes
  pub after : Boxes
  pub size : length before ≡ count
  pub was : IsTold old.told before
  pub is : IsTold new.told after
  -- a mail that tells goes on so, and so does one that doesn't
  pub tells : is_some new.told ≡ is_some old.told
  pub does : PushDoes answer before to parcel after
  pub goes : new.went ≡ option_map (went_after (Put to parcel answer)) old.went

pub record PopGives (count : ℕ) (old : Inboxes) (of : ℕ) (answer : Option Parcel) (new : Inboxes) : Type 0 where
  pub before : Boxes
  pub after : Boxes
  pub size : length before ≡ count
  pub was : IsTold old.told before
  pub is : IsTold new.told after
  pub tells : is_some new.told ≡ is_some old.told
  pub does : PopDoes answer before of after
  pub goes : new.went ≡ option_map (went_after (moved_by of answer)) old.went

-- a pop that gave nothing, as a mail counts it that doesn't tell its inboxes
abbrev pub one_missed : Option Boxes → ℕ → ℕ
one_missed None missed = missed + 1
one_missed (Some boxes) missed = missed

-- what was missed behind a pop that gave this
abbrev pub missed_by : {A : Type 0} → Option A → Option Boxes → ℕ → ℕ
missed_by None told missed = one_missed told missed
missed_by (Some parcel) told missed = missed

-- A step moved one parcel at most, and that led from the inboxes before it to those behind.
pub record MailMoves (old new : Inboxes) (before after : Boxes) : Type 0 where
  pub moved : Moved
  pub goes : new.went ≡ option_map (went_after moved) old.went
  pub does : MovedDoes moved before after
