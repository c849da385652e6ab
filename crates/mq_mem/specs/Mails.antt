-- Inboxes in memory, of which one actor at a time is served.
use Rattle.std.specs.Prelude.{◌≡◌, ℕ, ◌<◌, ◌≤◌, ◌++◌, ◌∷◌, Bool, true, false, List, [], zero, suc, length, Option, Some, None}
use Rattle.mq_talk.specs.declared.place.Parcel.{Parcel}
use Rattle.mq_talk.specs.declared.place.Pushed.{Pushed}
use Rattle.mq_talk.specs.declared.place.Pushed.TheVariants as pushed
use Rattle.mq_talk.specs.Mails.{Boxes, IsParcel, Inboxes}

pub record Mail : Type 0 where
  pub boxes : Boxes
  pub actor : ℕ

-- one push into an inbox
abbrev pub Pushes : List Parcel → Parcel → Pushed → List Parcel → Type 0
Pushes box parcel pushed.Taken after = (length box < 256) × (after ≡ box ++ parcel ∷ [])
Pushes box parcel (pushed.Full back) after = (256 ≤ length box) × (after ≡ box) × (back ≡ parcel)

-- one pop of an inbox
abbrev pub Pops : List Parcel → Option Parcel → List Parcel → Type 0
Pops box None after = (box ≡ []) × (after ≡ box)
Pops box (Some parcel) after = (box ≡ parcel ∷ after) × IsParcel parcel

abbrev pub is_waiting : List Parcel → Bool
is_waiting [] = false
is_waiting (parcel ∷ parcels) = true

-- what such a mail tells: its inboxes, and so nothing of what its actor moved
abbrev pub shown : Boxes → Inboxes
shown boxes = record { told = Some boxes; went = None }

abbrev pub empty_boxes : ℕ → Boxes
empty_boxes zero = []
empty_boxes (suc count) = [] ∷ empty_boxes count
