-- Parcels with their pushers and places.
use Rattle.std.specs.Prelude.{◌≡◌, ℕ, suc, List, [], ◌∷◌, ◌++◌, length, filter, nat_eq, slice_get}
use Rattle.std.specs.Option.{unwrap_or}
use Rattle.mq_talk.specs.declared.place.Parcel.{Parcel}
use Rattle.mq_talk.specs.Mails.{IsParcel}
use Rattle.mq_mail.specs.declared.inbox_rule.Letter.{Letter}

abbrev pub letter : ℕ → ℕ → Parcel → Letter
letter pusher place parcel = record { pusher = pusher; place = place; parcel = parcel }

-- the parcels that one actor pushed, numbered in order
abbrev pub letters_from : ℕ → ℕ → List Parcel → List Letter
letters_from pusher place [] = []
letters_from pusher place (x ∷ xs) = letter pusher place x ∷ letters_from pusher (suc place) xs

abbrev pub letters : ℕ → List Parcel → List Letter
letters pusher parcels = letters_from pusher 0 parcels

-- the letters of one pusher
abbrev pub of : ℕ → List Letter → List Letter
of pusher all = filter (λ (l : Letter). nat_eq l.pusher pusher) all

-- what each actor pushed
abbrev pub pushed_by : List (List Parcel) → ℕ → List Parcel
pushed_by pushed p = unwrap_or (slice_get pushed p) []

-- each has a well-formed packet
abbrev pub AreParcels : List Letter → Type 0
AreParcels [] = Unit {0}
AreParcels (x ∷ xs) = IsParcel x.parcel × AreParcels xs

-- of each pusher they are some parcels, numbered 0, 1, 2, in order
abbrev pub AreNumbered : List Letter → Type 0
AreNumbered all = (p : ℕ) → (parcels : List Parcel) × (of p all ≡ letters p parcels)

-- behind what was popped, these wait, and what one actor pushed is what was popped of it and what waits of it
pub record IsAmong (pusher : ℕ) (pushed : List Parcel) (waiting : List Letter) : Type 0 where
  pub popped : List Letter
  pub mine : of pusher (popped ++ waiting) ≡ letters pusher pushed

-- a letter is the next of its pusher's, behind those that were popped
pub record IsNext (popped : List Letter) (x : Letter) : Type 0 where
  pub place : x.place ≡ length (of x.pusher popped)
  pub parcel : IsParcel x.parcel
