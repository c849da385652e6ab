-- What a clause says of a post with its inboxes, and of an actor's key to it.
use Rattle.std.specs.Prelude.{◌≡◌, ℕ, zero, suc, List, [], ◌∷◌, ◌++◌, length, map, Option, Some, None}
use Rattle.std.specs.Prelude.{slice_get, slice_set}
use Rattle.std.specs.Option.{unwrap_or}
use Rattle.atomic_table.specs.Seated.{TableId}
use Rattle.mq_talk.specs.declared.place.Parcel.{Parcel}
use Rattle.mq_talk.specs.declared.place.Pushed.{Pushed}
use Rattle.mq_talk.specs.declared.place.Pushed.TheVariants as pushed
use Rattle.mq_mail.specs.declared.inbox_rule.Letter.{Letter}
use Rattle.mq_mail.specs.Letters.{AreNumbered, IsAmong, IsNext}

-- which inboxes, one for each actor by its number
abbrev pub PostId : Type 0
PostId = List TableId

-- a post: its inboxes, and the most parcels that wait in each
pub record PostOf : Type 0 where
  pub inboxes : PostId
  pub capacity : ℕ

-- an actor's key: of which inboxes and which actor it is, what it has pushed to each, and what it has popped of the
-- actor's own
pub record KeyOf : Type 0 where
  pub post : PostId
  pub actor : ℕ
  pub pushed : List (List Parcel)
  pub popped : List Letter

-- what was pushed to an inbox
abbrev pub pushed_to : List (List Parcel) → ℕ → List Parcel
pushed_to pushed to = unwrap_or (slice_get pushed to) []

abbrev pub with_pushed : List (List Parcel) → ℕ → Parcel → List (List Parcel)
with_pushed pushed to parcel = slice_set pushed to (pushed_to pushed to ++ parcel ∷ [])

-- at one moment so many letters waited, among them what this actor had pushed and nobody had popped
pub record WasFull (capacity pusher : ℕ) (pushed : List Parcel) : Type 0 where
  pub waiting : List Letter
  pub size : length waiting ≡ capacity
  pub mine : IsAmong pusher pushed waiting

-- a push: the parcel is the next of this actor's, or it comes back and takes no number
abbrev pub PushesBy : ℕ → KeyOf → ℕ → Parcel → Pushed → KeyOf → Type 0
PushesBy capacity old to parcel pushed.Taken new = new ≡ record old { pushed = with_pushed old.pushed to parcel }
PushesBy capacity old to parcel (pushed.Full back) new =
    (back ≡ parcel) × (new ≡ old) × WasFull capacity old.actor (pushed_to old.pushed to)

-- a pop: the next letter of its pusher's; or nothing, and what was popped until then is numbered from 0 for each
-- pusher, with none left out
abbrev pub PopsBy : KeyOf → Option Parcel → KeyOf → Type 0
PopsBy old None new = (new ≡ old) × AreNumbered old.popped
PopsBy old (Some parcel) new =
    (x : Letter) × (x.parcel ≡ parcel) × IsNext old.popped x × (new ≡ record old { popped = old.popped ++ x ∷ [] })

-- a key with which nothing was done
abbrev pub new_key : PostId → ℕ → KeyOf
new_key post actor = record { post = post; actor = actor; pushed = map (λ _. []) post; popped = [] }

-- so many of them, from this actor on
abbrev pub new_keys : PostId → ℕ → ℕ → List KeyOf
new_keys post from zero = []
new_keys post from (suc count) = new_key post from ∷ new_keys post (suc from) count
