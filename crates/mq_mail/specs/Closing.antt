-- Passes as a close gathers them: of each inbox one, which takes in all others.
use Rattle.std.specs.Prelude.{◌≡◌, ℕ, true, List, [], ◌∷◌, ◌++◌, length, map, slice_get, slice_set, Some}
use Rattle.atomic_table.specs.Seated.{TableId}
use Rattle.crossbeam_queue.specs.Passes.{view}
use Rattle.mq_talk.specs.declared.place.Parcel.{Parcel}
use Rattle.mq_mail.specs.declared.close.Gathered.{Gathered}
use Rattle.mq_mail.specs.Keys.{InboxPass, id_of}
use Rattle.mq_mail.specs.Posts.{KeyOf, pushed_to}

-- what these actors pushed to an inbox, each with its number
abbrev pub owns_to : List KeyOf → ℕ → List (ℕ × List Parcel)
owns_to [] inbox = []
owns_to (key ∷ keys) inbox = (key.actor, pushed_to key.pushed inbox) ∷ owns_to keys inbox

-- the pass of an inbox that took in a way to it
pub record TookWay (old ways : List InboxPass) (inbox : ℕ) (p : InboxPass) : Type 0 where
  pub was : InboxPass
  pub way : InboxPass
  pub was_there : slice_get old inbox ≡ Some was
  pub way_there : slice_get ways inbox ≡ Some way
  pub rest : p.me.1 ≡ []
  pub knows : view p ≡ record (view was) { owns = (view was).owns ++ (view way).owns }

-- each of these passes took in the way to the same inbox
pub record TookWays (old ways new : List InboxPass) : Type 0 where
  pub ids : map id_of new ≡ map id_of old
  pub each : (i : ℕ) (p : InboxPass) → slice_get new i ≡ Some p → TookWay old ways i p

-- the pass of an actor's inbox took in the one that pops
pub record AddsPopper (actor : ℕ) (popper : InboxPass) (old new : List InboxPass) : Type 0 where
  pub was : InboxPass
  pub there : slice_get old actor ≡ Some was
  pub is : InboxPass
  pub set : new ≡ slice_set old actor is
  pub id : is.table_id ≡ was.table_id
  pub rest : is.me.1 ≡ []
  pub knows : view is ≡ record (view popper) { owns = (view was).owns }

-- no slot is out with any of these
abbrev pub AreFree : List InboxPass → Type 0
AreFree passes = (i : ℕ) (p : InboxPass) → slice_get passes i ≡ Some p → p.me.1 ≡ []

-- a pass of an inbox that pushes for these actors, and pops where the inbox's own actor is one of those
pub record IsGathered (pushers poppers : List KeyOf) (inbox : ℕ) (p : InboxPass) : Type 0 where
  pub rest : p.me.1 ≡ []
  pub owns : (view p).owns ≡ owns_to pushers inbox
  pub pops : (key : KeyOf) → slice_get poppers inbox ≡ Some key
      → ((view p).pops ≡ true) × ((view p).popped ≡ key.popped) × ((view p).made ≡ length key.post)

-- one such pass of each inbox, and how many letters the actors popped
pub record AreGathered (post : List TableId) (pushers poppers : List KeyOf) (passes : List InboxPass) (popped : List ℕ)
    : Type 0 where
  pub ids : map id_of passes ≡ post
  pub each : (i : ℕ) (p : InboxPass) → slice_get passes i ≡ Some p → IsGathered pushers poppers i p
  pub size : length popped ≡ length post
  pub counts : (i : ℕ) (key : KeyOf) → slice_get poppers i ≡ Some key → slice_get popped i ≡ Some (length key.popped)

-- what took in these keys
abbrev pub TookIn : List TableId → List KeyOf → Gathered → Type 0
TookIn post keys g = AreGathered post keys keys g.passes.items g.popped.items
