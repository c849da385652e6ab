-- What went before the seat that acts: each seat that was tried was in vain.
use Rattle.std.proofs.Common.{◌≡◌, ◌⊎◌, ℕ, ◌+◌, ◌≤◌, List, [], length, slice_get, Some}
use Rattle.mq_talk.specs.declared.place.Parcel.{Parcel}
use Rattle.mq_talk.specs.Mails.{Boxes, IsTold, Inboxes}
use Rattle.mq_machine.specs.State.{Held, Worker}
use Rattle.mq_machine.specs.Turn.{Seat, Offers, Inbox, Of, most_live}
use Rattle.mq_machine.specs.Acting.{Outside}
use Rattle.mq_actor.specs.declared.ring.Ring.{Ring}
use Rattle.mq_actor.specs.Passing.{Tried, Passed, PassedOver}
use Rattle.mq_actor.specs.Seats.{OffersWait}
use Rattle.mq_actor.specs.Seen.{Words, Moment}
use Rattle.mq_actor.proofs.InRing.{Precedes}

-- ---- of the machine's worker

-- each seat that comes before this one was tried in vain
pub record Vain (o n : Outside) (x : Worker) (box : List Parcel) (k : ℕ) (seat : Seat) : Type 0 where
  pub offers : Precedes x.next_seat 0 Offers k seat → (x.offered ≡ []) ⊎ (most_live ≤ length x.conns)
  pub inbox : Precedes x.next_seat 1 Inbox k seat → box ≡ []
  pub conns : (i : ℕ) (h : Held) → slice_get x.conns i ≡ Some h → Precedes x.next_seat (i + 2) (Of h.conn.number) k seat → PassedOver o n h

-- ---- of the ring

-- of inboxes with which what is told fits, this is in the own one
pub record MailKept (mail : Inboxes) (count id : ℕ) (box : List Parcel) : Type 0 where
  pub boxes : Boxes
  pub told : IsTold mail.told boxes
  pub size : length boxes ≡ count
  pub at : slice_get boxes id ≡ Some box

-- These connections were tried, and the offered links and the inbox where that is said: all in vain. The ring is now m.
pub record SoFar {L Q : Type 0} (words : Words L Q) (r m : Ring L) (old mid : Moment L Q) (count : ℕ) (tried : Tried) (offers_tried inbox_tried : Type 0) : Type 0 where
  pub passed : Passed words old mid tried
  pub starts : old.conns ≡ r.conns.items
  pub ring : m ≡ record r { conns = m.conns; rooms = m.rooms }
  pub offers : offers_tried → OffersWait r
  pub box : List Parcel
  pub mail : MailKept old.boxes count r.id box
  pub inbox : inbox_tried → box ≡ []

-- what was tried is all that comes before this seat
pub record Covers (from : ℕ) (tried : Tried) (offers_tried inbox_tried : Type 0) (k : ℕ) (seat : Seat) : Type 0 where
  pub offers : Precedes from 0 Offers k seat → offers_tried
  pub inbox : Precedes from 1 Inbox k seat → inbox_tried
  pub conns : (i number : ℕ) → Precedes from (i + 2) (Of number) k seat → tried i number
