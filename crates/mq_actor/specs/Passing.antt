-- Connections that were passed over, and one that acted.
use Rattle.std.specs.Prelude.{◌≡◌, ⊤, ℕ, ◌+◌, ◌<◌, Bool, true, false, nat_le, nat_lt, List, length, remove, slice_get, slice_set, All, Option, Some, None, MatchOption, Result, Ok, Err}
use Rattle.slab.specs.Slab.{Slab, get}
use Rattle.mq_wire.specs.declared.NoMemory.{NoMemory}
use Rattle.mq_talk.specs.declared.note.Note.{Note}
use Rattle.mq_machine.specs.declared.setup.Setup.{Setup}
use Rattle.mq_machine.specs.State.{Port, Held}
use Rattle.mq_machine.specs.Turn.{try_of, tries_of}
use Rattle.mq_machine.specs.Acting.{Outside, ConnWaited}
use Rattle.mq_held.specs.declared.held.Held.{Held as HeldBy}
use Rattle.mq_held.specs.declared.held.PortSeat.{PortSeat}
use Rattle.mq_step.specs.Notes.{SteppedWith, Quiet, Did, Ended, Noteless}
use Rattle.mq_step.specs.Sights.{idle}
use Rattle.mq_step.specs.Whole.{Sees, filled}
use Rattle.mq_step.specs.Holds.{IsHeld, IsKnown, SeatsApart, KeepsOthers}
use Rattle.mq_step.specs.Gives.{Gives, Anything}
use Rattle.mq_actor.specs.declared.ring.Ring.{Ring}
use Rattle.mq_actor.specs.Seen.{Words, Moment, SeesConn}
use Rattle.mq_actor.specs.Holds.{AreHeld, HaveOwnPorts}

-- ---- the parts of a ring

-- in the upper part are the seats from where the search begins, in the lower part the others
abbrev pub is_in_part : Bool → ℕ → ℕ → Bool
is_in_part true from seat = nat_le from seat
is_in_part false from seat = nat_lt seat from

-- the connection of this number has its seat there
abbrev pub InPart : Bool → ℕ → ℕ → Type 0
InPart upper from number = is_in_part upper from (number + 2) ≡ true

-- ---- connections that were passed over

-- what is told of a connection stays
pub record TellsSame (old new : Outside) (s : Held) : Type 0 where
  pub link : new.link s.conn.number ≡ old.link s.conn.number
  pub ports : All (λ (p : Port). new.port p.tunnel ≡ old.port p.tunnel) s.ports

-- It had nothing to do, and asked in vain what could have changed that.
pub record PassedOver (old new : Outside) (s : Held) : Type 0 where
  pub none : try_of (filled old idle s) ≡ None
  pub waited : ConnWaited old new s

-- its ports stand as they stood
pub record PortsStay {L Q : Type 0} (table after : Slab Q) (h : HeldBy L) : Type 0 where
  pub seats : All (λ (seat : PortSeat). get after seat.key ≡ get table seat.key) h.ports.items
  pub bound : MatchOption h.bound ⊤ (λ key. get after key ≡ get table key)

-- which connections were tried, by their places and numbers
abbrev pub Tried : Type 1
Tried = (place number : ℕ) → Type 0

-- the connection at this place was passed over where it was tried, and else it is as it was
pub record PassedAt {L Q : Type 0} (words : Words L Q) (old new : Moment L Q) (tried : Tried) (place : ℕ)
    (h : HeldBy L) : Type 0 where
  pub now : HeldBy L
  pub at : slice_get new.conns place ≡ Some now
  pub number : now.number ≡ h.number
  pub stands : (s : Held) → IsHeld words.most old.table h s → IsHeld words.most new.table now s
  pub told : (o n : Outside) → SeesConn words old.table h o → SeesConn words new.table now n
      → (s : Held) → IsHeld words.most old.table h s → TellsSame o n s
  pub over : tried place h.number
      → (o n : Outside) → SeesConn words old.table h o → SeesConn words new.table now n
      → (s : Held) → IsHeld words.most old.table h s → PassedOver o n s
  pub still : (tried place h.number → ⊥) → (now ≡ h) × PortsStay old.table new.table h

pub record Passed {L Q : Type 0} (words : Words L Q) (old new : Moment L Q) (tried : Tried) : Type 0 where
  pub size : length new.conns ≡ length old.conns
  pub at : (place : ℕ) (h : HeldBy L) → slice_get old.conns place ≡ Some h
      → PassedAt words old new tried place h
  pub seen : new.seen ≡ old.seen
  pub boxes : new.boxes ≡ old.boxes
  pub binds : new.binds ≡ old.binds

-- ---- one that acted

-- this connection had its turn, and became `now`
pub record Acts {L Q : Type 0} (words : Words L Q) (setup : Setup) (old new : Moment L Q)
    (stepped : Result SteppedWith NoMemory) (was now : HeldBy L) : Type 0 where
  pub number : now.number ≡ was.number
  pub others : KeepsOthers was now old.table new.table
  pub stays : stepped ≡ Ok Quiet → now.ports.items ≡ was.ports.items
  pub calm : stepped ≡ Ok Quiet → (new.seen ≡ old.seen) × (new.binds ≡ old.binds) × (new.boxes ≡ old.boxes)
  pub apart : SeatsApart now.ports.items
  pub ends : (said : Note) → stepped ≡ Ok (Ended said) → now.ports.items ≡ was.ports.items
  pub still : stepped ≡ Ok Quiet
      → (s : Held) → IsHeld words.most old.table was s → IsHeld words.most new.table now s
  pub gives : (o n : Outside)
      → Sees words.link words.link_counts words.port words.port_counts old.binds old.table was o
      → Sees words.link words.link_counts words.port words.port_counts new.binds new.table now n
      → (s : Held) → IsHeld words.most old.table was s
      → Gives setup tries_of Anything o n old.seen new.seen old.boxes new.boxes (IsHeld words.most new.table now) s stepped

-- How it leaves the ring: one that is over is no longer in it. The next search begins behind its seat.
abbrev pub LeavesRing : {L : Type 0} → ℕ → HeldBy L → HeldBy L → List (HeldBy L) → Ring L → Ring L
    → Result SteppedWith NoMemory → Result (Option Note) NoMemory → Type 0
LeavesRing place was now conns r s (Ok (Did note)) result =
    (result ≡ Ok (Some note)) × (s.conns.items ≡ slice_set conns place now)
    × (s ≡ record r { conns = s.conns; rooms = s.rooms; next_seat = was.number + 3 })
LeavesRing place was now conns r s (Ok (Ended note)) result =
    (result ≡ Ok (Some note)) × (s.conns.items ≡ remove conns place)
    × (s ≡ record r { conns = s.conns; rooms = s.rooms; next_seat = was.number + 3; ended = Some now })
LeavesRing place was now conns r s (Ok Quiet) result = ⊥
LeavesRing place was now conns r s (Ok Noteless) result = ⊥
LeavesRing place was now conns r s (Err refused) result =
    (result ≡ Err refused) × (s.conns.items ≡ slice_set conns place now)
    × (s ≡ record r { conns = s.conns; rooms = s.rooms })

-- the connection at a place had its turn, and the list has what it became
abbrev pub TurnsAt : {L Q : Type 0} → Words L Q → Setup → ℕ → Moment L Q → Moment L Q → Result SteppedWith NoMemory
    → Type 0
TurnsAt {L} words setup place old new stepped =
    (was : HeldBy L) → slice_get old.conns place ≡ Some was
    → (now : HeldBy L) × (new.conns ≡ slice_set old.conns place now) × Acts words setup old new stepped was now

-- The connection at this place, whose seat is in this part of the ring, acted.
pub record Acted {L Q : Type 0} (words : Words L Q) (upper : Bool) (place : ℕ) (r s : Ring L) (old new : Moment L Q)
    (result : Result (Option Note) NoMemory) : Type 0 where
  pub stepped : Result SteppedWith NoMemory
  pub was : HeldBy L
  pub now : HeldBy L
  pub at : slice_get old.conns place ≡ Some was
  pub turn : InPart upper r.next_seat was.number
  pub acts : Acts words r.setup old new stepped was now
  pub leaves : LeavesRing place was now old.conns r s stepped result

-- what the turn of the connection at a place gives
abbrev pub TryGives : {L Q : Type 0} → Words L Q → Bool → ℕ → Ring L → Ring L → Moment L Q → Moment L Q
    → Result (Option Note) NoMemory → Type 0
TryGives words upper place r s old new (Ok None) =
    Passed words old new (λ i number. (i ≡ place) × InPart upper r.next_seat number)
    × (s ≡ record r { conns = s.conns; rooms = s.rooms })
TryGives words upper place r s old new (Ok (Some note)) = Acted words upper place r s old new (Ok (Some note))
TryGives words upper place r s old new (Err refused) = Acted words upper place r s old new (Err refused)

-- Those before it were passed over, and the connection at this place acted.
pub record Stopped {L Q : Type 0} (words : Words L Q) (upper : Bool) (r s : Ring L) (old new : Moment L Q)
    (result : Result (Option Note) NoMemory) : Type 0 where
  pub mid : Moment L Q
  pub place : ℕ
  pub passed : Passed words old mid (λ i number. (i < place) × InPart upper r.next_seat number)
  pub ports : HaveOwnPorts mid.conns
  pub acted : Acted words upper place r s mid new result

-- what the turns of a part's connections give
abbrev pub PassGives : {L Q : Type 0} → Words L Q → Bool → Ring L → Ring L → Moment L Q → Moment L Q
    → Result (Option Note) NoMemory → Type 0
PassGives words upper r s old new (Ok None) =
    Passed words old new (λ i number. InPart upper r.next_seat number)
    × (s ≡ record r { conns = s.conns; rooms = s.rooms })
PassGives words upper r s old new (Ok (Some note)) = Stopped words upper r s old new (Ok (Some note))
PassGives words upper r s old new (Err refused) = Stopped words upper r s old new (Err refused)

-- its connections stand for some state, and what the office has seen knows their tunnels
abbrev pub AreKnown : {L Q : Type 0} → Words L Q → Moment L Q → Type 0
AreKnown words m =
    (ss : List Held) × AreHeld words.most m.table m.conns ss × All (λ s. IsKnown m.seen m.seen.actor s) ss
