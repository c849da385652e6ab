-- A connection closed a tunnel, whatever its link and its ports hold.
use Rattle.std.specs.Prelude.{◌≡◌, ◌≢◌, ℕ, List, map, remove, Some, Result, Ok, Err}
use Rattle.slab.specs.Slab.{Slab, get}
use Rattle.mq_wire.specs.declared.NoMemory.{NoMemory}
use Rattle.mq_outside.specs.Counts.{PortCounts}
use Rattle.mq_talk.specs.declared.book.Reply.TheVariants as reply
use Rattle.mq_talk.specs.declared.note.Note.{Note}
use Rattle.mq_talk.specs.Mails.{Inboxes}
use Rattle.mq_talk.specs.Offices.{Seen}
use Rattle.mq_machine.specs.State.{Conn, Link, Held, Orders, Shared}
use Rattle.mq_machine.specs.Want.{Replied, want_of}
use Rattle.mq_machine.specs.Done.{done}
use Rattle.mq_machine.specs.Shared.{Answers, without_port}
use Rattle.mq_machine.specs.Acting.{Outside, Binder, Shares, handed_back}
use Rattle.mq_held.specs.declared.held.PortSeat.{PortSeat}
use Rattle.mq_held.specs.Seats.{IsSeatOf, HasNoSeat}
use Rattle.mq_step.specs.Notes.{SteppedWith, Quiet, Did, Ended, Noteless}
use Rattle.mq_step.specs.Sights.{Found, filled_port}

-- the book closed this tunnel, and it stands for a connection without its port, on any link, whatever the other ports hold
pub record Closed (seen seen_after : Seen) (mail mail_after : Inboxes) (orders : Orders) (stands : Held → Type 0) (tunnel : ℕ) (s : Held) (said : Note) : Type 0 where
  pub conn : Conn
  pub sh : Shared
  pub after : Shared
  pub shares : Shares seen seen_after mail mail_after orders sh after
  pub answers : Answers s.conn.actor sh (want_of s.conn) (Replied reply.Closed) after
  pub does : done s.conn (Replied reply.Closed) ≡ Some (said, conn)
  pub stands_for : (link : Link) (o : Outside) (found : Found) → stands (record { conn = conn; link = link; ports = without_port tunnel (map (filled_port o found) s.ports) })

-- To close a tunnel takes no memory, and waits for nothing.
abbrev pub CloseGives : Seen → Seen → (mail mail_after : Inboxes) → (Held → Type 0) → ℕ → Held → Result SteppedWith NoMemory → Type 0
CloseGives seen seen_after mail mail_after stands tunnel s (Ok (Did said)) = (orders : Orders) → Closed seen seen_after mail mail_after orders stands tunnel s said
CloseGives seen seen_after mail mail_after stands tunnel s (Ok Quiet) = ⊥
CloseGives seen seen_after mail mail_after stands tunnel s (Ok (Ended said)) = ⊥
CloseGives seen seen_after mail mail_after stands tunnel s (Ok Noteless) = ⊥
CloseGives seen seen_after mail mail_after stands tunnel s (Err refused) = ⊥

-- the port of the tunnel's seat was handed back, with what it failed
abbrev pub HandsBack : {Q : Type 0} → (Q → PortCounts) → Slab Q → List PortSeat → ℕ → (binds binds_after : Binder) → Type 0
HandsBack {Q} counts table seats tunnel binds binds_after =
    (place : ℕ) (seat : PortSeat) (port : Q) → IsSeatOf seats tunnel place seat → get table seat.key ≡ Some port → binds_after ≡ handed_back (counts port).faults binds

-- the tunnel's seat is gone, and all that stands under other keys stays
pub record Retires {Q : Type 0} (table after : Slab Q) (seats seats_after : List PortSeat) (tunnel : ℕ) : Type 0 where
  pub gone : (place : ℕ) (seat : PortSeat) → IsSeatOf seats tunnel place seat
      → (seats_after ≡ remove seats place) × ((other : ℕ) → other ≢ seat.key → get after other ≡ get table other)
  pub none : HasNoSeat seats tunnel → (seats_after ≡ seats) × (after ≡ table)
