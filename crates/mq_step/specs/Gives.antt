-- What a step of a connection gives: which of its tries was done, on a link and ports that hold what they told, or else what
-- was found; or that each was in vain.
use Rattle.std.specs.Prelude.{◌≡◌, ◌≢◌, ⊤, ℕ, true, false, List, [], ◌∷◌, All, find, map, Option, Some, None, option_map, Result, Ok, Err}
use Rattle.mq_wire.specs.declared.NoMemory.{NoMemory}
use Rattle.mq_talk.specs.declared.note.Note.{Note}
use Rattle.mq_talk.specs.Mails.{Inboxes}
use Rattle.mq_talk.specs.Offices.{Seen}
use Rattle.mq_machine.specs.declared.setup.Setup.{Setup}
use Rattle.mq_machine.specs.State.{Tunnel, Port, Held, Orders, Shared, owed}
use Rattle.mq_machine.specs.Want.{Answer, want_of}
use Rattle.mq_machine.specs.Steps.{can_read, framed, starved}
use Rattle.mq_machine.specs.Turn.{Try, Act, Frame, Write, Read, Receive, can_try, TryNext}
use Rattle.mq_machine.specs.Silent.{Reached, Leaves, Heard, may_starve}
use Rattle.mq_machine.specs.Acting.{Outside, Rose, WantWaited, BindFits, Shares}
use Rattle.mq_step.specs.Notes.{SteppedWith, Quiet, Did, Ended, Noteless}
use Rattle.mq_step.specs.Wanted.{SendsWait, with_prepared}
use Rattle.mq_step.specs.Sights.{Found, idle}
use Rattle.mq_step.specs.Whole.{filled, IsAsTold, FaultsFit, Grows, StaysTold}

-- ---- tries

-- a connection's tries, or the last of them
abbrev pub Tries : Type 0
Tries = Held → List Try

abbrev pub receives_of : Tries
receives_of h = map (λ (p : Port). Receive p.tunnel) h.ports

abbrev pub receive_alone : ℕ → Tries
receive_alone tunnel h = Receive tunnel ∷ []

-- from its read on, from its write on, and from its frame on
abbrev pub from_read : Tries
from_read h = Read ∷ receives_of h

abbrev pub from_write : Tries
from_write h = Write ∷ from_read h

abbrev pub from_frame : Tries
from_frame h = Frame ∷ from_write h

-- the first of them that can be done
abbrev pub first_of : Tries → Held → Option Try
first_of tries h = find (can_try h) (tries h)

-- ---- a step

-- what was found leaves other tries in vain
abbrev pub InVain : Type 1
InVain = Found → Type 0

-- One of the tries was done, and gave this note.
pub record Turned (setup : Setup) (tries : Tries) (vain : InVain) (old new : Outside) (seen seen_after : Seen) (mail mail_after : Inboxes) (orders : Orders)
    (s : Held) (note : Note) (t : Option Held) : Type 0 where
  pub found : Found
  pub vain_is : vain found
  pub try : Try
  pub answer : Answer
  pub sh : Shared
  pub after : Shared
  pub became : Option Held
  pub is : first_of tries (filled old found s) ≡ Some try
  pub shares : Shares seen seen_after mail mail_after orders sh after
  pub faults : FaultsFit old new (filled old found s)
  pub binds : BindFits old new answer
  pub next : TryNext setup (filled old found s) sh try answer note became after
  pub then : t ≡ option_map (with_prepared new answer) became

-- what a try that was in vain asked
abbrev pub Asked : Outside → Outside → Held → Try → Type 0
Asked old new s Act = WantWaited old new (want_of s.conn)
Asked old new s Frame = framed s.conn ≡ None
Asked old new s Write = owed s.conn ≢ [] → Rose (old.link_counts s.conn.number).write_waits (new.link_counts s.conn.number).write_waits
Asked old new s Read = can_read s.conn ≡ true → Rose (old.link_counts s.conn.number).read_waits (new.link_counts s.conn.number).read_waits
Asked old new s (Receive tunnel) = Rose (old.port_counts tunnel).receive_waits (new.port_counts tunnel).receive_waits

-- Each of the tries was in vain.
pub record Waited (tries : Tries) (old new : Outside) (seen seen_after : Seen) (mail mail_after : Inboxes) (s : Held) : Type 0 where
  pub none : first_of tries (filled old idle s) ≡ None
  pub asked : All (Asked old new s) (tries s)
  pub grows : Grows old new s
  pub told : StaysTold old new s
  pub seen_is : seen_after ≡ seen
  pub mail_is : mail_after ≡ mail

-- One of the tries was begun, and memory was refused when it had come so far.
pub record Starved (tries : Tries) (vain : InVain) (old new : Outside) (seen seen_after : Seen) (mail mail_after : Inboxes) (orders : Orders) (s t : Held) : Type 0 where
  pub found : Found
  pub vain_is : vain found
  pub try : Try
  pub answer : Answer
  pub sh : Shared
  pub after : Shared
  pub reached : Reached
  pub pieces : List (List ℕ)
  pub tunnels : List Tunnel
  pub is : first_of tries (filled old found s) ≡ Some try
  pub shares : Shares seen seen_after mail mail_after orders sh after
  pub takes : try ≡ Act → may_starve (want_of s.conn) ≡ true
  pub leaves : Leaves reached.took try (filled old found s).link.pieces pieces
  pub heard : Heard reached.asked (filled old found s) sh try answer tunnels after
  pub binds : BindFits old new answer
  pub then : t ≡ record (filled old found s) {
    link = record (filled old found s).link { pieces = pieces };
    conn = record (starved s.conn) { tunnels = tunnels };
  }

-- the connection stands for this state, which has what is told
abbrev pub StandsAsTold : Outside → (Held → Type 0) → Held → Type 0
StandsAsTold new stands t = stands t × IsAsTold new t

-- What the tries of a connection give, by what stands behind them.
abbrev pub Gives : Setup → Tries → InVain → Outside → Outside → Seen → Seen → (mail mail_after : Inboxes) → (Held → Type 0) → Held → Result SteppedWith NoMemory → Type 0
Gives setup tries vain old new seen seen_after mail mail_after stands s (Ok Quiet) = Waited tries old new seen seen_after mail mail_after s × stands s
Gives setup tries vain old new seen seen_after mail mail_after stands s (Ok (Did note)) = (orders : Orders)
    → (t : Held) × Turned setup tries vain old new seen seen_after mail mail_after orders s note (Some t) × StandsAsTold new stands t
Gives setup tries vain old new seen seen_after mail mail_after stands s (Ok (Ended note)) = (orders : Orders)
    → Turned setup tries vain old new seen seen_after mail mail_after orders s note None
Gives setup tries vain old new seen seen_after mail mail_after stands s (Ok Noteless) = ⊥
Gives setup tries vain old new seen seen_after mail mail_after stands s (Err refused) = (orders : Orders)
    → (t : Held) × Starved tries vain old new seen seen_after mail mail_after orders s t × StandsAsTold new stands t

-- ---- what earlier tries leave

-- no port takes a datagram now (SendsWait), and the link takes nothing, either
pub record WritesWait (found : Found) : Type 0 where
  pub sends : SendsWait found
  pub works : found.link.write_fails ≡ false
  pub room : found.link.room ≡ Some 0

-- and gives nothing
pub record ReadsWait (found : Found) : Type 0 where
  pub writes : WritesWait found
  pub works : found.link.read_fails ≡ false
  pub pieces : found.link.pieces ≡ []
  pub not_ended : found.link.is_ended ≡ false

-- and no port but that of this tunnel gives a datagram, or fails a receive
pub record ReceivesWait (tunnel : ℕ) (found : Found) : Type 0 where
  pub reads : ReadsWait found
  pub others : (other : ℕ) → other ≢ tunnel → ((found.port other).receive_fails ≡ false) × ((found.port other).arrived ≡ [])

-- whatever was found
abbrev pub Anything : InVain
Anything found = ⊤
