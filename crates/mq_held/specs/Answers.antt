-- What a connection does as a bind and the book answer it.
use Rattle.std.specs.Prelude.{◌≡◌, ◌≢◌, ⊤, ◌⊎◌, ℕ, true, false, List, Option, Some, None, Result, Ok, Err}
use Rattle.slab.specs.Slab.{Slab, get}
use Rattle.mq_wire.specs.declared.NoMemory.{NoMemory}
use Rattle.mq_addr.specs.declared.addr.Addr.{Addr}
use Rattle.mq_outside.specs.Counts.{PortCounts, no_port_counts}
use Rattle.mq_outside.specs.Ports.{limit_of}
use Rattle.mq_talk.specs.declared.book.Call.{Call}
use Rattle.mq_talk.specs.declared.book.Call.TheVariants as call
use Rattle.mq_talk.specs.declared.book.Reply.{Reply}
use Rattle.mq_talk.specs.declared.book.Reply.TheVariants as reply
use Rattle.mq_talk.specs.declared.note.Note.{Note}
use Rattle.mq_talk.specs.Answers.{IsAnswer}
use Rattle.mq_talk.specs.Book.{History}
use Rattle.mq_talk.specs.Offices.{Seen, Sees, IsSame, CallOk, CallGives}
use Rattle.mq_machine.specs.Lawful as lawful
use Rattle.mq_machine.specs.Shared.{asked_by}
use Rattle.mq_machine.specs.State.{Conn, Tunnel}
use Rattle.mq_machine.specs.Steps.{starved}
use Rattle.mq_machine.specs.Want.{Bound, Replied}
use Rattle.mq_machine.specs.Acting.{Binder, Binds}
use Rattle.mq_machine.specs.Done.{done}
use Rattle.mq_conn.specs.declared.conn.Conn.{Conn as Core}
use Rattle.mq_conn.specs.Conns.{heard, MayHear}
use Rattle.mq_ports.specs.Tables.{Adds}
use Rattle.mq_held.specs.declared.ask.Heard.{Heard}

-- ---- binds

-- A bind of a port, and the key of the port that was bound. A bind that fails leaves the key and the ports, and is counted.
pub record PortBound {Q : Type 0} (most : Q → ℕ) (counts : Q → PortCounts) (addr : Addr) (old new : Slab Q) (bound : Option ℕ) (binds binds_after : Binder) : Type 0 where
  pub key : ℕ
  pub port : Q
  pub adds : Adds old new key port
  pub bound_is : bound ≡ Some key
  pub limit : most port ≡ limit_of addr
  pub unused : counts port ≡ no_port_counts
  pub binds_are : Binds true binds binds_after

pub record NotBound {Q : Type 0} (old new : Slab Q) (before after : Option ℕ) (binds binds_after : Binder) : Type 0 where
  pub table : new.slots ≡ old.slots
  pub bound_is : after ≡ before
  pub binds_are : Binds false binds binds_after

-- every port that stood in the table stands there
abbrev pub KeepsPorts : {Q : Type 0} → Slab Q → Slab Q → Type 0
KeepsPorts {Q} old new = (key : ℕ) (port : Q) → get old key ≡ Some port → get new key ≡ Some port

-- the key of a port that is bound is as it was, or new
abbrev pub IsFresh : {Q : Type 0} → Slab Q → Option ℕ → Option ℕ → Type 0
IsFresh old before after = (after ≡ before) ⊎ ((key : ℕ) × (after ≡ Some key) × (get old key ≡ None))

-- what a bind gives: the note of the connection behind it
abbrev pub BindGives : (Conn → Type 0) → (was_bound : Type 0) → (not_bound : Type 0) → Conn → Result Note NoMemory → Type 0
BindGives stands was_bound not_bound s (Ok said) =
    (was_bound × ((t : Conn) × (done s (Bound true) ≡ Some (said, t)) × stands t))
    ⊎ (not_bound × ((t : Conn) × (done s (Bound false) ≡ Some (said, t)) × stands t))
BindGives stands was_bound not_bound s (Err refused) = stands (starved s)

-- nothing was bound yet
pub record NothingBound (before after : Option ℕ) (binds binds_after : Binder) : Type 0 where
  pub bound_is : after ≡ before
  pub binds_are : binds_after ≡ binds

-- ---- the book is asked that a tunnel opens, or closes

-- it asks that a tunnel opens or closes
abbrev pub IsPlain : Call → Type 0
IsPlain (call.Open conn stream actor goal) = ⊤
IsPlain (call.Close tunnel) = ⊤
IsPlain (call.Assign tunnel asked) = ⊥
IsPlain (call.Advertise tunnel ranges) = ⊥

-- the tunnel that a reply opened
abbrev pub opened_by : Reply → Option ℕ
opened_by (reply.Opened tunnel routes) = Some tunnel
opened_by (reply.HistoryFull entries live) = None
opened_by (reply.Assigned list at) = None
opened_by (reply.Accepted accepts at) = None
opened_by reply.Closed = None

-- a tunnel that the book opens has a number that none of these has
abbrev pub OpensFresh : ℕ → Seen → Call → Seen → List Tunnel → Type 0
OpensFresh actor old asked new tunnels = (said : Reply) → CallOk actor old asked said new → lawful.IsFresh tunnels (Replied said)

-- what the book was asked and replied, and the note of the connection behind it
pub record Hears (actor : ℕ) (old : Seen) (asked : Call) (new : Seen) (s : Conn) (h : Heard) (t : Conn) : Type 0 where
  pub said : Reply
  pub replied : CallOk actor old asked said new
  pub does : done s (Replied said) ≡ Some (h.note, t)
  pub opened : h.opened ≡ opened_by said

-- it was refused memory before the book wrote, or as it heard the reply, which doesn't say that its tunnel closed
pub record HearsNot (actor : ℕ) (old : Seen) (asked : Call) (new : Seen) (stands : Conn → Type 0) (s : Conn) : Type 0 where
  pub said : Reply
  pub replied : CallOk actor old asked said new
  pub open_is : said ≢ reply.Closed
  pub stands_for : stands (heard s said)

-- A close is never refused memory.
abbrev pub AskGives : ℕ → Seen → Call → Seen → (Conn → Type 0) → Conn → Result Heard NoMemory → Type 0
AskGives actor old asked new stands s (Ok h) = (t : Conn) × Hears actor old asked new s h t × stands t
AskGives actor old asked new stands s (Err refused) =
    ((tunnel : ℕ) → asked ≢ call.Close tunnel) × ((CallGives actor old asked (Err refused) new × stands (starved s)) ⊎ HearsNot actor old asked new stands s)

-- a reply was heard
abbrev pub HearGives : Core → Core → Reply → Result Heard NoMemory → Type 0
HearGives old new said (Ok h) = (h.opened ≡ opened_by said) × MayHear old new said (Ok h.note)
HearGives old new said (Err refused) = MayHear old new said (Err refused)

-- ---- the book is asked for addresses or ways

-- of this tunnel
abbrev pub IsFor : ℕ → Call → Type 0
IsFor of (call.Open conn stream actor goal) = ⊥
IsFor of (call.Assign tunnel asked) = tunnel ≡ of
IsFor of (call.Advertise tunnel ranges) = tunnel ≡ of
IsFor of (call.Close tunnel) = ⊥

-- What the book said after these entries and wrote then, and what the tunnel is told. Where the call found no place, the tunnel
-- was closed, and is told that.
pub record AskOk (actor : ℕ) (old : Seen) (asked : Call) (told : Reply) (new : Seen) : Type 0 where
  pub book : History
  pub sees : Sees old book
  pub said : Reply
  pub is : IsAnswer old.config book asked said
  pub told_is : told ≡ (asked_by book actor asked said).reply
  pub wrote : new.entries ≡ (asked_by book actor asked said).book
  pub same : IsSame old new

-- the note of the connection behind what the tunnel was told
pub record Told (actor : ℕ) (old : Seen) (asked : Call) (new : Seen) (stands : Conn → Type 0) (s : Conn) (said : Note) : Type 0 where
  pub told : Reply
  pub asks : AskOk actor old asked told new
  pub t : Conn
  pub does : done s (Replied told) ≡ Some (said, t)
  pub stands_for : stands t

-- it was refused memory as it heard that, which isn't that its tunnel closed
pub record ToldNot (actor : ℕ) (old : Seen) (asked : Call) (new : Seen) (stands : Conn → Type 0) (s : Conn) : Type 0 where
  pub told : Reply
  pub asks : AskOk actor old asked told new
  pub open_is : told ≢ reply.Closed
  pub stands_for : stands (heard s told)

abbrev pub TellGives : ℕ → Seen → Call → Seen → (Conn → Type 0) → Conn → Result Note NoMemory → Type 0
TellGives actor old asked new stands s (Ok said) = Told actor old asked new stands s said
TellGives actor old asked new stands s (Err refused) = (CallGives actor old asked (Err refused) new × stands (starved s)) ⊎ ToldNot actor old asked new stands s

-- what the tunnel is to be told, or that the book was refused memory
abbrev pub SettleGives : ℕ → Seen → Call → Result Reply NoMemory → Seen → Type 0
SettleGives actor old asked (Ok told) new = AskOk actor old asked told new
SettleGives actor old asked (Err refused) new = CallGives actor old asked (Err refused) new
