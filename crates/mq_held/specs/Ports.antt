-- What a connection's send and receive on one port give, as the port answers: with what the port told, or, where it told
-- nothing, with some contents.
use Rattle.std.specs.Prelude.{◌≡◌, ◌≢◌, ◌⊎◌, ◌||◌, ⊤, ℕ, true, false, List, [], ◌∷◌, length, nat_lt, if◌then◌else◌, Option, Some, None, Result, Ok, Err}
use Rattle.slab.specs.Slab.{Slab, get}
use Rattle.mq_outside.specs.Counts.{risen, PortCounts}
use Rattle.mq_outside.specs.Ports.{PortHolds, PortPast, PortSends, with_last, past_sent, after_send}
use Rattle.mq_outside.specs.declared.PortPut.{PortPut}
use Rattle.mq_outside.specs.declared.PortPut.TheVariants as put
use Rattle.mq_talk.specs.declared.note.Note.{Note}
use Rattle.mq_talk.specs.declared.note.Note.TheVariants as note
use Rattle.mq_talk.specs.Mails.{IsTold}
use Rattle.mq_talk.specs.declared.note.From.TheVariants as source
use Rattle.mq_wire.specs.declared.NoMemory.{NoMemory}
use Rattle.mq_machine.specs.State.{Conn, Tunnel, Port}
use Rattle.mq_machine.specs.Steps.{queued, settled_note, port_failed, starved}
use Rattle.mq_held.specs.Ready.{CanGive}
use Rattle.mq_held.specs.declared.datagrams.Came.{Came}
use Rattle.mq_held.specs.declared.datagrams.Came.TheVariants.{Waits, Failed, Datagram}
use Rattle.mq_held.specs.Notes.{WentWith}
use Rattle.mq_held.specs.Notes as went
use Rattle.mq_machine.specs.Want.{want_of, may_wait}
use Rattle.mq_machine.specs.Done.{done}
use Rattle.mq_machine.specs.Shared.{put_of, port_answer, port_sent}
use Rattle.mq_machine.specs.Turn.{send_waits}
use Rattle.mq_machine.specs.Acting.{holds_of, holding}

-- a port before and behind a call, as it tells it, with its counts
pub record PortCalls : Type 0 where
  pub holds : Option PortHolds
  pub after : Option PortHolds
  pub counts : PortCounts
  pub counts_after : PortCounts

-- ---- sends

-- a port that tells it takes nothing now
abbrev pub TakesNone : Option PortHolds → Type 0
TakesNone None = ⊤
TakesNone (Some holds) = (holds.send_fails ≡ false) × (holds.send_waits ≡ true)

-- it was asked to take a payload that isn't too long for it, and takes nothing now
pub record SendWaits (c : PortCalls) (limit : ℕ) (payload : List ℕ) : Type 0 where
  pub fits : nat_lt limit (length payload) ≡ false
  pub nothing : TakesNone c.holds
  pub after : c.after ≡ c.holds
  pub counts : c.counts_after ≡ record c.counts { send_waits = risen c.counts.send_waits }

-- the payload is longer than the port takes, which isn't asked then
pub record IsTooLong (c : PortCalls) (limit : ℕ) (payload : List ℕ) (answer : PortPut) : Type 0 where
  pub long : nat_lt limit (length payload) ≡ true
  pub fails : answer ≡ put.Failed
  pub after : c.after ≡ c.holds
  pub counts : c.counts_after ≡ c.counts

-- it was asked to take a payload that isn't too long for it, and took it or failed
pub record TakesOrFails (c : PortCalls) (limit : ℕ) (payload : List ℕ) (answer : PortPut) : Type 0 where
  pub fits : nat_lt limit (length payload) ≡ false
  pub ended : answer ≢ put.NotNow
  pub sends : PortSends c.holds c.after answer
  pub counts : c.counts_after ≡ after_send c.counts answer

-- what putting a payload into a port gives, which takes at most so many bytes
abbrev pub PutGives : PortCalls → (limit : ℕ) → (payload : List ℕ) → Option PortPut → Type 0
PutGives c limit payload None = SendWaits c limit payload
PutGives c limit payload (Some answer) = IsTooLong c limit payload answer ⊎ TakesOrFails c limit payload answer

-- what that adds to what the port sent: the payload, where the port took it
abbrev pub PutsPast : PortPast → PortPast → (payload : List ℕ) → Option PortPut → Type 0
PutsPast old new payload None = new ≡ old
PutsPast old new payload (Some answer) = new ≡ past_sent old payload answer

-- the payload was sent, or dropped, as the machine does on a port that holds this
pub record SendDoes (c : PortCalls) (p : Port) (s : Conn) (payload : List ℕ) (said : Note) (t : Conn) : Type 0 where
  pub holds : PortHolds
  pub told : IsTold c.holds holds
  pub goes : send_waits (Some (holding holds p)) payload ≡ false
  pub does : done s (port_answer (holding holds p)) ≡ Some (said, t)
  pub tells : IsTold c.after (holds_of (port_sent payload (holding holds p)))
  pub counts : c.counts_after ≡ (if nat_lt p.limit (length payload) then c.counts else after_send c.counts (put_of (holding holds p)))
  -- where nothing is told, the port fails only where it failed now
  pub fails : c.holds ≡ None → holds.send_fails || holds.receive_fails ≡ true → c.counts_after ≡ after_send c.counts put.Failed

-- What a send on the port under a key gives, and for which state the connection stands then. The machine's port is any with
-- this limit.
abbrev pub SendGives : PortCalls → (Conn → Type 0) → (limit : ℕ) → Conn → (payload : List ℕ) → Option Note → Type 0
SendGives c stands limit s payload None = SendWaits c limit payload × stands s
SendGives c stands limit s payload (Some said) = (p : Port) → p.limit ≡ limit → (t : Conn) × SendDoes c p s payload said t × stands t

-- what it adds to what the port sent: the payload that its note says was sent, and else nothing
abbrev pub SendsPast : PortPast → PortPast → Option Note → Type 0
SendsPast old new (Some (note.Sent from n payload)) = new ≡ record old { sent = with_last old.sent payload }
SendsPast old new answer = new ≡ old

-- the port under this key takes as long payloads as before
abbrev pub KeepsMost : {Q : Type 0} → (Q → ℕ) → Slab Q → Slab Q → ℕ → Type 0
KeepsMost {Q} most old new key = (was : Q) → get old key ≡ Some was → (now : Q) × (get new key ≡ Some now) × (most now ≡ most was)

-- ---- receives

-- a port before and behind a receive: what it holds, and what it gave and sent, as it tells these, with its counts
pub record ReceiveCalls : Type 0 where
  pub holds : Option PortHolds
  pub after : Option PortHolds
  pub past : PortPast
  pub past_after : PortPast
  pub counts : PortCounts
  pub counts_after : PortCounts

-- the same of a port, with what its trait says that it tells
abbrev pub receive_calls : {Q : Type 0} → (Q → Option PortHolds) → (Q → PortPast) → (Q → PortCounts) → (was now : Q) → ReceiveCalls
receive_calls holds past counts was now =
    record { holds = holds was; after = holds now; past = past was; past_after = past now; counts = counts was; counts_after = counts now }

-- a port that tells it has nothing now
abbrev pub GivesNone : Option PortHolds → Type 0
GivesNone None = ⊤
GivesNone (Some holds) = (holds.receive_fails ≡ false) × (holds.arrived ≡ [])

-- it was asked, and has nothing now
pub record ReceiveWaits (c : ReceiveCalls) : Type 0 where
  pub nothing : GivesNone c.holds
  pub after : c.after ≡ c.holds
  pub past : c.past_after ≡ c.past
  pub counts : c.counts_after ≡ record c.counts { receive_waits = risen c.counts.receive_waits }

-- a port that tells it fails the receive
abbrev pub FailsReceive : Option PortHolds → Type 0
FailsReceive None = ⊤
FailsReceive (Some holds) = holds.receive_fails ≡ true

pub record ReceiveFails (c : ReceiveCalls) : Type 0 where
  pub fails : FailsReceive c.holds
  pub after : c.after ≡ c.holds
  pub past : c.past_after ≡ c.past
  pub counts : c.counts_after ≡ record c.counts { faults = risen c.counts.faults }

-- a datagram was received from a port that holds this
pub record TakesDatagram (c : ReceiveCalls) (datagram : List ℕ) : Type 0 where
  pub holds : PortHolds
  pub others : List (List ℕ)
  pub told : IsTold c.holds holds
  pub works : holds.receive_fails ≡ false
  pub arrived : holds.arrived ≡ datagram ∷ others
  pub tells : IsTold c.after (record holds { arrived = others })
  -- a port that tells nothing goes on so
  pub untold : c.holds ≡ None → c.after ≡ None
  pub past : c.past_after ≡ record c.past { gave = with_last c.past.gave datagram }
  pub counts : c.counts_after ≡ c.counts

-- the port wasn't called
pub record IsIdle (c : ReceiveCalls) : Type 0 where
  pub after : c.after ≡ c.holds
  pub past : c.past_after ≡ c.past
  pub counts : c.counts_after ≡ c.counts

-- What a receive gives. Memory is taken before the port is called, and only where the port could give something.
abbrev pub CameGives : ReceiveCalls → Result Came NoMemory → Type 0
CameGives c (Ok Waits) = ReceiveWaits c
CameGives c (Ok Failed) = ReceiveFails c
CameGives c (Ok (Datagram packet)) = TakesDatagram c packet
CameGives c (Err refused) = IsIdle c × CanGive c.holds

-- What a receive on the port of a live tunnel gives, and for which state the connection stands then. It waits for its client, or
-- for the port.
abbrev pub ReceiveGives : ReceiveCalls → (Conn → Type 0) → Conn → (t : Tunnel) → (n : ℕ) → Result WentWith NoMemory → Type 0
ReceiveGives c stands s t n (Ok went.Waits) = ReceiveWaits c × stands s
ReceiveGives c stands s t n (Ok went.Failed) = ReceiveFails c × (may_wait (want_of s) ≡ true → stands (port_failed s t))
ReceiveGives c stands s t n (Ok (went.Did said)) = (datagram : List ℕ) × TakesDatagram c datagram
    × (said ≡ (settled_note (queued s t (source.Port t.id) n datagram)).0) × stands (settled_note (queued s t (source.Port t.id) n datagram)).1
ReceiveGives c stands s t n (Ok went.Noteless) = ⊥
ReceiveGives c stands s t n (Err refused) = IsIdle c × CanGive c.holds × stands (starved s)
