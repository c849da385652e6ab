-- The payloads of a tunnel's data stream, by their numbers, and what a tunnel is asked next.
use Rattle.std.specs.Prelude.{◌≡◌, ◌≢◌, ⊤, ℕ, ◌<◌, List, ◌∷◌, ◌++◌, length, slice_get, Some, None}
use Rattle.std.specs.List.{filter}
use Rattle.mq_capsule.specs.declared.item.Item.{Item}
use Rattle.mq_capsule.specs.declared.item.Item.TheVariants.{Datagram, TooLongDatagram}
use Rattle.mq_capsule.specs.Items.{ItemsOf, max_payload}
use Rattle.mq_talk.specs.declared.place.Cause.{Cause}
use Rattle.mq_talk.specs.declared.place.Cause.TheVariants as cause
use Rattle.mq_talk.specs.Packets.{flow_of}
use Rattle.mq_machine.specs.declared.act.Act.TheVariants as act
use Rattle.mq_machine.specs.declared.act.StreamAct.{StreamAct}
use Rattle.mq_machine.specs.declared.act.StreamAct.TheVariants as stream
use Rattle.mq_machine.specs.declared.act.Due.{Due}
use Rattle.mq_machine.specs.declared.act.Due.TheVariants as due
use Rattle.mq_machine.specs.Reading.{is_payload, has_values, stream_of}
use Rattle.mq_machine.specs.State.{Stream, Tunnel, Held, Worker, State, tunnel_on, held_of}

-- The item is payload number n of a data stream, that of this stream: of the payloads that its first bytes say, counted from 0.
pub record IsPayload (streams : List Stream) (on n : ℕ) (item : Item) : Type 0 where
  pub data_stream : Stream
  pub bytes : List ℕ
  pub others : List ℕ
  pub items : List Item
  pub is : stream_of streams on ≡ Some data_stream
  pub are_first : data_stream.bytes ≡ bytes ++ others
  pub say : ItemsOf (has_values data_stream.goal) bytes items
  pub at : slice_get (filter is_payload items) n ≡ Some item

-- what is wrong with a payload that is dropped as it is read, where packets have at most so many bytes
abbrev pub IsWrong : ℕ → Item → Cause → Type 0
IsWrong mtu (Datagram context payload) cause.UnknownContext = context ≢ 0
IsWrong mtu (TooLongDatagram context size) cause.UnknownContext = context ≢ 0
IsWrong mtu (Datagram context payload) cause.BadHeader = (context ≡ 0) × (flow_of payload ≡ None)
IsWrong mtu (Datagram context payload) cause.TooLong = (context ≡ 0) × (mtu < length payload)
IsWrong mtu (TooLongDatagram context size) cause.TooLong = (context ≡ 0) × (max_payload < size)
IsWrong mtu item cause = ⊥

-- What is asked of a tunnel with a payload is asked with the one that has that number in its data stream: a packet by the flow
-- that its header says, and a drop for what is wrong with it.
abbrev pub IsOf : ℕ → List Stream → ℕ → StreamAct → Type 0
IsOf mtu streams on (stream.Payload n payload) = IsPayload streams on n (Datagram 0 payload)
IsOf mtu streams on (stream.Packet n packet flow) = IsPayload streams on n (Datagram 0 packet) × (flow_of packet ≡ Some flow)
IsOf mtu streams on (stream.Push n to packet) = IsPayload streams on n (Datagram 0 packet)
IsOf mtu streams on (stream.Drop n cause) = (item : Item) × IsPayload streams on n item × IsWrong mtu item cause
IsOf mtu streams on (stream.Assign asked) = ⊤
IsOf mtu streams on (stream.Advertise ranges) = ⊤
IsOf mtu streams on (stream.Close why) = ⊤

-- This is asked of the tunnel next: it is the first act that is due in its connection, which isn't ending.
pub record IsNext (s : State) (tunnel : ℕ) (a : StreamAct) : Type 0 where
  pub number : ℕ
  pub conn : ℕ
  pub on : ℕ
  pub worker : Worker
  pub held : Held
  pub t : Tunnel
  pub others : List Due
  pub works : slice_get s.workers number ≡ Some worker
  pub has : held_of worker conn ≡ Some held
  pub serves : tunnel_on held.conn on ≡ Some t
  pub id : t.id ≡ tunnel
  pub due_is : held.conn.due ≡ due.Do (act.OfStream on a) ∷ others
  pub goes_on : held.conn.ending ≡ None
  pub is : IsOf worker.setup.mtu held.conn.streams on a
