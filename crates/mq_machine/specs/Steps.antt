-- What a connection does beside its wants: frames, writes, the end of its link, and what comes to a tunnel.
use Rattle.std.specs.Prelude.{ℕ, ◌+◌, ◌==◌, Bool, true, false, not, ◌&&◌, ◌||◌, List, [], ◌∷◌, ◌++◌, take, drop, length, filter, find, min, nat_lt, nat_le, if◌then◌else◌, Option, Some, None, option_map, option_and_then, is_some}
use Rattle.mq_capsule.specs.Writing.{capsule_text, datagram}
use Rattle.mq_outside.specs.Counts.{last_count}
use Rattle.mq_talk.specs.declared.note.End.{End}
use Rattle.mq_talk.specs.declared.note.End.TheVariants as end
use Rattle.mq_talk.specs.declared.note.From.{From}
use Rattle.mq_talk.specs.declared.note.From.TheVariants as source
use Rattle.mq_talk.specs.declared.note.Note.{Note}
use Rattle.mq_talk.specs.declared.note.Note.TheVariants as note
use Rattle.mq_talk.specs.declared.note.Why.TheVariants as why
use Rattle.mq_talk.specs.declared.place.Cause.TheVariants as cause
use Rattle.mq_machine.specs.declared.act.Act.TheVariants as act
use Rattle.mq_machine.specs.declared.act.StreamAct.TheVariants as stream
use Rattle.mq_h2.specs.Acts.{data_room}
use Rattle.mq_machine.specs.Http2 as http2
use Rattle.mq_machine.specs.Putting.{Putting, nothing_put, over_http2, putting}
use Rattle.mq_machine.specs.Settle.{settle}
use Rattle.mq_machine.specs.State.{Conn, Tunnel, Waiting, What, Packet, Value, Front, Head, OverHttp1, OverHttp2, Port, owed, packets, waiting_bytes, tunnel_of}
use Rattle.mq_machine.specs.Want.{Want, Nothing, want_of}
use Rattle.mq_machine.specs.Done.{before, with_waiting}

-- bytes owed above which nothing is read or framed
abbrev pub most_owed : ℕ
most_owed = 65535

abbrev pub is_nothing : Want → Bool
is_nothing Nothing = true
is_nothing want = false

abbrev pub is_ending : Option End → Bool
is_ending None = false
is_ending (Some why) = true

-- it wants nothing, little is owed, and it isn't ending
abbrev pub can_go_on : Conn → Bool
can_go_on c = is_nothing (want_of c) && nat_le (length (owed c)) most_owed && not (is_ending c.ending)

-- ---- frames

-- how many of so many bytes can be framed now: all or none of them in HTTP/1.1, and in HTTP/2 those of one DATA frame
abbrev pub frame_size : Front → ℕ → ℕ → ℕ
frame_size (Head bytes) stream size = 0
frame_size OverHttp1 stream size = size
frame_size (OverHttp2 h) stream size = data_room stream size h

-- these bytes of a capsule are put
abbrev pub framing : Front → ℕ → List ℕ → Putting
framing (Head bytes) stream text = nothing_put (Head bytes)
framing OverHttp1 stream text = record { text = text; front = OverHttp1; ending = None }
framing (OverHttp2 h) stream text = over_http2 (http2.puts_data stream text h)

abbrev pub can_frame : Conn → Tunnel → Bool
can_frame c t = by_waiting t.waiting where
  by_waiting : List Waiting → Bool
  by_waiting [] = false
  by_waiting (w ∷ ws) = nat_lt 0 (frame_size c.front t.stream (length (drop w.framed w.capsule)))

-- the tunnels from this number on, then those before it
abbrev pub tunnels_from : ℕ → List Tunnel → List Tunnel
tunnels_from from ts = filter (λ (t : Tunnel). nat_le from t.id) ts ++ filter (λ (t : Tunnel). nat_lt t.id from) ts

-- the tunnel whose turn it is to be framed
abbrev pub next_framed : Conn → Option Tunnel
next_framed c = if can_go_on c then find (can_frame c) (tunnels_from c.next_tunnel c.tunnels) else None

-- what waits in the tunnel of this stream
abbrev pub set_waiting : ℕ → List Waiting → List Tunnel → List Tunnel
set_waiting stream ws [] = []
set_waiting stream ws (t ∷ ts) = if t.stream == stream then record t { waiting = ws } ∷ ts else t ∷ set_waiting stream ws ts

abbrev pub whole_note : Tunnel → Waiting → What → Note
whole_note t w (Packet from n packet) = note.Delivered from n t.id packet
whole_note t w Value = note.Control t.id w.capsule

-- so many bytes of what waits first are framed
abbrev pub framed_by : Conn → Tunnel → Waiting → List Waiting → ℕ → Note × Conn
framed_by c t w ws count =
    if nat_le (length w.capsule) (w.framed + count)
    then (whole_note t w w.what, record (putting c (framing c.front t.stream (take count (drop w.framed w.capsule)))) { tunnels = set_waiting t.stream ws c.tunnels; next_tunnel = t.id + 1 })
    else (
      note.Part t.id count,
      record (putting c (framing c.front t.stream (take count (drop w.framed w.capsule)))) {
        tunnels = set_waiting t.stream (record w { framed = w.framed + count } ∷ ws) c.tunnels;
        next_tunnel = t.id + 1;
      },
    )

abbrev pub framed_front : Conn → Tunnel → List Waiting → Option (Note × Conn)
framed_front c t [] = None
framed_front c t (w ∷ ws) = Some (framed_by c t w ws (frame_size c.front t.stream (length (drop w.framed w.capsule))))

abbrev pub settled_note : Note × Conn → Note × Conn
settled_note d = (d.0, settle d.1)

-- the next capsule, or as much of it as there is room for
abbrev pub framed : Conn → Option (Note × Conn)
framed c = option_map settled_note (option_and_then (λ (t : Tunnel). framed_front c t t.waiting) (next_framed c))

-- ---- writes

-- so many bytes are given to the link
abbrev pub wrote : Conn → ℕ → Note × Conn
wrote c count = (note.Wrote c.number (take count (owed c)), settle (record c { given = c.given + count }))

-- ---- the end of a link, and its failure

abbrev pub can_read : Conn → Bool
can_read c = can_go_on c && not c.is_finished

abbrev pub finish_by : Conn → Front → Bool → Conn
finish_by c (Head []) inside = record c { ending = Some end.Done }
finish_by c (Head (b ∷ bytes)) inside = record c { ending = Some end.Truncated }
finish_by c OverHttp1 inside = before (act.OfStream 0 (stream.Close (if inside then why.Truncated else why.End))) c
finish_by c (OverHttp2 h) inside = record c { ending = Some (if inside then end.Truncated else end.Done) }

-- The link has ended: inside a capsule of HTTP/1.1 or not, inside a frame or header block of HTTP/2 or not.
abbrev pub finished : Conn → Bool → Note × Conn
finished c inside = (note.Finished c.number, settle (finish_by (record c { is_finished = true }) c.front inside))

-- what is due and what is owed is given up
abbrev pub given_up : End → Conn → Conn
given_up why c = record c { due = []; streams = []; out = take c.given c.out; ending = Some why }

-- the link failed
abbrev pub failed : Conn → Conn
failed c = given_up end.Link c

-- memory was refused
abbrev pub starved : Conn → Conn
starved c = given_up end.NoMemory c

-- ---- what comes to a tunnel

abbrev pub most_packets : ℕ
most_packets = 64

abbrev pub most_waiting : ℕ
most_waiting = 1048576

-- a packet waits last in the tunnel, or too much waits there
abbrev pub queued : Conn → Tunnel → From → ℕ → List ℕ → Note × Conn
queued c t from n packet =
    if nat_le most_packets (packets t) || nat_lt most_waiting (waiting_bytes c + length (capsule_text (datagram packet)))
    then (note.Dropped from n cause.QueueFull, c)
    else (note.Queued from n t.id, with_waiting t.id (record { what = Packet from n packet; capsule = capsule_text (datagram packet); framed = 0 }) c)

-- A packet that came through an inbox goes on with its hop limit lowered, where that can be.
abbrev pub passed_on : Conn → Tunnel → From → ℕ → Option (List ℕ) → Note × Conn
passed_on c t from n None = (note.Dropped from n cause.HopLimit, c)
passed_on c t from n (Some packet) = settled_note (queued c t from n packet)

-- ---- receives

-- the port of a live tunnel has a datagram, or fails
abbrev pub can_receive : Conn → Port → Bool
can_receive c p = is_some (tunnel_of c p.tunnel) && (p.receive_fails || nat_lt 0 (length p.arrived))

-- the port's next datagram
abbrev pub received : Conn → Port → List ℕ → Option (Note × Conn)
received c p datagram = option_map (λ (t : Tunnel). settled_note (queued c t (source.Port p.tunnel) p.received datagram)) (tunnel_of c p.tunnel)

-- one more was received, while that can be counted
abbrev pub port_received : Port → Port
port_received p = record p { arrived = drop 1 p.arrived; received = min (p.received + 1) last_count }

-- the port failed: its tunnel is to close
abbrev pub port_failed : Conn → Tunnel → Conn
port_failed c t = before (act.OfStream t.stream (stream.Close why.Port)) c
