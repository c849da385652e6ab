-- Some states, worked by hand: what the definitions give.
use Rattle.std.specs.Prelude.{codes}
use Rattle.std.proofs.Common.{◌≡◌, ℕ, true, false, List, [], ◌∷◌, ◌++◌, Some, None, refl}
use Rattle.mq_addr.specs.declared.addr.Addr.TheVariants.{V4}
use Rattle.mq_addr.specs.declared.range.Flow.{Flow}
use Rattle.mq_head.specs.Answers.{refusal_text}
use Rattle.mq_outside.specs.Nets.{net_of}
use Rattle.mq_outside.specs.declared.PortPut.TheVariants as put
use Rattle.mq_talk.specs.declared.book.Reply.TheVariants as reply
use Rattle.mq_talk.specs.declared.book.Call.TheVariants as call
use Rattle.mq_talk.specs.declared.goal.Goal.{Goal}
use Rattle.mq_talk.specs.declared.goal.Goal.TheVariants as goal
use Rattle.mq_talk.specs.declared.note.Note.TheVariants as note
use Rattle.mq_talk.specs.declared.note.End.TheVariants as end
use Rattle.mq_talk.specs.declared.note.Why.TheVariants as why
use Rattle.mq_talk.specs.declared.note.From.TheVariants as source
use Rattle.mq_talk.specs.declared.place.Cause.TheVariants as cause
use Rattle.mq_machine.specs.declared.act.Act.TheVariants as act
use Rattle.mq_machine.specs.declared.act.StreamAct.TheVariants as stream
use Rattle.mq_machine.specs.declared.act.Due.{Due}
use Rattle.mq_machine.specs.declared.act.Due.TheVariants as due
use Rattle.mq_machine.specs.State.{Net, Worker, Shared, Conn, new_conn, Tunnel, Packet, OverHttp1, new_link}
use Rattle.mq_machine.specs.Want.{Ask, Push, Over, Said, Bound, Replied, Judged, Pushed, Put, want_of}
use Rattle.mq_machine.specs.Done.{done}
use Rattle.mq_machine.specs.Shared.{new_port}
use Rattle.mq_machine.specs.Steps.{framed, failed, finished}
use Rattle.mq_machine.specs.declared.setup.Setup.{Setup}
use Rattle.mq_talk.specs.declared.place.Parcel.{Parcel}
use Rattle.mq_talk.specs.declared.place.Origin.TheVariants as origin
use Rattle.mq_talk.specs.declared.place.Place.TheVariants as place
use Rattle.mq_talk.specs.declared.place.Verdict.TheVariants as verdict
use Rattle.mq_machine.specs.Reading.{Part, Whole, Other, goal_act, opening_of, preface}
use Rattle.mq_machine.specs.Turn.{Act, Frame, try_of, Offers, Of, turn_of, WorkerTurn, SendNext, pump_try, PumpTurn}

abbrev to_there : Goal
to_there = goal.Udp (V4 3221225985) 443

abbrev asking : Conn
asking = record (new_conn 0 0) { front = OverHttp1; due = due.Do (act.Bind 0 to_there) ∷ [] }

-- ported, opened, wrote, sent
bound : done asking (Bound true) ≡ Some (note.Ported 0 0, record asking { due = due.Do (act.Open 0 to_there) ∷ [] })
bound = refl

wants_open : want_of (record asking { due = due.Do (act.Open 0 to_there) ∷ [] }) ≡ Ask (call.Open 0 0 0 to_there)
wants_open = refl

abbrev tunnel : Tunnel
tunnel = record { id = 0; stream = 0; goal = to_there; waiting = [] }

abbrev served : List Due → Conn
served acts = record (new_conn 0 0) { front = OverHttp1; due = acts; tunnels = tunnel ∷ [] }

sends : done (served (due.Do (act.OfStream 0 (stream.Payload 0 (104 ∷ 105 ∷ []))) ∷ [])) (Put put.Sent 65507)
    ≡ Some (note.Sent (source.Tunnel 0) 0 (104 ∷ 105 ∷ []), served [])
sends = refl

-- a send that waits is no answer, and one that is too long is dropped whatever it answers
waits : done (served (due.Do (act.OfStream 0 (stream.Payload 0 (104 ∷ []))) ∷ [])) (Put put.NotNow 65507) ≡ None
waits = refl

too_long : done (served (due.Do (act.OfStream 0 (stream.Payload 0 (104 ∷ 105 ∷ []))) ∷ [])) (Put put.NotNow 1)
    ≡ Some (note.Dropped (source.Tunnel 0) 0 cause.TooLong, served [])
too_long = refl

-- a malformed stream closes its tunnel, and then the connection is over
closes : done (served (due.Do (act.OfStream 0 (stream.Close why.Malformed)) ∷ due.Do (act.OfStream 0 (stream.Payload 1 (1 ∷ []))) ∷ [])) (Replied reply.Closed)
    ≡ Some (note.Closed 0 why.Malformed 0, record (new_conn 0 0) { front = OverHttp1; ending = Some end.Tunnel })
closes = refl

is_over : want_of (record (new_conn 0 0) { front = OverHttp1; ending = Some end.Tunnel }) ≡ Over end.Tunnel
is_over = refl

-- a bind that fails
unbound : done asking (Bound false) ≡ Some (note.Refused 0 0 502 0, record asking { due = []; out = refusal_text 502; ending = Some end.Refused })
unfolding refusal_text
unbound = refl

-- a datagram that waits is framed whole, and what is due goes before it
abbrev waiting : Conn
waiting = record (served []) { tunnels = record tunnel { waiting = record { what = Packet (source.Port 0) 0 (97 ∷ []); capsule = 0 ∷ 2 ∷ 0 ∷ 97 ∷ []; framed = 0 } ∷ [] } ∷ [] }

frames : framed waiting ≡ Some (note.Delivered (source.Port 0) 0 0 (97 ∷ []), record (served []) { out = 0 ∷ 2 ∷ 0 ∷ 97 ∷ []; next_tunnel = 1 })
frames = refl

acts_first : try_of (record { conn = record waiting { due = due.Do (act.OfStream 0 (stream.Drop 3 cause.UnknownContext)) ∷ [] }; link = new_link; ports = new_port 0 (V4 3221225985) 443 ∷ [] }) ≡ Some Act
acts_first = refl

then_frames : try_of (record { conn = waiting; link = new_link; ports = new_port 0 (V4 3221225985) 443 ∷ [] }) ≡ Some Frame
then_frames = refl

-- a link that failed: the tunnel closes with its connection in the same step
link_fails : want_of (failed waiting) ≡ Ask (call.Close 0)
link_fails = refl

-- the end of the data of an HTTP/1.1 tunnel
ends : finished waiting false ≡ (note.Finished 0, record waiting { is_finished = true; due = due.Do (act.OfStream 0 (stream.Close why.End)) ∷ [] })
ends = refl

then_closes : done (record waiting { is_finished = true; due = due.Do (act.OfStream 0 (stream.Close why.End)) ∷ [] }) (Replied reply.Closed)
    ≡ Some (note.Closed 0 why.End 1, record (new_conn 0 0) { front = OverHttp1; is_finished = true; ending = Some end.Done })
then_closes = refl

-- ---- a tunnel for IP packets

abbrev to_all : Goal
to_all = goal.Ip None None

-- it opens without a port
opens : goal_act 0 to_all ≡ act.Open 0 to_all
opens = refl

abbrev reaching : List Due → Conn
reaching acts = record (new_conn 0 0) { front = OverHttp1; due = acts; tunnels = record { id = 0; stream = 0; goal = to_all; waiting = [] } ∷ [] }

abbrev passing : List Due
passing = due.Do (act.OfStream 0 (stream.Push 4 place.Net (69 ∷ []))) ∷ []

-- a packet that passes by the book of two entries is pushed next, and one that doesn't is dropped
passes : (flow : Flow) → done (reaching (due.Do (act.OfStream 0 (stream.Packet 4 (69 ∷ []) flow)) ∷ [])) (Judged (verdict.Pass place.Net) 2)
    ≡ Some (note.Passed (source.Tunnel 0) 4 2 place.Net, reaching passing)
passes flow = refl

wants_push : want_of (reaching passing) ≡ Push (record { from = origin.Tunnel 0; n = 4; to = place.Net; packet = 69 ∷ [] })
wants_push = refl

no_route : (flow : Flow) → done (reaching (due.Do (act.OfStream 0 (stream.Packet 4 (69 ∷ []) flow)) ∷ [])) (Judged verdict.NoRoute 2)
    ≡ Some (note.Dropped (source.Tunnel 0) 4 cause.NoRoute, reaching [])
no_route flow = refl

inbox_full : done (reaching passing) (Pushed false) ≡ Some (note.Dropped (source.Tunnel 0) 4 cause.InboxFull, reaching [])
inbox_full = refl

-- ---- turns

abbrev beginner : Setup → Worker
beginner setup = record { id = 0; setup = setup; offered = record { number = 0; link = new_link } ∷ []; conns = []; next_seat = 0 }

abbrev accepted_one : Setup → Worker
accepted_one setup = record { id = 0; setup = setup; offered = []; conns = record { conn = new_conn 0 0; link = new_link; ports = [] } ∷ []; next_seat = 1 }

-- the first step accepts, and the next has nothing to do
accepts : (setup : Setup) (sh : Shared) → WorkerTurn (beginner setup) [] sh Said (note.Accepted 0 0) (accepted_one setup) sh
accepts setup sh = record { seat = Offers; turn = refl; next = (refl, refl, refl) }

idle : (setup : Setup) → turn_of (accepted_one setup) [] ≡ None
idle setup = refl

-- a payload goes to its port by a turn of its connection, from whichever seat the search begins
abbrev sending : Setup → List (List ℕ) → List Due → ℕ → Worker
sending setup gone acts next = record {
  id = 0;
  setup = setup;
  offered = [];
  next_seat = next;
  conns = record { conn = served acts; link = new_link; ports = record (new_port 0 (V4 3221225985) 443) { sent = gone } ∷ [] } ∷ [];
}

sends_one : (setup : Setup) (sh : Shared) → WorkerTurn (sending setup [] (due.Do (act.OfStream 0 (stream.Payload 0 (104 ∷ 105 ∷ []))) ∷ []) 3) [] sh
    (Put put.Sent 65507) (note.Sent (source.Tunnel 0) 0 (104 ∷ 105 ∷ [])) (sending setup ((104 ∷ 105 ∷ []) ∷ []) [] 3) sh
sends_one setup sh = record {
  seat = Of 0;
  turn = refl;
  next = record {
    held = _;
    try = Act;
    became = _;
    has = refl;
    tries = refl;
    new_is = refl;
    next = record { answers = refl; ports = refl; is = refl };
  };
}

-- the pump holds a packet that the network doesn't take
abbrev parcel : Parcel
parcel = record { from = origin.Tunnel 0; n = 4; to = place.Net; packet = 69 ∷ [] }

abbrev shut_net : Net
shut_net = record { holds = record (net_of []) { send_waits = true }; received = 0; sent = [] }

holds : (sh : Shared) → PumpTurn (record { mtu = 1500; to_push = None; to_send = None; net = shut_net }) (parcel ∷ [])
    (record sh { boxes = [] ∷ (parcel ∷ []) ∷ [] }) (note.Waits (source.Tunnel 0) 4)
    (record { mtu = 1500; to_push = None; to_send = Some parcel; net = shut_net }) (record sh { boxes = [] ∷ [] ∷ [] })
holds sh = record { try = SendNext; tries = refl; is = refl }

-- and then passes over its inbox
then_waits : pump_try (record { mtu = 1500; to_push = None; to_send = Some parcel; net = shut_net }) (parcel ∷ []) ≡ None
then_waits = refl

-- ---- the preface of HTTP/2

begins_preface : opening_of (codes "PRI") ≡ Part
begins_preface = refl

whole_preface : opening_of (preface ++ 0 ∷ []) ≡ Whole (0 ∷ [])
whole_preface = refl

no_preface : opening_of (codes "GET") ≡ Other
no_preface = refl
