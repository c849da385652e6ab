-- What a step says of the inboxes is what it does to them.
use Rattle.std.proofs.Common.{◌≡◌, ◌⊎◌, ◌+◌, ℕ, Bool, true, false, not, List, [], ◌∷◌, ◌++◌, nat_le, nat_lt, ◌||◌, ◌&&◌, length, slice_get, slice_set, Option, Some, None, option_map, refl, sym, subst, ap, ◌∙◌, inl, inr}
use Rattle.std.specs.Prelude.{◌==◌, drop, option_and_then}
use Rattle.std.specs.Bool.{MatchBool}
use Rattle.std.specs.List.{AllByRecursion}
use Rattle.std.specs.Option.{is_some}
use Rattle.mq_addr.specs.declared.range.Flow.{Flow}
use Rattle.mq_capsule.specs.declared.item.Item.{Item}
use Rattle.mq_capsule.specs.declared.item.Item.TheVariants as item
use Rattle.mq_capsule.specs.Writing.{capsule_text, datagram}
use Rattle.mq_outside.specs.declared.PortPut.{PortPut}
use Rattle.mq_outside.specs.declared.PortPut.TheVariants as put
use Rattle.mq_outside.specs.Nets.{Arrival}
use Rattle.mq_talk.specs.declared.book.Reply.TheVariants as reply
use Rattle.mq_talk.specs.declared.note.End.{End}
use Rattle.mq_talk.specs.declared.note.From.TheVariants as source
use Rattle.mq_talk.specs.declared.note.Note.{Note}
use Rattle.mq_talk.specs.declared.note.Note.TheVariants as note
use Rattle.mq_talk.specs.declared.place.Cause.{Cause}
use Rattle.mq_talk.specs.declared.place.Cause.TheVariants as cause
use Rattle.mq_talk.specs.declared.place.Origin.{Origin}
use Rattle.mq_talk.specs.declared.place.Origin.TheVariants as origin
use Rattle.mq_talk.specs.declared.place.Parcel.{Parcel}
use Rattle.mq_talk.specs.declared.place.Verdict.{Verdict}
use Rattle.mq_talk.specs.declared.place.Verdict.TheVariants as verdict
use Rattle.mq_talk.specs.Judging.{IsJudged}
use Rattle.mq_talk.specs.Mails.{box_at, has_room}
use Rattle.mq_talk.specs.Packets.{flow_of}
use Rattle.mq_machine.specs.declared.act.Act.{Act}
use Rattle.mq_machine.specs.declared.act.Act.TheVariants as act
use Rattle.mq_machine.specs.declared.act.StreamAct.{StreamAct}
use Rattle.mq_machine.specs.declared.act.StreamAct.TheVariants as stream
use Rattle.mq_machine.specs.declared.act.Due.{Due}
use Rattle.mq_machine.specs.declared.act.Due.TheVariants as due
use Rattle.mq_machine.specs.declared.setup.Setup.{Setup}
use Rattle.mq_machine.specs.Done.{Done, dropped, sent, judged, stream_done, tunnel_done, act_done, due_done, ending_done, done_by, done}
use Rattle.mq_machine.specs.Shared.{Answers, inbox_of, ports_after}
use Rattle.mq_machine.specs.State.{Conn, Stream, Tunnel, Waiting, What, Packet, Value, Port, Held, Offer, Worker, Pump, Shared, tunnel_on, tunnel_of, packets, waiting_bytes}
use Rattle.mq_machine.specs.Steps.{failed, port_failed, framed, framed_by, framed_front, frame_size, next_framed, whole_note, settled_note, queued, passed_on, most_packets, most_waiting}
use Rattle.mq_machine.specs.Turn.{source_of, with_conn, over_or, ActNext, Seat, Offers, Inbox, Of, SeatNext, accepted, popped, tunnel_in, PumpTry, PushHeld, SendHeld, SendNext, Receives, can_pump, pump_try, PumpNext, parcel_pushed, net_sent, net_popped, net_judged, IsMet, IsReceived, with_arrivals, last_of}
use Rattle.mq_machine.specs.Want.{Want, Say, Bind, Ask, Judge, Push, Send, Over, Answer, Said, Bound, Replied, Judged, Pushed, Put, want_of}
use Rattle.mq_machine.specs.Words.{onward}
use Rattle.mq_play.proofs.Lists.{if_both, some_same, each_found}
use Rattle.mq_runs.specs.Inboxes.{parcel_name, held_names, pushed_in, through, left_in, sent_or_failed_in}
use Rattle.mq_runs.specs.Payloads.{IsOf, IsWrong}
use Rattle.mq_runs.proofs.Asked.{Asked, DueOf, DuesOf}
use Rattle.mq_runs.proofs.Boxes.{PushesIn, box_was, want_push}
use Rattle.mq_runs.proofs.Kept.{cases_of}
use Rattle.mq_runs.proofs.Pushes.{pushed_note, done_push}
use Rattle.mq_runs.proofs.Walks.{HandlesHeld, try_walk, map_was, found_passes}

-- nothing was pushed, and nothing left an inbox
pub record Plain (said : Note) : Type 0 where
  pub left : left_in said ≡ []
  pub pushed : (workers i : ℕ) → pushed_in workers i said ≡ []

-- it says that this parcel left an inbox
pub record Leaves (said : Note) (parcel : Parcel) : Type 0 where
  pub left : left_in said ≡ parcel_name parcel ∷ []
  pub pushed : (workers i : ℕ) → pushed_in workers i said ≡ []

-- ---- a connection's step

-- the inboxes are the same, or have a parcel more
abbrev pub HeldSays : Shared → Note → Shared → Type 0
HeldSays sh said after = (Plain said × (after.boxes ≡ sh.boxes)) ⊎ ((parcel : Parcel) × (said ≡ pushed_note parcel) × PushesIn sh parcel after)

abbrev PlainIn : Option (Note × Conn) → Type 0
PlainIn None = Unit {0}
PlainIn (Some d) = Plain d.0

plain_settled : (o : Option (Note × Conn)) → PlainIn o → PlainIn (option_map settled_note o)
plain_settled None h = tt
plain_settled (Some d) h = h

abbrev is_taken : Answer → Bool
is_taken (Pushed true) = true
is_taken answer = false

-- what is wrong with a payload that is dropped as it is read is none of the causes of an inbox
pub not_gone : (mtu : ℕ) (i : Item) → IsWrong mtu i cause.Gone → ⊥
not_gone mtu (item.Datagram context payload) wrong = wrong
not_gone mtu (item.TooLongDatagram context size) wrong = wrong
not_gone mtu (item.Control kind value) wrong = wrong
not_gone mtu (item.Bad fault) wrong = wrong

pub not_limit : (mtu : ℕ) (i : Item) → IsWrong mtu i cause.HopLimit → ⊥
not_limit mtu (item.Datagram context payload) wrong = wrong
not_limit mtu (item.TooLongDatagram context size) wrong = wrong
not_limit mtu (item.Control kind value) wrong = wrong
not_limit mtu (item.Bad fault) wrong = wrong

pub not_full : (mtu : ℕ) (i : Item) → IsWrong mtu i cause.QueueFull → ⊥
not_full mtu (item.Datagram context payload) wrong = wrong
not_full mtu (item.TooLongDatagram context size) wrong = wrong
not_full mtu (item.Control kind value) wrong = wrong
not_full mtu (item.Bad fault) wrong = wrong

drop_plain : (mtu id n : ℕ) (cause : Cause) (i : Item) → IsWrong mtu i cause → Plain (note.Dropped (source.Tunnel id) n cause)
drop_plain mtu id n cause.UnknownContext i wrong = record { left = refl; pushed = λ workers i. refl }
drop_plain mtu id n cause.BadHeader i wrong = record { left = refl; pushed = λ workers i. refl }
drop_plain mtu id n cause.TooLong i wrong = record { left = refl; pushed = λ workers i. refl }
drop_plain mtu id n cause.Source i wrong = record { left = refl; pushed = λ workers i. refl }
drop_plain mtu id n cause.NoRoute i wrong = record { left = refl; pushed = λ workers i. refl }
drop_plain mtu id n cause.InboxFull i wrong = record { left = refl; pushed = λ workers i. refl }
drop_plain mtu id n cause.Port i wrong = record { left = refl; pushed = λ workers i. refl }
drop_plain mtu id n cause.Gone i wrong = absurd (not_gone mtu i wrong)
drop_plain mtu id n cause.HopLimit i wrong = absurd (not_limit mtu i wrong)
drop_plain mtu id n cause.QueueFull i wrong = absurd (not_full mtu i wrong)

module _ (mtu : ℕ) (ss : List Stream) where
  sent_plain : (c : Conn) (t : Tunnel) (n : ℕ) (payload : List ℕ) (did : PortPut) → PlainIn (sent c t n payload did)
  sent_plain c t n payload put.Sent = record { left = refl; pushed = λ workers i. refl }
  sent_plain c t n payload put.Failed = record { left = refl; pushed = λ workers i. refl }
  sent_plain c t n payload put.NotNow = tt

  judged_plain : (c : Conn) (t : Tunnel) (n : ℕ) (packet : List ℕ) (said : Verdict) (at : ℕ) → Plain (judged c t n packet said at).0
  judged_plain c t n packet (verdict.Pass to) at = record { left = refl; pushed = λ workers i. refl }
  judged_plain c t n packet verdict.Source at = record { left = refl; pushed = λ workers i. refl }
  judged_plain c t n packet verdict.NoRoute at = record { left = refl; pushed = λ workers i. refl }

  stream_plain : (c : Conn) (on : ℕ) (t : Tunnel) (a : StreamAct) (answer : Answer) → is_taken answer ≡ false → IsOf mtu ss on a → PlainIn (stream_done c t a answer)
  stream_plain c on t (stream.Payload n payload) (Put did limit) other is =
      if_both PlainIn (nat_lt limit (length payload)) (Some (dropped c t n cause.TooLong)) (sent c t n payload did) (record { left = refl; pushed = λ workers i. refl }) (sent_plain c t n payload did)
  stream_plain c on t (stream.Packet n packet flow) (Judged said at) other is = judged_plain c t n packet said at
  stream_plain c on t (stream.Push n to packet) (Pushed true) other is = absurd cc
  stream_plain c on t (stream.Push n to packet) (Pushed false) other is = record { left = refl; pushed = λ workers i. refl }
  stream_plain c on t (stream.Drop n cause) Said other is = drop_plain mtu t.id n cause is.0 is.2
  stream_plain c on t (stream.Assign asked) (Replied (reply.Assigned list at)) other is = record { left = refl; pushed = λ workers i. refl }
  stream_plain c on t (stream.Assign asked) (Replied reply.Closed) other is = record { left = refl; pushed = λ workers i. refl }
  stream_plain c on t (stream.Advertise ranges) (Replied (reply.Accepted accepts at)) other is = record { left = refl; pushed = λ workers i. refl }
  stream_plain c on t (stream.Advertise ranges) (Replied reply.Closed) other is = record { left = refl; pushed = λ workers i. refl }
  stream_plain c on t (stream.Close why) (Replied reply.Closed) other is = record { left = refl; pushed = λ workers i. refl }
  stream_plain c on t a answer other is = tt

  tunnel_plain : (c : Conn) (on : ℕ) (o : Option Tunnel) (a : StreamAct) (answer : Answer) → is_taken answer ≡ false → IsOf mtu ss on a → PlainIn (tunnel_done c o a answer)
  tunnel_plain c on None a answer other is = tt
  tunnel_plain c on (Some t) a answer other is = stream_plain c on t a answer other is

act_plain : (mtu : ℕ) (ss : List Stream) (c : Conn) (a : Act) (answer : Answer) → is_taken answer ≡ false → DueOf mtu ss (due.Do a) → PlainIn (act_done c a answer)
act_plain mtu ss c (act.Bind id goal) (Bound true) other is = record { left = refl; pushed = λ workers i. refl }
act_plain mtu ss c (act.Bind id goal) (Bound false) other is = record { left = refl; pushed = λ workers i. refl }
act_plain mtu ss c (act.Open id goal) (Replied (reply.Opened tunnel routes)) other is = record { left = refl; pushed = λ workers i. refl }
act_plain mtu ss c (act.Open id goal) (Replied (reply.HistoryFull entries live)) other is = record { left = refl; pushed = λ workers i. refl }
act_plain mtu ss c (act.Refuse id status rule) Said other is = record { left = refl; pushed = λ workers i. refl }
act_plain mtu ss c (act.Reset id code) Said other is = record { left = refl; pushed = λ workers i. refl }
act_plain mtu ss c (act.OfStream on a) answer other is = tunnel_plain mtu ss c on (tunnel_on c on) a answer other is
act_plain mtu ss c a answer other is = tt

due_plain : (mtu : ℕ) (ss : List Stream) (c : Conn) (ds : List Due) (answer : Answer) → is_taken answer ≡ false → DuesOf mtu ss ds → PlainIn (due_done c ds answer)
due_plain mtu ss c [] answer other h = tt
due_plain mtu ss c (due.Do a ∷ rest) answer other h = act_plain mtu ss (record c { due = rest }) a answer other h.0
due_plain mtu ss c (due.Spend id size ∷ rest) answer other h = tt
due_plain mtu ss c (due.Fault code ∷ rest) answer other h = tt

ending_plain : (c : Conn) (ts : List Tunnel) (answer : Answer) → PlainIn (ending_done c ts answer)
ending_plain c (t ∷ ts) (Replied reply.Closed) = record { left = refl; pushed = λ workers i. refl }
ending_plain c ts answer = tt

by_plain : (mtu : ℕ) (c : Conn) (e : Option End) (answer : Answer) → is_taken answer ≡ false → Asked mtu c → PlainIn (done_by c e answer)
by_plain mtu c None answer other h = due_plain mtu c.streams c c.due answer other h
by_plain mtu c (Some why) answer other h = ending_plain c c.tunnels answer

done_plain : (mtu : ℕ) (c : Conn) (answer : Answer) → is_taken answer ≡ false → Asked mtu c → PlainIn (done c answer)
done_plain mtu c answer other h = plain_settled (done_by c c.ending answer) (by_plain mtu c c.ending answer other h)

abbrev PlainHeld : Option (Note × Option Held) → Type 0
PlainHeld None = Unit {0}
PlainHeld (Some d) = Plain d.0

with_conn_plain : (h : Held) (o : Done) → PlainIn o → PlainHeld (option_map (with_conn h) o)
with_conn_plain h None p = tt
with_conn_plain h (Some d) p = p

over_plain : (mtu : ℕ) (h : Held) (want : Want) (answer : Answer) → is_taken answer ≡ false → Asked mtu h.conn → PlainHeld (over_or h want answer)
over_plain mtu h (Over why) answer other asked = record { left = refl; pushed = λ workers i. refl }
over_plain mtu h want answer other asked = with_conn_plain (record h { ports = ports_after want answer h.ports }) (done h.conn answer) (done_plain mtu h.conn answer other asked)

module _ (mtu : ℕ) (h : Held) (sh : Shared) (asked : Asked mtu h.conn) where
  plainly : (want : Want) (answer : Answer) (said : Note) (new : Option Held) (after : Shared) → is_taken answer ≡ false → over_or h want answer ≡ Some (said, new) → after.boxes ≡ sh.boxes → HeldSays sh said after
  plainly want answer said new after other e same = inl (subst PlainHeld e (over_plain mtu h want answer other asked), same)

  taken_says : (parcel : Parcel) (said : Note) (new : Option Held) (after : Shared) → want_of h.conn ≡ Push parcel → Answers h.conn.actor sh (Push parcel) (Pushed true) after
      → over_or h (Push parcel) (Pushed true) ≡ Some (said, new) → HeldSays sh said after
  taken_says parcel said new after wants x e =
      let p = want_push h.conn parcel wants in
      let was = map_was _ (done h.conn (Pushed true)) (said, new) e in
      let told : was.0.0 ≡ note.PushedNote (source.Tunnel p.front.t.id) p.n p.to = done_push h.conn p.n p.to p.packet p.front was.0 was.1 in
      let same : was.0.0 ≡ said = ap (λ (d : Note × Option Held). d.0) was.2 in
      inr (parcel, sym same ∙ (told ∙ sym (ap pushed_note p.is)), record { is = ap (λ (s : Shared). s.boxes) x.1 })

  acted_says : (want : Want) (answer : Answer) (said : Note) (new : Option Held) (after : Shared) → want_of h.conn ≡ want → Answers h.conn.actor sh want answer after
      → over_or h want answer ≡ Some (said, new) → HeldSays sh said after
  acted_says Say Said said new after wants x e = plainly Say Said said new after refl e (ap (λ (s : Shared). s.boxes) x)
  acted_says (Bind stream goal) (Bound b) said new after wants x e = plainly (Bind stream goal) (Bound b) said new after refl e (ap (λ (s : Shared). s.boxes) x)
  acted_says (Ask c) (Replied r) said new after wants x e = plainly (Ask c) (Replied r) said new after refl e (ap (λ (s : Shared). s.boxes) x.after_is)
  acted_says (Judge tunnel n flow) (Judged v at) said new after wants x e = plainly (Judge tunnel n flow) (Judged v at) said new after refl e (ap (λ (s : Shared). s.boxes) x.2)
  acted_says (Push parcel) (Pushed true) said new after wants x e = taken_says parcel said new after wants x e
  acted_says (Push parcel) (Pushed false) said new after wants x e = plainly (Push parcel) (Pushed false) said new after refl e (ap (λ (s : Shared). s.boxes) x.1)
  acted_says (Send tunnel n payload) (Put answer limit) said new after wants x e = plainly (Send tunnel n payload) (Put answer limit) said new after refl e (ap (λ (s : Shared). s.boxes) x)
  acted_says (Over reason) Said said new after wants x e = plainly (Over reason) Said said new after refl e (ap (λ (s : Shared). s.boxes) x)
  acted_says want answer said new after wants x e = absurd x

act_says : (mtu : ℕ) (h : Held) (sh : Shared) (answer : Answer) (said : Note) (new : Option Held) (after : Shared) → Asked mtu h.conn → ActNext h sh answer said new after → HeldSays sh said after
act_says mtu h sh answer said new after asked x = acted_says mtu h sh asked (want_of h.conn) answer said new after refl x.answers x.is

-- ---- what needs other answer

framed_by_plain : (c : Conn) (t : Tunnel) (w : Waiting) (ws : List Waiting) (count : ℕ) → Plain (framed_by c t w ws count).0
framed_by_plain c t w ws count =
    if_both (λ (d : Note × Conn). Plain d.0) (nat_le (length w.capsule) (w.framed + count)) _ _ (whole_plain w.what) (record { left = refl; pushed = λ workers i. refl })
  where
    whole_plain : (what : What) → Plain (whole_note t w what)
    whole_plain (Packet from n packet) = record { left = refl; pushed = λ workers i. refl }
    whole_plain Value = record { left = refl; pushed = λ workers i. refl }

front_plain : (c : Conn) (t : Tunnel) (ws : List Waiting) → PlainIn (framed_front c t ws)
front_plain c t [] = tt
front_plain c t (w ∷ ws) = framed_by_plain c t w ws (frame_size c.front t.stream (length (drop w.framed w.capsule)))

next_plain : (c : Conn) (o : Option Tunnel) → PlainIn (option_and_then (λ (t : Tunnel). framed_front c t t.waiting) o)
next_plain c None = tt
next_plain c (Some t) = front_plain c t t.waiting

framed_plain : (c : Conn) → PlainIn (framed c)
framed_plain c = plain_settled (option_and_then (λ (t : Tunnel). framed_front c t t.waiting) (next_framed c)) (next_plain c (next_framed c))

-- what comes from a port
port_plain : (c : Conn) (t : Tunnel) (port n : ℕ) (packet : List ℕ) → Plain (queued c t (source.Port port) n packet).0
port_plain c t port n packet =
    if_both (λ (d : Note × Conn). Plain d.0) (nat_le most_packets (packets t) || nat_lt most_waiting (waiting_bytes c + length (capsule_text (datagram packet)))) _ _
    (record { left = refl; pushed = λ workers i. refl }) (record { left = refl; pushed = λ workers i. refl })

received_by : (c : Conn) (p : Port) (datagram : List ℕ) (o : Option Tunnel) → PlainIn (option_map (λ (t : Tunnel). settled_note (queued c t (source.Port p.tunnel) p.received datagram)) o)
received_by c p datagram None = tt
received_by c p datagram (Some t) = port_plain c t p.tunnel p.received datagram

handles_says : (setup : Setup) (old : Held) (sh : Shared) → Asked setup.mtu old.conn → HandlesHeld setup old sh (λ said new after. HeldSays sh said after)
handles_says setup old sh asked = record {
  acts = λ answer said new after x. act_says setup.mtu old sh answer said new after asked x;
  link_fails = λ link answer said new after x. act_says setup.mtu (record old { conn = failed old.conn; link = link }) sh answer said new after tt x;
  port_fails = λ p t answer said new after is can x. act_says setup.mtu (record old { conn = port_failed old.conn t }) sh answer said new after (tt, asked) x;
  frames = λ d is. inl (subst PlainIn is (framed_plain old.conn), refl);
  writes = inl (record { left = refl; pushed = λ workers i. refl }, refl);
  reads = λ first c link took. inl (record { left = refl; pushed = λ workers i. refl }, refl);
  ends = λ inside x can. inl (record { left = refl; pushed = λ workers i. refl }, refl);
  receives = λ p datagram others d port arrived came. inl (subst PlainIn came (received_by old.conn p datagram (tunnel_of old.conn p.tunnel)), refl);
}

-- ---- a worker's turn

-- the inboxes are the same, or have a parcel more, or the worker's own lost its front
abbrev pub SeatSays : Worker → Shared → Note → Shared → Type 0
SeatSays w sh said after =
    HeldSays sh said after ⊎ ((parcel : Parcel) × (rest : List Parcel) × (slice_get sh.boxes w.id ≡ Some (parcel ∷ rest)) × (after.boxes ≡ slice_set sh.boxes w.id rest) × Leaves said parcel)

through_named : (o : Origin) (n : ℕ) → through (source_of o) n ≡ (source_of o, n) ∷ []
through_named (origin.Tunnel t) n = refl
through_named origin.Net n = refl

passed_leaves : (c : Conn) (t : Tunnel) (parcel : Parcel) (o : Option (List ℕ)) → Leaves (passed_on c t (source_of parcel.from) parcel.n o).0 parcel
passed_leaves c t parcel None = record { left = through_named parcel.from parcel.n; pushed = λ workers i. refl }
passed_leaves c t parcel (Some packet) =
    if_both (λ (d : Note × Conn). Leaves d.0 parcel) (nat_le most_packets (packets t) || nat_lt most_waiting (waiting_bytes c + length (capsule_text (datagram packet)))) _ _
    (record { left = through_named parcel.from parcel.n; pushed = λ workers i. refl }) (record { left = through_named parcel.from parcel.n; pushed = λ workers i. refl })

popped_leaves : (w : Worker) (parcel : Parcel) → Leaves (popped w parcel).0 parcel
popped_leaves w parcel =
    elim (cases_of (tunnel_in w parcel.to)) [
      | inl none ↦ rw none (record { left = through_named parcel.from parcel.n; pushed = λ workers i. refl })
      | inr (found, some) ↦ rw some (passed_leaves found.0.conn found.1 parcel (onward parcel.packet))
    ]

accepted_plain : (w : Worker) (offered : List Offer) (said : Note) (new : Worker) → accepted w offered ≡ Some (said, new) → Plain said
accepted_plain w [] said new e = absurd cc
accepted_plain w (o ∷ offered) said new e = subst (λ (d : Note × Worker). Plain d.0) (some_same e) (record { left = refl; pushed = λ workers i. refl })

pub seat_says : (w : Worker) (sh : Shared) (seat : Seat) (answer : Answer) (said : Note) (new : Worker) (after : Shared)
    → AllByRecursion (λ (g : Held). Asked w.setup.mtu g.conn) w.conns → SeatNext w sh seat answer said new after → SeatSays w sh said after
seat_says w sh Offers answer said new after asked x = inl (inl (accepted_plain w w.offered said new x.1, ap (λ (s : Shared). s.boxes) x.2))
seat_says w sh Inbox answer said new after asked x =
    let leaves = subst (λ (d : Note × Worker). Leaves d.0 x.1.parcel) x.1.is (popped_leaves w x.1.parcel) in
    inr (x.1.parcel, x.1.rest, x.1.box, ap (λ (s : Shared). s.boxes) x.1.after_is, leaves)
seat_says w sh (Of n) answer said new after asked x =
    let own = each_found (λ (g : Held). Asked w.setup.mtu g.conn) (λ (g : Held). g.conn.number == n) w.conns x.held asked x.has in
    inl (try_walk w.setup x.held sh (λ said new after. HeldSays sh said after) (handles_says w.setup x.held sh own) x.try answer said x.became after x.tries x.next)

-- ---- the pump's

-- nothing was pushed, and the pump is done with nothing
pub record Still (said : Note) : Type 0 where
  pub sent : sent_or_failed_in said ≡ []
  pub pushed : (workers i : ℕ) → pushed_in workers i said ≡ []

-- the parcel was sent, or it is held
pub record Sends (said : Note) (q : Pump) (parcel : Parcel) : Type 0 where
  pub sent : sent_or_failed_in said ++ held_names q.to_send ≡ parcel_name parcel ∷ []
  pub pushed : (workers i : ℕ) → pushed_in workers i said ≡ []

-- it was held, or was the first in the pump's inbox, and none was held
abbrev pub WasHeld : Pump → Shared → Shared → Parcel → Type 0
WasHeld p sh after parcel =
    ((p.to_send ≡ Some parcel) × (after.boxes ≡ sh.boxes))
    ⊎ ((rest : List Parcel) × (p.to_send ≡ None) × (slice_get sh.boxes (last_of sh.boxes) ≡ Some (parcel ∷ rest)) × (after.boxes ≡ slice_set sh.boxes (last_of sh.boxes) rest))

abbrev pub PumpSays : Pump → Shared → Note × Pump × Shared → Type 0
PumpSays p sh d =
    (Still d.0 × (d.2.boxes ≡ sh.boxes) × (d.1.to_send ≡ p.to_send))
    ⊎ (((parcel : Parcel) × (d.0 ≡ pushed_note parcel) × PushesIn sh parcel d.2 × (d.1.to_send ≡ p.to_send))
    ⊎ ((parcel : Parcel) × Sends d.0 d.1 parcel × WasHeld p sh d.2 parcel))

pushed_says : (p : Pump) (sh : Shared) (parcel : Parcel) (b : Bool) → PumpSays p sh (parcel_pushed p sh parcel b)
pushed_says p sh parcel true = inr (inl (parcel, refl, record { is = refl }, refl))
pushed_says p sh parcel false = inl (record { sent = refl; pushed = λ workers i. refl }, refl, refl)

sent_says : (p : Pump) (sh now : Shared) (parcel : Parcel) → WasHeld p sh now parcel → PumpSays p sh (net_sent p now parcel)
sent_says p sh now parcel was =
    if_both (PumpSays p sh) p.net.holds.send_fails _ _ (inr (inr (parcel, record { sent = refl; pushed = λ workers i. refl }, was)))
    (if_both (PumpSays p sh) p.net.holds.send_waits _ _ (inr (inr (parcel, record { sent = refl; pushed = λ workers i. refl }, was))) (inr (inr (parcel, record { sent = refl; pushed = λ workers i. refl }, was))))

next_says : (p : Pump) (sh : Shared) (box : List Parcel) (d : Note × Pump × Shared) → p.to_send ≡ None → box_at sh.boxes (last_of sh.boxes) ≡ box → net_popped p sh (last_of sh.boxes) box ≡ Some d → PumpSays p sh d
next_says p sh [] d none is e = absurd cc
next_says p sh (parcel ∷ rest) d none is e =
    let at = box_was (slice_get sh.boxes (last_of sh.boxes)) parcel rest is in
    subst (PumpSays p sh) (some_same e) (sent_says p sh (record sh { boxes = slice_set sh.boxes (last_of sh.boxes) rest }) parcel (inr (rest, none, at, refl)))

module _ (p : Pump) (sh : Shared) (others : List Arrival) where
  abbrev now : Pump
  now = record p { net = with_arrivals others p.net }

  judged_says : (packet : List ℕ) (said : Verdict) → PumpSays p sh (net_judged now sh p.net.received packet said)
  judged_says packet (verdict.Pass to) = inl (record { sent = refl; pushed = λ workers i. refl }, refl, refl)
  judged_says packet verdict.Source = inl (record { sent = refl; pushed = λ workers i. refl }, refl, refl)
  judged_says packet verdict.NoRoute = inl (record { sent = refl; pushed = λ workers i. refl }, refl, refl)

  fits_says : (b : Bool) (packet : List ℕ) (flow : Flow) (d : Note × Pump × Shared)
      → MatchBool b (d ≡ (note.Dropped source.Net p.net.received cause.TooLong, now, sh)) ((said : Verdict) × IsJudged sh.config sh.book origin.Net flow said × (d ≡ net_judged now sh p.net.received packet said)) → PumpSays p sh d
  fits_says true packet flow d x = subst (PumpSays p sh) (sym x) (inl (record { sent = refl; pushed = λ workers i. refl }, refl, refl))
  fits_says false packet flow d x = subst (PumpSays p sh) (sym x.2) (judged_says packet x.0)

  met_says : (packet : List ℕ) (o : Option Flow) (d : Note × Pump × Shared) → IsMet now sh p.net.received packet o d → PumpSays p sh d
  met_says packet None d x = subst (PumpSays p sh) (sym x) (inl (record { sent = refl; pushed = λ workers i. refl }, refl, refl))
  met_says packet (Some flow) d x = fits_says (nat_lt p.mtu (length packet)) packet flow d x

received_says : (p : Pump) (sh : Shared) (arrived : List Arrival) (d : Note × Pump × Shared) → IsReceived p sh arrived d → PumpSays p sh d
received_says p sh [] d x = absurd x
received_says p sh (first ∷ others) d x = met_says p sh others first.packet (flow_of first.packet) d x

no_hand : (o : Option Parcel) (b : Bool) → not (is_some o) && b ≡ true → o ≡ None
no_hand None b e = refl
no_hand (Some parcel) b e = absurd cc

pub pump_says : (p : Pump) (box : List Parcel) (sh : Shared) (try : PumpTry) (d : Note × Pump × Shared) → pump_try p box ≡ Some try → PumpNext p sh try d → PumpSays p sh d
pump_says p box sh PushHeld d tries x =
    let was = map_was (λ (parcel : Parcel). parcel_pushed p sh parcel (has_room sh.boxes (inbox_of sh.boxes parcel.to))) p.to_push d x in
    subst (PumpSays p sh) was.2 (pushed_says p sh was.0 (has_room sh.boxes (inbox_of sh.boxes was.0.to)))
pump_says p box sh SendHeld d tries x = let was = map_was (net_sent p sh) p.to_send d x in subst (PumpSays p sh) was.2 (sent_says p sh sh was.0 (inl (was.1, refl)))
pump_says p box sh SendNext d tries x =
    let can = found_passes (can_pump p box) (PushHeld ∷ SendHeld ∷ SendNext ∷ Receives ∷ []) SendNext tries in
    next_says p sh (box_at sh.boxes (last_of sh.boxes)) d (no_hand p.to_send (nat_lt 0 (length box)) can) refl x
pump_says p box sh Receives d tries x = received_says p sh p.net.holds.arrived d x
