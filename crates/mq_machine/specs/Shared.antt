-- How what actors share answers a want, and what it is then; what a script ordered; what a port is then.
use Rattle.std.specs.Prelude.{◌≡◌, ℕ, ◌==◌, ⊤, Bool, true, false, not, List, [], ◌∷◌, ◌++◌, length, filter, find, nat_lt, if◌then◌else◌, Option, Some, option_map}
use Rattle.mq_addr.specs.declared.addr.Addr.{Addr}
use Rattle.mq_addr.specs.declared.addr.Addr.TheVariants.{V4, V6}
use Rattle.mq_outside.specs.declared.PortPut.{PortPut}
use Rattle.mq_outside.specs.declared.PortPut.TheVariants as put
use Rattle.mq_talk.specs.declared.book.Call.{Call}
use Rattle.mq_talk.specs.declared.book.Call.TheVariants as call
use Rattle.mq_talk.specs.declared.book.Entry.{Entry}
use Rattle.mq_talk.specs.declared.book.Reply.{Reply}
use Rattle.mq_talk.specs.declared.book.Reply.TheVariants as reply
use Rattle.mq_talk.specs.declared.goal.Goal.TheVariants as goal
use Rattle.mq_talk.specs.declared.place.Origin.TheVariants as origin
use Rattle.mq_talk.specs.declared.place.Parcel.{Parcel}
use Rattle.mq_talk.specs.declared.place.Place.{Place}
use Rattle.mq_talk.specs.declared.place.Place.TheVariants as place
use Rattle.mq_talk.specs.Answers.{IsAnswer}
use Rattle.mq_talk.specs.Judging.{IsJudged}
use Rattle.mq_talk.specs.Mails.{has_room, with_parcel}
use Rattle.mq_machine.specs.State.{Port, Orders, Shared}
use Rattle.mq_machine.specs.Want.{Want, Say, Bind, Ask, Judge, Push, Send, Over, Answer, Said, Bound, Replied, Judged, Pushed, Put}

-- ---- the book

-- an answer, and the entries behind it
pub record Asked : Type 0 where
  pub reply : Reply
  pub book : List Entry

abbrev pub written : List Entry → ℕ → Call → Reply → Asked
written book actor call reply = record { reply = reply; book = book ++ record { actor = actor; call = call; reply = reply } ∷ [] }

-- Where the history has no place for an Open, nothing is written; a tunnel whose call finds none is closed.
abbrev pub where_full : List Entry → ℕ → Call → Reply → Asked
where_full book actor (call.Assign tunnel asked) full = written book actor (call.Close tunnel) reply.Closed
where_full book actor (call.Advertise tunnel ranges) full = written book actor (call.Close tunnel) reply.Closed
where_full book actor (call.Open conn stream by goal) full = record { reply = full; book = book }
where_full book actor (call.Close tunnel) full = record { reply = full; book = book }

abbrev pub asked_by : List Entry → ℕ → Call → Reply → Asked
asked_by book actor call (reply.HistoryFull entries live) = where_full book actor call (reply.HistoryFull entries live)
asked_by book actor call (reply.Opened tunnel routes) = written book actor call (reply.Opened tunnel routes)
asked_by book actor call (reply.Assigned list at) = written book actor call (reply.Assigned list at)
asked_by book actor call (reply.Accepted accepts at) = written book actor call (reply.Accepted accepts at)
asked_by book actor call reply.Closed = written book actor call reply.Closed

-- ---- the inboxes

-- whose inbox a place is; the pump's is the last
abbrev pub inbox_of : List (List Parcel) → Place → ℕ
inbox_of boxes (place.Tunnel tunnel actor) = actor
inbox_of [] place.Net = 0
inbox_of (box ∷ boxes) place.Net = length boxes

abbrev pub pushing : Bool → Shared → Parcel → Shared
pushing true sh parcel = record sh { boxes = with_parcel sh.boxes (inbox_of sh.boxes parcel.to) parcel }
pushing false sh parcel = sh

-- ---- all that is shared

-- An actor asks the book: by what that says, the reply, and what is shared then.
pub record Asks (sh : Shared) (actor : ℕ) (call : Call) (reply : Reply) (after : Shared) : Type 0 where
  pub said : Reply
  pub is : IsAnswer sh.config sh.book call said
  pub reply_is : reply ≡ (asked_by sh.book actor call said).reply
  pub after_is : after ≡ record sh { book = (asked_by sh.book actor call said).book }

-- What is shared gives the actor this answer to its want, and is that then. What a bind and a send answer isn't theirs.
abbrev pub Answers : ℕ → Shared → Want → Answer → Shared → Type 0
Answers actor sh Say Said after = after ≡ sh
Answers actor sh (Bind stream goal) (Bound done) after = after ≡ sh
Answers actor sh (Ask call) (Replied reply) after =
    Asks sh actor call reply after
Answers actor sh (Judge tunnel n flow) (Judged verdict at) after =
    (at ≡ length sh.book) × IsJudged sh.config sh.book (origin.Tunnel tunnel) flow verdict × (after ≡ sh)
Answers actor sh (Push parcel) (Pushed done) after =
    (done ≡ has_room sh.boxes (inbox_of sh.boxes parcel.to)) × (after ≡ pushing done sh parcel)
Answers actor sh (Send tunnel n payload) (Put put limit) after = after ≡ sh
Answers actor sh (Over why) Said after = after ≡ sh
Answers actor sh want answer after = ⊥

-- ---- ports

abbrev pub port_of : List Port → ℕ → Option Port
port_of ports tunnel = find (λ (p : Port). p.tunnel == tunnel) ports

-- what a send answers now
abbrev pub put_of : Port → PortPut
put_of p = if p.send_fails then put.Failed else (if p.send_waits then put.NotNow else put.Sent)

abbrev pub port_answer : Port → Answer
port_answer p = Put (put_of p) p.limit

-- The ports of a connection answer a send, and no other want.
abbrev pub PortsAnswer : List Port → Want → Answer → Type 0
PortsAnswer ports (Send tunnel n payload) (Put put limit) =
    option_map port_answer (port_of ports tunnel) ≡ Some (Put put limit)
PortsAnswer ports want answer = ⊤

abbrev pub port_limit : Addr → ℕ
port_limit (V4 bits) = 65507
port_limit (V6 bits) = 65527

abbrev pub new_port : ℕ → Addr → ℕ → Port
new_port tunnel addr number = record {
  tunnel = tunnel;
  addr = addr;
  number = number;
  limit = port_limit addr;
  arrived = [];
  received = 0;
  sent = [];
  send_fails = false;
  send_waits = false;
  receive_fails = false;
}

-- A payload above the limit isn't sent, and uses no failure up.
abbrev pub port_sent : List ℕ → Port → Port
port_sent payload p =
    if nat_lt p.limit (length payload) then p
    else (if p.send_fails then record p { send_fails = false } else record p { sent = p.sent ++ payload ∷ [] })

-- one of a list is changed
abbrev pub at_port : ℕ → (Port → Port) → List Port → List Port
at_port tunnel change [] = []
at_port tunnel change (p ∷ ports) = (if p.tunnel == tunnel then change p else p) ∷ at_port tunnel change ports

abbrev pub without_port : ℕ → List Port → List Port
without_port tunnel ports = filter (λ (p : Port). not (p.tunnel == tunnel)) ports

-- the ports behind an answer: a UDP tunnel's is there from its opening to its close
abbrev pub ports_after : Want → Answer → List Port → List Port
ports_after (Ask (call.Open conn stream actor (goal.Udp addr number))) (Replied (reply.Opened tunnel routes)) ports = ports ++ new_port tunnel addr number ∷ []
ports_after (Ask (call.Close tunnel)) (Replied reply.Closed) ports = without_port tunnel ports
ports_after (Send tunnel n payload) (Put put limit) ports = at_port tunnel (port_sent payload) ports
ports_after want answer ports = ports

-- ---- what a script ordered

-- A bind fails exactly where that was ordered, and uses the order up.
abbrev pub Ordered : Orders → Answer → Orders → Type 0
Ordered old (Bound done) new = (done ≡ not old.bind) × (new ≡ record old { bind = false })
Ordered old Said new = new ≡ old
Ordered old (Replied reply) new = new ≡ old
Ordered old (Judged verdict at) new = new ≡ old
Ordered old (Pushed done) new = new ≡ old
Ordered old (Put put limit) new = new ≡ old
