-- A step with which a connection ends: it has no tunnel then.
use Rattle.std.proofs.Common.{◌≡◌, ℕ, cond, Bool, true, false, List, [], ◌∷◌, nat_le, Option, Some, None, refl, sym, ap, subst, ◌∙◌}
use Rattle.mq_capsule.specs.Writing.{datagram}
use Rattle.mq_talk.specs.declared.book.Call.TheVariants as call
use Rattle.mq_talk.specs.declared.note.End.{End}
use Rattle.mq_talk.specs.declared.note.Note.{Note}
use Rattle.mq_outside.specs.Links.{room_left}
use Rattle.mq_machine.specs.declared.act.Act.TheVariants as act
use Rattle.mq_machine.specs.declared.act.StreamAct.{StreamAct}
use Rattle.mq_machine.specs.declared.act.StreamAct.TheVariants as stream
use Rattle.mq_machine.specs.declared.act.Due.{Due}
use Rattle.mq_machine.specs.declared.act.Due.TheVariants as due
use Rattle.mq_machine.specs.declared.setup.Setup.{Setup}
use Rattle.mq_machine.specs.State.{Conn, Tunnel, Port, Held, Shared, tunnel_of, tunnel_on, values}
use Rattle.mq_machine.specs.Want.{Want, Nothing, Say, Bind, Ask, Judge, Push, Send, Over, Answer, Said, Bound, Replied, Judged, Pushed, Put, want_of, want_by}
use Rattle.mq_machine.specs.Want.{due_want, tunnel_want, ending_want, most_values}
use Rattle.mq_machine.specs.Done.{done}
use Rattle.mq_machine.specs.Shared.{Answers, at_port}
use Rattle.mq_machine.specs.Steps.{wrote, finished, failed, received, port_failed, port_received}
use Rattle.mq_machine.specs.Turn.{ActNext, WriteNext, ReadNext, ReceiveNext, PortNext, TakesNext, over_or, received_from, receive_failed, write_count}
use Rattle.mq_actor.proofs.Searches.{Same}
use Rattle.mq_actor.proofs.Behind.{ported, unmapped, conn_stays}

-- ---- its want

-- only where nothing else is left it ends
ended_over : (h : Held) (w : Want) (a : Answer) (n : Note) → over_or h w a ≡ Some (n, None) → (why : End) × (w ≡ Over why)
ended_over h Nothing a n is = absurd (unmapped (ported h Nothing a) (done h.conn a) n is)
ended_over h Say a n is = absurd (unmapped (ported h Say a) (done h.conn a) n is)
ended_over h (Bind id goal) a n is = absurd (unmapped (ported h (Bind id goal) a) (done h.conn a) n is)
ended_over h (Ask asked) a n is = absurd (unmapped (ported h (Ask asked) a) (done h.conn a) n is)
ended_over h (Judge tunnel k flow) a n is = absurd (unmapped (ported h (Judge tunnel k flow) a) (done h.conn a) n is)
ended_over h (Push parcel) a n is = absurd (unmapped (ported h (Push parcel) a) (done h.conn a) n is)
ended_over h (Send tunnel k payload) a n is = absurd (unmapped (ported h (Send tunnel k payload) a) (done h.conn a) n is)
ended_over h (Over why) a n is = (why, refl)

over_answers : (actor : ℕ) (sh after : Shared) (why : End) (a : Answer) → Answers actor sh (Over why) a after → after ≡ sh
over_answers actor sh after why Said answers = answers
over_answers actor sh after why (Bound did) answers = absurd answers
over_answers actor sh after why (Replied said) answers = absurd answers
over_answers actor sh after why (Judged v at) answers = absurd answers
over_answers actor sh after why (Pushed did) answers = absurd answers
over_answers actor sh after why (Put port limit) answers = absurd answers

tunnel_not_over : (o : Option Tunnel) (a : StreamAct) (why : End) → tunnel_want o a ≡ Over why → ⊥
tunnel_not_over None a why w = cc
tunnel_not_over (Some t) (stream.Payload n payload) why w = cc
tunnel_not_over (Some t) (stream.Packet n packet flow) why w = cc
tunnel_not_over (Some t) (stream.Push n to packet) why w = cc
tunnel_not_over (Some t) (stream.Drop n cause) why w = cc
tunnel_not_over (Some t) (stream.Assign asked) why w = by_full (nat_le most_values (values t)) w where
  by_full : (b : Bool) → cond b (Ask (call.Close t.id)) (Ask (call.Assign t.id asked)) ≡ Over why → ⊥
  by_full true e = cc
  by_full false e = cc
tunnel_not_over (Some t) (stream.Advertise ranges) why w = cc
tunnel_not_over (Some t) (stream.Close reason) why w = cc

due_not_over : (s : Conn) (ds : List Due) (why : End) → due_want s ds ≡ Over why → ⊥
due_not_over s [] why w = cc
due_not_over s (due.Do (act.Bind id goal) ∷ rest) why w = cc
due_not_over s (due.Do (act.Open id goal) ∷ rest) why w = cc
due_not_over s (due.Do (act.Refuse id status rule) ∷ rest) why w = cc
due_not_over s (due.Do (act.Reset id code) ∷ rest) why w = cc
due_not_over s (due.Do (act.OfStream id a) ∷ rest) why w = tunnel_not_over (tunnel_on s id) a why w
due_not_over s (due.Spend id size ∷ rest) why w = cc
due_not_over s (due.Fault code ∷ rest) why w = cc

ending_bare : (s : Conn) (e why : End) (ts : List Tunnel) → ending_want s e ts ≡ Over why → ts ≡ []
ending_bare s e why [] w = refl
ending_bare s e why (t ∷ ts) w = absurd cc

bare_by : (s : Conn) (e : Option End) (why : End) → want_by s e ≡ Over why → s.tunnels ≡ []
bare_by s None why w = absurd (due_not_over s s.due why w)
bare_by s (Some e) why w = ending_bare s e why s.tunnels w

-- a connection without tunnels ended, and nothing was written
abbrev pub Ends : Conn → Shared → Shared → Type 0
Ends s sh after = (s.tunnels ≡ []) × (after.book ≡ sh.book)

-- what was wanted was the end
pub act_ends : (old : Held) (sh after : Shared) (answer : Answer) (said : Note) → ActNext old sh answer said None after → Ends old.conn sh after
act_ends old sh after answer said next =
    let over = ended_over old (want_of old.conn) answer said next.is in
    let A : Want → Type 0 = λ w. Answers old.conn.actor sh w answer after in
    let after_is : after ≡ sh = over_answers old.conn.actor sh after over.0 answer (subst A over.1 next.answers) in
    let bare : old.conn.tunnels ≡ [] = bare_by old.conn old.conn.ending over.0 over.1 in
    (bare, ap (λ (x : Shared). x.book) after_is)

-- ---- failures

-- a failed link leaves all but what is due
pub failed_same : (s : Conn) → Same s (failed s)
failed_same s = record { number = refl; actor = refl; tunnels = refl; next = refl }

-- so does a failed port
pub port_same : (s : Conn) (t : Tunnel) → Same s (port_failed s t)
port_same s t = record { number = refl; actor = refl; tunnels = refl; next = refl }

-- it ends where its link or its port failed
ends_before : (s x : Conn) (h : Held) (sh after : Shared) (answer : Answer) (said : Note) → Same s x → ActNext (record h { conn = x }) sh answer said None after
    → Ends s sh after
ends_before s x h sh after answer said same next =
    let e = act_ends (record h { conn = x }) sh after answer said next in (sym same.tunnels ∙ e.0, e.1)

-- ---- writes, reads and receives

-- with a write it ends only where its link failed
pub write_ends : (old : Held) (sh after : Shared) (fails : Bool) (answer : Answer) (said : Note) → WriteNext fails old sh answer said None after
    → Ends old.conn sh after
write_ends old sh after true answer said next =
    ends_before old.conn (failed old.conn) (record old { link = record old.link { write_fails = false } }) sh after answer said (failed_same old.conn) next
write_ends old sh after false answer said next =
    let h : Held = record old { link = record old.link { room = room_left old.link.room (write_count old) } } in
    absurd (conn_stays h (wrote old.conn (write_count old)) said next.is)

takes_on : (setup : Setup) (old : Held) (pieces : List (List ℕ)) (said : Note) → TakesNext setup old pieces said None → ⊥
takes_on setup old [] said next = conn_stays old (finished old.conn next.inside) said next.is
takes_on setup old (first ∷ others) said next = let none = next.new_is in cc

-- and so with a read
pub read_ends : (setup : Setup) (old : Held) (sh after : Shared) (fails : Bool) (answer : Answer) (said : Note)
    → ReadNext fails setup old sh answer said None after → Ends old.conn sh after
read_ends setup old sh after true answer said next =
    ends_before old.conn (failed old.conn) (record old { link = record old.link { read_fails = false } }) sh after answer said (failed_same old.conn) next
read_ends setup old sh after false answer said next = absurd (takes_on setup old old.link.pieces said next.1)

receive_on : (old : Held) (p : Port) (waiting : List (List ℕ)) (n : Note) → received_from old p waiting ≡ Some (n, None) → ⊥
receive_on old p [] n is = cc
receive_on old p (datagram ∷ others) n is = unmapped (record old { ports = at_port p.tunnel port_received old.ports }) (received old.conn p datagram) n is

receive_fails_ends : (old : Held) (sh after : Shared) (p : Port) (o : Option Tunnel) (answer : Answer) (said : Note)
    → ActNext (receive_failed old p o) sh answer said None after
    → Ends old.conn sh after
receive_fails_ends old sh after p None answer said next = act_ends old sh after answer said next
receive_fails_ends old sh after p (Some t) answer said next = ends_before old.conn (port_failed old.conn t) old sh after answer said (port_same old.conn t) next

port_next_ends : (old : Held) (sh after : Shared) (p : Port) (fails : Bool) (answer : Answer) (said : Note) → PortNext fails old p sh answer said None after
    → Ends old.conn sh after
port_next_ends old sh after p true answer said next = receive_fails_ends old sh after p (tunnel_of old.conn p.tunnel) answer said next
port_next_ends old sh after p false answer said next = absurd (receive_on old p p.arrived said next.is)

-- and with a receive only where its port failed
pub receive_ends : (old : Held) (sh after : Shared) (o : Option Port) (answer : Answer) (said : Note) → ReceiveNext o old sh answer said None after
    → Ends old.conn sh after
receive_ends old sh after None answer said next = absurd next
receive_ends old sh after (Some p) answer said next = port_next_ends old sh after p p.receive_fails answer said next
