-- States by setups whose templates texts tell, whose books may be, and whose tunnels have numbers that the book gave: steps and
-- events lead to such states.
use Rattle.std.proofs.Common.{◌≡◌, ◌⊎◌, ◌≤◌, ◌<◌, ◌+◌, ℕ, arith, zero, suc, Bool, true, false, List, [], ◌∷◌, length, take, Option, Some, None, slice_set, subst, sym, ap, refl, inl, inr}
use Rattle.std.specs.Prelude.{option_map, find, ◌==◌, nat_lt}
use Rattle.std.specs.Bool.{MatchBool}
use Rattle.std.specs.List.{AllByRecursion}
use Rattle.std.proofs.lemmas.List.{length_push}
use Rattle.mq_addr.specs.declared.kind.Kind.{Kind}
use Rattle.mq_addr.specs.declared.kind.Kind.TheVariants as kind
use Rattle.mq_addr.specs.declared.range.Flow.{Flow}
use Rattle.mq_addr.specs.declared.range.Range.{Range}
use Rattle.mq_talk.specs.declared.book.Call.{Call}
use Rattle.mq_talk.specs.declared.book.Call.TheVariants as call
use Rattle.mq_talk.specs.declared.book.Config.{Config}
use Rattle.mq_talk.specs.declared.book.Entry.{Entry}
use Rattle.mq_talk.specs.declared.book.Reply.{Reply}
use Rattle.mq_talk.specs.declared.book.Reply.TheVariants as reply
use Rattle.mq_talk.specs.declared.note.Note.{Note}
use Rattle.mq_talk.specs.declared.place.Parcel.{Parcel}
use Rattle.mq_talk.specs.declared.place.Place.{Place}
use Rattle.mq_talk.specs.declared.place.Place.TheVariants as place
use Rattle.mq_talk.specs.declared.place.Verdict.{Verdict}
use Rattle.mq_talk.specs.declared.place.Verdict.TheVariants as verdict
use Rattle.mq_talk.specs.Mails.{has_room, box_at}
use Rattle.mq_talk.specs.Answers.{IsAnswer, IsWritten}
use Rattle.mq_talk.specs.Packets.{flow_of}
use Rattle.mq_outside.specs.Nets.{Arrival}
use Rattle.mq_machine.specs.declared.event.Event.{Event}
use Rattle.mq_machine.specs.declared.event.Event.TheVariants as event
use Rattle.mq_machine.specs.declared.setup.Setup.{Setup}
use Rattle.mq_machine.specs.Words.{onward}
use Rattle.mq_machine.specs.State.{new_conn, Tunnel, Link, Port, Held, Offer, Worker, Pump, Shared, State, tunnel_of, kind_of}
use Rattle.mq_machine.specs.Want.{Want, Say, Bind, Ask, Judge, Push, Send, Over, Answer, Said, Bound, Replied, Judged, Pushed, Put, want_of}
use Rattle.mq_machine.specs.Done.{Done, done}
use Rattle.mq_machine.specs.Shared.{Asked, Answers, Asks, written, at_port, port_of, where_full, asked_by, pushing, ports_after, inbox_of}
use Rattle.mq_machine.specs.Steps.{framed, finished, starved, received, port_received}
use Rattle.mq_machine.specs.Turn.{Try, Act, Frame, Write, Read, Receive, HeldDone, with_conn, over_or, acted, ActNext, OwnNext, TakesNext, WriteNext, ReadNext, PortNext, ReceiveNext, TryNext, frame_done, write_done, received_from, write_failed, read_failed, receive_failed, write_count, most_read, Seat, Offers, Inbox, Of, accepted, replace, came_to, tunnel_in, popped, has_tunnel, SeatNext, source_of, PumpTry, PushHeld, SendHeld, SendNext, Receives, PumpNext, parcel_pushed, net_sent, net_popped, net_judged, IsMet, IsReceived, with_arrivals, last_of, Actor, WorkerOf, ThePump, Turn}
use Rattle.mq_machine.specs.Silent.{Reached, Heard, SeatStarves, SilentTurn}
use Rattle.mq_play.specs.Events.{at_held, at_worker, at_link, with_ports, with_held_ports, with_port, offered_to, happen}
use Rattle.mq_play.proofs.Lists.{if_both, each_append, each_map, each_at, each_set, each_found}
use Rattle.mq_play.proofs.Owned.{NamesOld, Good, apart_step}
use Rattle.mq_play.proofs.Tunnels.{AreGiven, after_given, HasGiven, DoneGiven, GivesOne, WantsGiven, act_done_given, wants_given, framed_given, wrote_given, took_given, finished_given, passed_on_given, received_given, given_more}

abbrev pub HeldGiven : ℕ → Held → Type 0
HeldGiven n h = HasGiven n h.conn

pub record GivenWorker (n : ℕ) (w : Worker) : Type 0 where
  pub conns : AllByRecursion (HeldGiven n) w.conns

pub record Lawful (s : State) : Type 0 where
  pub workers : AllByRecursion (GivenWorker (length s.shared.book)) s.workers
  pub book : Good s.shared.config s.shared.book

held_more : (n m : ℕ) (hs : List Held) → n ≤ m → AllByRecursion (HeldGiven n) hs → AllByRecursion (HeldGiven m) hs
held_more n m [] more h = tt
held_more n m (g ∷ hs) more h = (given_more n m g.conn.tunnels more h.0, held_more n m hs more h.1)

workers_more : (n m : ℕ) (ws : List Worker) → n ≤ m → AllByRecursion (GivenWorker n) ws → AllByRecursion (GivenWorker m) ws
workers_more n m [] more h = tt
workers_more n m (w ∷ ws) more h = (record { conns = held_more n m w.conns more h.0.conns }, workers_more n m ws more h.1)

-- ---- what is shared

-- the book goes on: it is one that may be, of no fewer entries
record GoesOn (sh after : Shared) : Type 0 where
  good : Good after.config after.book
  more : length sh.book ≤ length after.book

stays_so : (sh after : Shared) → Good sh.config sh.book → after ≡ sh → GoesOn sh after
stays_so sh after g e = subst (λ (s : Shared). GoesOn sh s) (sym e) (record { good = g; more = omega arith })

-- what the book is behind a call, and the number that this gives
record AskedSo (config : Config) (book : List Entry) (asked : Asked) : Type 0 where
  good : Good config asked.book
  more : length book ≤ length asked.book
  gives : GivesOne (length asked.book) (Replied asked.reply)

written_so : (config : Config) (book : List Entry) (actor : ℕ) (c : Call) (r : Reply) → Good config book → NamesOld (length book) c → IsAnswer config book c r → IsWritten r
    → GivesOne (length book + 1) (Replied r) → AskedSo config book (written book actor c r)
written_so config book actor c r g old answer is gives =
    let long = length_push book (record { actor = actor; call = c; reply = r }) in
    record {
      good = record { config_is = g.config_is; apart = apart_step config book actor c r g.apart old answer is };
      more = omega (arith, long);
      gives = subst (λ n. GivesOne n (Replied r)) (sym long) gives;
    }

opened_so : (config : Config) (book : List Entry) (c : Call) (tunnel : ℕ) (routes : List Range) → IsAnswer config book c (reply.Opened tunnel routes) → tunnel < length book + 1
opened_so config book (call.Open conn stream names goal) tunnel routes x = let same = x.1 in omega (arith, same)
opened_so config book (call.Assign u asked) tunnel routes x = absurd x
opened_so config book (call.Advertise u ranges) tunnel routes x = absurd x
opened_so config book (call.Close u) tunnel routes x = absurd x

full_so : (config : Config) (book : List Entry) (actor : ℕ) (c : Call) (entries live : ℕ) → Good config book → AskedSo config book (where_full book actor c (reply.HistoryFull entries live))
full_so config book actor (call.Open conn stream names goal) entries live g = record { good = g; more = omega arith; gives = tt }
full_so config book actor (call.Close tunnel) entries live g = record { good = g; more = omega arith; gives = tt }
full_so config book actor (call.Assign tunnel asked) entries live g = written_so config book actor (call.Close tunnel) reply.Closed g tt tt tt tt
full_so config book actor (call.Advertise tunnel ranges) entries live g = written_so config book actor (call.Close tunnel) reply.Closed g tt tt tt tt

asked_so : (config : Config) (book : List Entry) (actor : ℕ) (c : Call) (said : Reply) → Good config book → NamesOld (length book) c → IsAnswer config book c said → AskedSo config book (asked_by book actor c said)
asked_so config book actor c (reply.HistoryFull entries live) g old x = full_so config book actor c entries live g
asked_so config book actor c (reply.Opened tunnel routes) g old x = written_so config book actor c (reply.Opened tunnel routes) g old x tt (opened_so config book c tunnel routes x)
asked_so config book actor c (reply.Assigned list at) g old x = written_so config book actor c (reply.Assigned list at) g old x tt tt
asked_so config book actor c (reply.Accepted accepts at) g old x = written_so config book actor c (reply.Accepted accepts at) g old x tt tt
asked_so config book actor c reply.Closed g old x = written_so config book actor c reply.Closed g old x tt tt

pushed_on : (b : Bool) (sh : Shared) (parcel : Parcel) → Good sh.config sh.book → GoesOn sh (pushing b sh parcel)
pushed_on true sh parcel g = record { good = g; more = omega arith }
pushed_on false sh parcel g = record { good = g; more = omega arith }

-- an answer of what is shared, and the number that it gives
record AnswersSo (sh : Shared) (answer : Answer) (after : Shared) : Type 0 where
  goes : GoesOn sh after
  gives : GivesOne (length after.book) answer

replied_so : (actor : ℕ) (sh : Shared) (c : Call) (r : Reply) (after : Shared) → NamesOld (length sh.book) c → Good sh.config sh.book → Asks sh actor c r after → AnswersSo sh (Replied r) after
replied_so actor sh c r after old g x =
    let so = asked_so sh.config sh.book actor c x.said g old x.is in
    let now = asked_by sh.book actor c x.said in
    let P : Reply → Type 0 = λ r. AnswersSo sh (Replied r) (record sh { book = now.book }) in
    subst (λ (s : Shared). AnswersSo sh (Replied r) s) (sym x.after_is)
    (subst P (sym x.reply_is) (record { goes = record { good = so.good; more = so.more }; gives = so.gives }))

answers_so : (actor : ℕ) (sh : Shared) (want : Want) (answer : Answer) (after : Shared) → WantsGiven (length sh.book) want → Good sh.config sh.book → Answers actor sh want answer after → AnswersSo sh answer after
answers_so actor sh Say Said after w g x = record { goes = stays_so sh after g x; gives = tt }
answers_so actor sh (Bind stream goal) (Bound b) after w g x = record { goes = stays_so sh after g x; gives = tt }
answers_so actor sh (Ask c) (Replied r) after w g x = replied_so actor sh c r after w g x
answers_so actor sh (Judge tunnel n flow) (Judged v at) after w g x = record { goes = stays_so sh after g x.2; gives = tt }
answers_so actor sh (Push parcel) (Pushed b) after w g x = record { goes = subst (λ (s : Shared). GoesOn sh s) (sym x.1) (pushed_on b sh parcel g); gives = tt }
answers_so actor sh (Send tunnel n payload) (Put answer limit) after w g x = record { goes = stays_so sh after g x; gives = tt }
answers_so actor sh (Over reason) Said after w g x = record { goes = stays_so sh after g x; gives = tt }
answers_so actor sh want answer after w g x = absurd x

-- ---- what a connection does

abbrev Became : ℕ → Option Held → Type 0
Became n None = Unit {0}
Became n (Some h) = HeldGiven n h

abbrev HeldDoes : ℕ → HeldDone → Type 0
HeldDoes n None = Unit {0}
HeldDoes n (Some d) = Became n d.1

became : (n : ℕ) (o : HeldDone) (note : Note) (new : Option Held) → HeldDoes n o → o ≡ Some (note, new) → Became n new
became n o note new h e = subst (HeldDoes n) e h

with_does : (n : ℕ) (h : Held) (o : Done) → DoneGiven n o → HeldDoes n (option_map (with_conn h) o)
with_does n h None k = tt
with_does n h (Some d) k = k

over_does : (n : ℕ) (h : Held) (want : Want) (answer : Answer) → HeldGiven n h → GivesOne n answer → HeldDoes n (over_or h want answer)
over_does n h (Over reason) answer k g = tt
over_does n h want answer k g = with_does n (record h { ports = ports_after want answer h.ports }) (done h.conn answer) (act_done_given n h.conn answer k g)

-- what it became, and what is shared behind it
record StepSo (sh : Shared) (new : Option Held) (after : Shared) : Type 0 where
  held : Became (length after.book) new
  goes : GoesOn sh after

abbrev GivenIn : Shared → Held → Type 0
GivenIn sh h = HeldGiven (length sh.book) h

step_own : (sh : Shared) (new : Option Held) (after : Shared) → Good sh.config sh.book → Became (length sh.book) new → after ≡ sh → StepSo sh new after
step_own sh new after g h e = subst (λ (s : Shared). StepSo sh new s) (sym e) (record { held = h; goes = record { good = g; more = omega arith } })

step_acted : (old : Held) (sh : Shared) (answer : Answer) (note : Note) (new : Option Held) (after : Shared) → GivenIn sh old → Good sh.config sh.book → ActNext old sh answer note new after → StepSo sh new after
step_acted old sh answer note new after h g x =
    let so = answers_so old.conn.actor sh (want_of old.conn) answer after (wants_given (length sh.book) old.conn h) g x.answers in
    let n = length after.book in
    record {
      held = became n (acted old answer) note new (over_does n old (want_of old.conn) answer (given_more (length sh.book) n old.conn.tunnels so.goes.more h) so.gives) x.is;
      goes = so.goes;
    }

step_does : (sh : Shared) (answer : Answer) (note : Note) (new : Option Held) (after : Shared) (does : HeldDone) → HeldDoes (length sh.book) does → Good sh.config sh.book → OwnNext sh answer note new after does → StepSo sh new after
step_does sh answer note new after does h g x = step_own sh new after g (became (length sh.book) does note new h x.is) x.after_is

step_write : (b : Bool) (old : Held) (sh : Shared) (answer : Answer) (note : Note) (new : Option Held) (after : Shared) → GivenIn sh old → Good sh.config sh.book → WriteNext b old sh answer note new after → StepSo sh new after
step_write true old sh answer note new after h g x = step_acted (write_failed old) sh answer note new after h g x
step_write false old sh answer note new after h g x = step_does sh answer note new after (write_done old) (wrote_given (length sh.book) old.conn (write_count old) h) g x

takes_so : (n : ℕ) (setup : Setup) (old : Held) (pieces : List (List ℕ)) (note : Note) (new : Option Held) → HeldGiven n old → TakesNext setup old pieces note new → Became n new
takes_so n setup old [] note new h x = became n (Some (with_conn old (finished old.conn x.inside))) note new (finished_given n old.conn x.inside h) x.is
takes_so n setup old (first ∷ others) note new h x = subst (Became n) (sym x.new_is) (took_given n setup old.conn x.conn (take most_read first) h x.took)

step_read : (setup : Setup) (b : Bool) (old : Held) (sh : Shared) (answer : Answer) (note : Note) (new : Option Held) (after : Shared) → GivenIn sh old → Good sh.config sh.book
    → ReadNext b setup old sh answer note new after → StepSo sh new after
step_read setup true old sh answer note new after h g x = step_acted (read_failed old) sh answer note new after h g x
step_read setup false old sh answer note new after h g x = step_own sh new after g (takes_so (length sh.book) setup old old.link.pieces note new h x.1) x.2

receive_fails : (n : ℕ) (old : Held) (p : Port) (o : Option Tunnel) → HeldGiven n old → HeldGiven n (receive_failed old p o)
receive_fails n old p None h = h
receive_fails n old p (Some t) h = h

arrives : (n : ℕ) (old : Held) (p : Port) (arrived : List (List ℕ)) → HeldGiven n old → HeldDoes n (received_from old p arrived)
arrives n old p [] h = tt
arrives n old p (datagram ∷ others) h = with_does n (record old { ports = at_port p.tunnel port_received old.ports }) (received old.conn p datagram) (received_given n old.conn p datagram h)

step_port : (b : Bool) (old : Held) (p : Port) (sh : Shared) (answer : Answer) (note : Note) (new : Option Held) (after : Shared) → GivenIn sh old → Good sh.config sh.book → PortNext b old p sh answer note new after → StepSo sh new after
step_port true old p sh answer note new after h g x =
    step_acted (receive_failed old p (tunnel_of old.conn p.tunnel)) sh answer note new after (receive_fails (length sh.book) old p (tunnel_of old.conn p.tunnel) h) g x
step_port false old p sh answer note new after h g x = step_does sh answer note new after (received_from old p p.arrived) (arrives (length sh.book) old p p.arrived h) g x

step_receive : (o : Option Port) (old : Held) (sh : Shared) (answer : Answer) (note : Note) (new : Option Held) (after : Shared) → GivenIn sh old → Good sh.config sh.book → ReceiveNext o old sh answer note new after → StepSo sh new after
step_receive None old sh answer note new after h g x = absurd x
step_receive (Some p) old sh answer note new after h g x = step_port p.receive_fails old p sh answer note new after h g x

step_try : (setup : Setup) (old : Held) (sh : Shared) (try : Try) (answer : Answer) (note : Note) (new : Option Held) (after : Shared) → GivenIn sh old → Good sh.config sh.book
    → TryNext setup old sh try answer note new after → StepSo sh new after
step_try setup old sh Act answer note new after h g x = step_acted old sh answer note new after h g x
step_try setup old sh Frame answer note new after h g x = step_does sh answer note new after (frame_done old) (with_does (length sh.book) old (framed old.conn) (framed_given (length sh.book) old.conn h)) g x
step_try setup old sh Write answer note new after h g x = step_write old.link.write_fails old sh answer note new after h g x
step_try setup old sh Read answer note new after h g x = step_read setup old.link.read_fails old sh answer note new after h g x
step_try setup old sh (Receive tunnel) answer note new after h g x = step_receive (port_of old.ports tunnel) old sh answer note new after h g x

-- ---- what a worker does

replaced : (n k : ℕ) (new : Option Held) (hs : List Held) → Became n new → AllByRecursion (HeldGiven n) hs → AllByRecursion (HeldGiven n) (replace k new hs)
replaced n k new [] b h = tt
replaced n k None (g ∷ hs) b h = if_both (λ hs. AllByRecursion (HeldGiven n) hs) (g.conn.number == k) hs (g ∷ replace k None hs) h.1 (h.0, replaced n k None hs b h.1)
replaced n k (Some f) (g ∷ hs) b h = if_both (λ hs. AllByRecursion (HeldGiven n) hs) (g.conn.number == k) (f ∷ hs) (g ∷ replace k (Some f) hs) (b, h.1) (h.0, replaced n k (Some f) hs b h.1)

-- an option by what it is
cases_of : {A : Type 0} (o : Option A) → (o ≡ None) ⊎ ((x : A) × (o ≡ Some x))
cases_of None = inl refl
cases_of (Some x) = inr (x, refl)

abbrev Found : ℕ → Option (Held × Tunnel) → Type 0
Found n None = Unit {0}
Found n (Some found) = HeldGiven n found.0

found_for_ip : (n : ℕ) (h : Held) (t : Tunnel) (k : Kind) → HeldGiven n h → (o : Option (Held × Tunnel)) → ((k ≡ kind.Udp) → o ≡ None) → ((k ≡ kind.Ip) → o ≡ Some (h, t)) → Found n o
found_for_ip n h t kind.Udp p o none some = subst (Found n) (sym (none refl)) tt
found_for_ip n h t kind.Ip p o none some = subst (Found n) (sym (some refl)) p

found_in : (n : ℕ) (w : Worker) (to : Place) → AllByRecursion (HeldGiven n) w.conns → Found n (tunnel_in w to)
found_in n w place.Net h = tt
found_in n w (place.Tunnel tunnel actor) h =
    elim (cases_of (find (has_tunnel tunnel) w.conns)) [
      | inl none ↦ rw none tt
      | inr (held, some) ↦ (
          let p = each_found (HeldGiven n) (has_tunnel tunnel) w.conns held h some in
          elim (cases_of (tunnel_of held.conn tunnel)) [
            | inl none ↦ rw (some, none) tt
            | inr (t, is) ↦ found_for_ip n held t (kind_of t.goal) p (tunnel_in w (place.Tunnel tunnel actor)) (λ e. rw (some, is, e) refl) (λ e. rw (some, is, e) refl)
          ])
    ]

popped_so : (n : ℕ) (w : Worker) (parcel : Parcel) → GivenWorker n w → GivenWorker n (popped w parcel).1
popped_so n w parcel h =
    elim (cases_of (tunnel_in w parcel.to)) [
      | inl none ↦ rw none (record { conns = h.conns })
      | inr (found, some) ↦ (
          let p : Found n (Some found) = subst (Found n) some (found_in n w parcel.to h.conns) in
          let came = passed_on_given n found.0.conn found.1 (source_of parcel.from) parcel.n (onward parcel.packet) p in
          rw some (record { conns = replaced n found.0.conn.number (Some (came_to found.0 found.1 parcel).1) w.conns came h.conns }))
    ]

abbrev Accepts : ℕ → Option (Note × Worker) → Type 0
Accepts n None = Unit {0}
Accepts n (Some d) = GivenWorker n d.1

accepted_so : (n : ℕ) (w : Worker) (offered : List Offer) → GivenWorker n w → Accepts n (accepted w offered)
accepted_so n w [] h = tt
accepted_so n w (o ∷ offered) h = record {
  conns = each_append (HeldGiven n) w.conns (record { conn = new_conn o.number w.id; link = o.link; ports = [] } ∷ []) h.conns (tt, tt);
}

-- what a worker became, and what is shared behind it
record TurnSo (sh : Shared) (new : Worker) (after : Shared) : Type 0 where
  worker : GivenWorker (length after.book) new
  goes : GoesOn sh after

turn_own : (sh : Shared) (new : Worker) (after : Shared) → Good sh.config sh.book → GivenWorker (length sh.book) new → after ≡ sh → TurnSo sh new after
turn_own sh new after g h e = subst (λ (s : Shared). TurnSo sh new s) (sym e) (record { worker = h; goes = record { good = g; more = omega arith } })

-- one of its connections became another
turn_held : (old : Worker) (sh : Shared) (k : ℕ) (new : Option Held) (after : Shared) (next : Worker) → GivenWorker (length sh.book) old → StepSo sh new after → next.conns ≡ replace k new old.conns → TurnSo sh next after
turn_held old sh k new after next h step conns =
    let n = length after.book in
    record {
      worker = record {
        conns = subst (λ (hs : List Held). AllByRecursion (HeldGiven n) hs) (sym conns) (replaced n k new old.conns step.held (held_more (length sh.book) n old.conns step.goes.more h.conns));
      };
      goes = step.goes;
    }

turn_seat : (old : Worker) (sh : Shared) (seat : Seat) (answer : Answer) (note : Note) (new : Worker) (after : Shared) → GivenWorker (length sh.book) old → Good sh.config sh.book
    → SeatNext old sh seat answer note new after → TurnSo sh new after
turn_seat old sh Offers answer note new after h g x = turn_own sh new after g (subst (Accepts (length sh.book)) x.1 (accepted_so (length sh.book) old old.offered h)) x.2
turn_seat old sh Inbox answer note new after h g x =
    let popped_is = x.1.is in
    let P : Note × Worker → Type 0 = λ d. GivenWorker (length sh.book) d.1 in
    let worker = subst P popped_is (popped_so (length sh.book) old x.1.parcel h) in
    subst (λ (s : Shared). TurnSo sh new s) (sym x.1.after_is) (record { worker = worker; goes = record { good = g; more = omega arith } })
turn_seat old sh (Of k) answer note new after h g x =
    let held = each_found (HeldGiven (length sh.book)) (λ (g : Held). g.conn.number == k) old.conns x.held h.conns x.has in
    let step = step_try old.setup x.held sh x.try answer note x.became after held g x.next in
    turn_held old sh k x.became after new h step (ap (λ (w : Worker). w.conns) x.new_is)

-- ---- what the pump does

abbrev SameBook : Shared → Note × Pump × Shared → Type 0
SameBook sh d = (d.2.book ≡ sh.book) × (d.2.config ≡ sh.config)

abbrev KeepsBook : Shared → Option (Note × Pump × Shared) → Type 0
KeepsBook sh None = Unit {0}
KeepsBook sh (Some d) = SameBook sh d

same_pushed : (p : Pump) (sh : Shared) (parcel : Parcel) (b : Bool) → SameBook sh (parcel_pushed p sh parcel b)
same_pushed p sh parcel true = (refl, refl)
same_pushed p sh parcel false = (refl, refl)

same_sent : (p : Pump) (sh : Shared) (parcel : Parcel) → SameBook sh (net_sent p sh parcel)
same_sent p sh parcel = if_both (SameBook sh) p.net.holds.send_fails _ _ (refl, refl) (if_both (SameBook sh) p.net.holds.send_waits _ _ (refl, refl) (refl, refl))

same_judged : (p : Pump) (sh : Shared) (n : ℕ) (packet : List ℕ) (v : Verdict) → SameBook sh (net_judged p sh n packet v)
same_judged p sh n packet (verdict.Pass to) = (refl, refl)
same_judged p sh n packet verdict.Source = (refl, refl)
same_judged p sh n packet verdict.NoRoute = (refl, refl)

same_option : (sh : Shared) (f : Parcel → Note × Pump × Shared) (o : Option Parcel) → ((parcel : Parcel) → SameBook sh (f parcel)) → KeepsBook sh (option_map f o)
same_option sh f None h = tt
same_option sh f (Some parcel) h = h parcel

same_popped : (p : Pump) (sh : Shared) (i : ℕ) (box : List Parcel) → KeepsBook sh (net_popped p sh i box)
same_popped p sh i [] = tt
same_popped p sh i (parcel ∷ rest) = same_sent p (record sh { boxes = slice_set sh.boxes i rest }) parcel

same_match : (b : Bool) (sh : Shared) (X Y : Type 0) (d : Note × Pump × Shared) → (X → SameBook sh d) → (Y → SameBook sh d) → MatchBool b X Y → SameBook sh d
same_match true sh X Y d h k x = h x
same_match false sh X Y d h k x = k x

same_as : (sh : Shared) (d e : Note × Pump × Shared) → d ≡ e → SameBook sh e → SameBook sh d
same_as sh d e is h = subst (SameBook sh) (sym is) h

same_met : (p : Pump) (sh : Shared) (n : ℕ) (packet : List ℕ) (o : Option Flow) (d : Note × Pump × Shared) → IsMet p sh n packet o d → SameBook sh d
same_met p sh n packet None d x = subst (SameBook sh) (sym x) (refl, refl)
same_met p sh n packet (Some flow) d x =
    same_match (nat_lt p.mtu (length packet)) sh _ _ d (λ e. subst (SameBook sh) (sym e) (refl, refl)) (λ y. same_as sh d (net_judged p sh n packet y.0) y.2 (same_judged p sh n packet y.0)) x

same_received : (p : Pump) (sh : Shared) (arrived : List Arrival) (d : Note × Pump × Shared) → IsReceived p sh arrived d → SameBook sh d
same_received p sh [] d x = absurd x
same_received p sh (first ∷ others) d x =
    same_met (record p { net = with_arrivals others p.net }) sh p.net.received first.packet (flow_of first.packet) d x

same_pump : (p : Pump) (sh : Shared) (try : PumpTry) (d : Note × Pump × Shared) → PumpNext p sh try d → SameBook sh d
same_pump p sh PushHeld d x =
    let f : Parcel → Note × Pump × Shared = λ parcel. parcel_pushed p sh parcel (has_room sh.boxes (inbox_of sh.boxes parcel.to)) in
    subst (KeepsBook sh) x (same_option sh f p.to_push (λ parcel. same_pushed p sh parcel (has_room sh.boxes (inbox_of sh.boxes parcel.to))))
same_pump p sh SendHeld d x = subst (KeepsBook sh) x (same_option sh (net_sent p sh) p.to_send (λ parcel. same_sent p sh parcel))
same_pump p sh SendNext d x = subst (KeepsBook sh) x (same_popped p sh (last_of sh.boxes) (box_at sh.boxes (last_of sh.boxes)))
same_pump p sh Receives d x = same_received p sh p.net.holds.arrived d x

-- ---- what actors do

lawful_by : (old : State) (number : ℕ) (next : Worker) (shared after : Shared) (new : State) → Lawful old → TurnSo old.shared next shared → after ≡ record shared { orders = after.orders }
    → new ≡ record old { workers = slice_set old.workers number next; shared = after } → Lawful new
lawful_by old number next shared after new h so same is =
    let n = length shared.book in
    let now : Shared = record shared { orders = after.orders } in
    let workers = each_set (GivenWorker n) old.workers number next (workers_more (length old.shared.book) n old.workers so.goes.more h.workers) so.worker in
    let P : Shared → Type 0 = λ s. Lawful (record old { workers = slice_set old.workers number next; shared = s }) in
    subst Lawful (sym is) (subst P (sym same) (record { workers = workers; book = so.goes.good }))

pub lawful_turn : (old new : State) (actor : Actor) (note : Note) → Lawful old → Turn old actor note new → Lawful new
lawful_turn old new (WorkerOf number) note h x =
    let w = each_at (GivenWorker (length old.shared.book)) old.workers number x.worker h.workers x.at in
    let so = turn_seat x.worker old.shared x.turn.seat x.answer note x.next x.shared w h.book x.turn.next in
    lawful_by old number x.next x.shared x.after new h so x.after_is x.new_is
lawful_turn old new ThePump note h x =
    let same = same_pump old.pump old.shared x.turn.try (note, x.pump, x.shared) x.turn.is in
    let P : List Entry → Type 0 = λ book. AllByRecursion (GivenWorker (length book)) old.workers × Good old.shared.config book in
    let Q : Config → Type 0 = λ config. AllByRecursion (GivenWorker (length x.shared.book)) old.workers × Good config x.shared.book in
    let now = subst Q (sym same.1) (subst P (sym same.0) (h.workers, h.book)) in
    subst Lawful (sym x.new_is) (record { workers = now.0; book = now.1 })

-- what a connection has that had no memory to hear its answer
heard_so : (asked : Bool) (old : Held) (sh : Shared) (try : Try) (answer : Answer) (tunnels : List Tunnel) (after : Shared) → GivenIn sh old → Good sh.config sh.book
    → Heard asked old sh try answer tunnels after → AreGiven (length after.book) tunnels × GoesOn sh after
heard_so false old sh try answer tunnels after h g x =
    let P : Shared → Type 0 = λ s. AreGiven (length s.book) tunnels × GoesOn sh s in
    let Q : List Tunnel → Type 0 = λ ts. AreGiven (length sh.book) ts in
    subst P (sym x.2) (subst Q (sym x.1) h, record { good = g; more = omega arith })
heard_so true old sh try answer tunnels after h g x =
    let so = answers_so old.conn.actor sh (want_of old.conn) answer after (wants_given (length sh.book) old.conn h) g x.answers in
    let n = length after.book in
    let Q : List Tunnel → Type 0 = λ ts. AreGiven n ts in
    (subst Q (sym x.tunnels_are) (after_given n (want_of old.conn) answer old.conn.tunnels so.gives (given_more (length sh.book) n old.conn.tunnels so.goes.more h)), so.goes)

turn_starves : (old : Worker) (sh : Shared) (seat : Seat) (reached : Reached) (answer : Answer) (new : Worker) (after : Shared) → GivenWorker (length sh.book) old → Good sh.config sh.book
    → SeatStarves old sh seat reached answer new after → TurnSo sh new after
turn_starves old sh Offers reached answer new after h g x = turn_own sh new after g (subst (GivenWorker (length sh.book)) (sym x.2) h) x.3
turn_starves old sh Inbox reached answer new after h g x = absurd x
turn_starves old sh (Of k) reached answer new after h g x =
    let held = each_found (HeldGiven (length sh.book)) (λ (g : Held). g.conn.number == k) old.conns x.held h.conns x.has in
    let heard = heard_so reached.asked x.held sh x.try answer x.tunnels after held g x.heard in
    let starved_so : Held = record x.held { link = record x.held.link { pieces = x.pieces }; conn = record (starved x.held.conn) { tunnels = x.tunnels } } in
    turn_held old sh k (Some starved_so) after new h (record { held = heard.0; goes = heard.1 }) (ap (λ (w : Worker). w.conns) x.new_is)

pub lawful_silent : (old new : State) (actor : Actor) (reached : Reached) → Lawful old → SilentTurn old actor reached new → Lawful new
lawful_silent old new (WorkerOf number) reached h x =
    let w = each_at (GivenWorker (length old.shared.book)) old.workers number x.worker h.workers x.at in
    let so = turn_starves x.worker old.shared x.starves.seat reached x.answer x.next x.shared w h.book x.starves.starves in
    lawful_by old number x.next x.shared x.after new h so x.after_is x.new_is
lawful_silent old new ThePump reached h x = subst Lawful (sym x.2) h

-- ---- what happens

given_at : (k n : ℕ) (change : Link → Link) (h : Held) → HeldGiven k h → HeldGiven k (at_held n change h)
given_at k n change h p = if_both (HeldGiven k) (h.conn.number == n) (record h { link = change h.link }) h p p

lawful_link : (n : ℕ) (change : Link → Link) (s : State) → Lawful s → Lawful (at_link n change s)
lawful_link n change s h = record {
  workers = each_map (GivenWorker (length s.shared.book)) (GivenWorker (length s.shared.book)) (at_worker n change) s.workers
      (λ w p. record { conns = each_map (HeldGiven (length s.shared.book)) (HeldGiven (length s.shared.book)) (at_held n change) w.conns (λ g q. given_at (length s.shared.book) n change g q) p.conns }) h.workers;
  book = h.book;
}

lawful_port : (n : ℕ) (change : Port → Port) (s : State) → Lawful s → Lawful (with_port n change s)
lawful_port n change s h = record {
  workers = each_map (GivenWorker (length s.shared.book)) (GivenWorker (length s.shared.book)) (with_held_ports n change) s.workers
      (λ w p. record { conns = each_map (HeldGiven (length s.shared.book)) (HeldGiven (length s.shared.book)) (with_ports n change) w.conns (λ g q. q) p.conns }) h.workers;
  book = h.book;
}

given_offered : (k actor number : ℕ) (ws : List Worker) → AllByRecursion (GivenWorker k) ws → AllByRecursion (GivenWorker k) (offered_to actor number ws)
given_offered k actor number [] h = tt
given_offered k zero number (w ∷ ws) h = (record { conns = h.0.conns }, h.1)
given_offered k (suc actor) number (w ∷ ws) h = (h.0, given_offered k actor number ws h.1)

pub lawful_happen : (s : State) (e : Event) → Lawful s → Lawful (happen s e)
lawful_happen s (event.Conn actor) h = record { workers = given_offered (length s.shared.book) actor (length s.links) s.workers h.workers; book = h.book }
lawful_happen s (event.Piece conn bytes) h = lawful_link conn _ s h
lawful_happen s (event.End conn) h = lawful_link conn _ _ (record { workers = h.workers; book = h.book })
lawful_happen s (event.Room conn room) h = lawful_link conn _ s h
lawful_happen s (event.FailRead conn) h = lawful_link conn _ s h
lawful_happen s (event.FailWrite conn) h = lawful_link conn _ s h
lawful_happen s (event.Datagram tunnel bytes) h = lawful_port tunnel _ s h
lawful_happen s (event.FailPort tunnel) h = lawful_port tunnel _ s h
lawful_happen s event.FailBind h = record { workers = h.workers; book = h.book }
lawful_happen s event.FailNet h = record { workers = h.workers; book = h.book }
lawful_happen s (event.Packet count bytes) h = record { workers = h.workers; book = h.book }
lawful_happen s (event.Step actor) h = h
