-- What a reply of the book does to what the core stands for.
use Rattle.std.proofs.Common.{◌≡◌, ◌≢◌, ℕ, ◌<◌, ◌==◌, Bool, true, false, cond, List, [], ◌∷◌, ◌++◌, drop, Option, Some, None, Result, Ok, Err, refl, sym, ap, ◌∙◌, subst}
use Rattle.std.specs.Prelude.{find, slice_get, vec_len, vec_capacity}
use Rattle.std.specs.List.{list_any}
use Rattle.std.specs.Result.{IsErr}
use Rattle.std.specs.Option.{is_some, unwrap_or}
use Rattle.mq_addr.specs.declared.range.Range.{Range}
use Rattle.mq_talk.specs.declared.book.Call.TheVariants as call
use Rattle.mq_talk.specs.declared.book.Reply.{Reply}
use Rattle.mq_talk.specs.declared.book.Reply.TheVariants as reply
use Rattle.mq_talk.specs.declared.goal.Goal.{Goal}
use Rattle.mq_talk.specs.declared.note.End.{End}
use Rattle.mq_talk.specs.declared.note.End.TheVariants as end
use Rattle.mq_talk.specs.declared.note.Note.{Note}
use Rattle.mq_talk.specs.declared.note.Why.TheVariants as why
use Rattle.mq_wire.specs.declared.NoMemory.{NoMemory}
use Rattle.mq_machine.specs.declared.act.Act.{Act}
use Rattle.mq_machine.specs.declared.act.Act.TheVariants as act
use Rattle.mq_machine.specs.declared.act.StreamAct.{StreamAct}
use Rattle.mq_machine.specs.declared.act.StreamAct.TheVariants as stream
use Rattle.mq_machine.specs.declared.act.Due.{Due}
use Rattle.mq_machine.specs.declared.act.Due.TheVariants as due
use Rattle.mq_machine.specs.Done.{Done, act_done, closed, done_by, due_done, ending_done, opened, refused, stream_done, tunnel_done}
use Rattle.mq_machine.specs.Lawful.{IsLoose, IsOver, is_opening}
use Rattle.mq_machine.specs.Settle.{settle}
use Rattle.mq_machine.specs.Silent.{tunnels_after}
use Rattle.mq_machine.specs.State as machine
use Rattle.mq_machine.specs.State.{tunnel_on}
use Rattle.mq_machine.specs.Steps.{starved}
use Rattle.mq_machine.specs.Want.{Answer, Ask, Bind, Judge, Nothing, Over, Push, Replied, Say, Send, Want, due_want, want_by, want_of}
use Rattle.mq_machine.proofs.Lawful.Idle.{heard_lawful}
use Rattle.mq_machine.proofs.Lawful.Lists.{itself}
use Rattle.mq_conn.specs.declared.answer.Closing.{Closing}
use Rattle.mq_conn.specs.declared.conn.Conn.{Conn}
use Rattle.mq_conn.specs.declared.conn.First.{First}
use Rattle.mq_conn.specs.declared.conn.First.TheVariants as first
use Rattle.mq_conn.specs.declared.conn.Tunnel.{Tunnel}
use Rattle.mq_conn.specs.Closing.{ClosesSo, OpensOn, TakesOpen, closes_due, closes_dues, closes_stream, closing, opened_tunnel, opening, opens_act}
use Rattle.mq_conn.specs.declared.open.Opening.{Opening}
use Rattle.mq_conn.specs.Conns.{Does, GivesUp, Hears, HearsNone, HearsOne, IsSpare, Leaves, Stands, behind, tunnel_is, tunnels_of}
use Rattle.mq_conn.proofs.Standing.{due_is, ending_is, fronted, gone_left, gone_more, tunnels_are}
use Rattle.mq_conn.proofs.Answering.{does_due, leads, not_over, some_done, stream_leads}

-- ---- a tunnel closes

-- what closes the tunnel of this stream, where the book has closed it
pub record ClosesBy (d : Due) (c : Closing) : Type 0 where
  pub asks : StreamAct
  pub is : d ≡ due.Do (act.OfStream c.stream asks)
  pub closes : (x : machine.Conn) (t : machine.Tunnel) → stream_done x t asks (Replied reply.Closed) ≡ Some (closed x t c.why)

closes_is : (d : Due) (c : Closing) → closes_due d ≡ Some c → ClosesBy d c
closes_is (due.Do (act.Bind id goal)) c h = absurd cc
closes_is (due.Do (act.Open id goal)) c h = absurd cc
closes_is (due.Do (act.Refuse id status rule)) c h = absurd cc
closes_is (due.Do (act.Reset id code)) c h = absurd cc
closes_is (due.Do (act.OfStream id (stream.Payload n payload))) c h = absurd cc
closes_is (due.Do (act.OfStream id (stream.Packet n packet flow))) c h = absurd cc
closes_is (due.Do (act.OfStream id (stream.Push n to packet))) c h = absurd cc
closes_is (due.Do (act.OfStream id (stream.Drop n cause))) c h = absurd cc
closes_is (due.Do (act.OfStream id (stream.Assign asked))) c h =
    let P : Closing → Type 0 = λ k. ClosesBy (due.Do (act.OfStream id (stream.Assign asked))) k in
    subst P (ap (λ (o : Option Closing). unwrap_or o c) h) (record { asks = stream.Assign asked; is = refl; closes = λ x t. refl })
closes_is (due.Do (act.OfStream id (stream.Advertise ranges))) c h =
    let P : Closing → Type 0 = λ k. ClosesBy (due.Do (act.OfStream id (stream.Advertise ranges))) k in
    subst P (ap (λ (o : Option Closing). unwrap_or o c) h) (record { asks = stream.Advertise ranges; is = refl; closes = λ x t. refl })
closes_is (due.Do (act.OfStream id (stream.Close reason))) c h =
    let P : Closing → Type 0 = λ k. ClosesBy (due.Do (act.OfStream id (stream.Close reason))) k in
    subst P (ap (λ (o : Option Closing). unwrap_or o c) h) (record { asks = stream.Close reason; is = refl; closes = λ x t. refl })
closes_is (due.Spend id size) c h = absurd cc
closes_is (due.Fault code) c h = absurd cc

-- this closes a tunnel first
pub record ClosesFirst (dues : List Due) (c : Closing) : Type 0 where
  pub d : Due
  pub rest : List Due
  pub is : dues ≡ d ∷ rest
  pub by : ClosesBy d c

dues_close : (dues : List Due) (c : Closing) → closes_dues dues ≡ Some c → ClosesFirst dues c
dues_close [] c h = absurd cc
dues_close (d ∷ rest) c h = record { d = d; rest = rest; is = refl; by = closes_is d c h }

closing_all : (f : Option First) (dues : List Due) → closing f dues ≡ closes_dues (behind f dues)
closing_all None dues = refl
closing_all (Some (first.Open id goal)) dues = refl
closing_all (Some (first.Close id reason)) dues = refl
closing_all (Some (first.Push id n to packet)) dues = refl

pub closing_first : (f : Option First) (dues : List Due) (c : Closing) → closing f dues ≡ Some c → ClosesFirst (behind f dues) c
closing_first f dues c h = dues_close (behind f dues) c (sym (closing_all f dues) ∙ h)

-- where nothing closes one, no tunnel was to close
stream_open : (id : ℕ) (o : Option machine.Tunnel) (x : machine.Conn) (a : StreamAct) → closes_stream id a ≡ None → tunnel_done x o a (Replied reply.Closed) ≡ None
stream_open id None x a h = refl
stream_open id (Some t) x (stream.Payload n payload) h = refl
stream_open id (Some t) x (stream.Packet n packet flow) h = refl
stream_open id (Some t) x (stream.Push n to packet) h = refl
stream_open id (Some t) x (stream.Drop n cause) h = refl
stream_open id (Some t) x (stream.Assign asked) h = absurd cc
stream_open id (Some t) x (stream.Advertise ranges) h = absurd cc
stream_open id (Some t) x (stream.Close reason) h = absurd cc

dues_open : (x : machine.Conn) (dues : List Due) → closes_dues dues ≡ None → due_done x dues (Replied reply.Closed) ≡ None
dues_open x [] h = refl
dues_open x (due.Do (act.Bind id goal) ∷ rest) h = refl
dues_open x (due.Do (act.Open id goal) ∷ rest) h = refl
dues_open x (due.Do (act.Refuse id status rule) ∷ rest) h = refl
dues_open x (due.Do (act.Reset id code) ∷ rest) h = refl
dues_open x (due.Do (act.OfStream id a) ∷ rest) h = stream_open id (tunnel_on x id) (record x { due = rest }) a h
dues_open x (due.Spend id size ∷ rest) h = refl
dues_open x (due.Fault code ∷ rest) h = refl

open_by : (s : machine.Conn) (e : Option End) → e ≡ None → closes_dues s.due ≡ None → done_by s e (Replied reply.Closed) ≡ None
open_by s None over h = dues_open s s.due h
open_by s (Some reason) over h = absurd cc

pub closes_none : (old e : Conn) (said : Note) → closing old.first old.due ≡ None → old.ending ≡ None → Does old e (Replied reply.Closed) said
closes_none old e said is over s conn some =
    let none = open_by s s.ending (ending_is old s conn.stands ∙ over) (ap closes_dues (due_is old s conn.stands) ∙ sym (closing_all old.first old.due) ∙ is) in
    let f : true ≡ false = sym (some_done s (Replied reply.Closed) some) ∙ ap (λ (o : Done). is_some o) none in
    absurd cc

-- the tunnel of a stream that has one
record Has (s : machine.Conn) (id : ℕ) : Type 0 where
  pub t : machine.Tunnel
  pub on : tunnel_on s id ≡ Some t

has_tunnel : (s x : machine.Conn) (id : ℕ) (a : StreamAct) (answer : Answer) (o : Option machine.Tunnel) → tunnel_on s id ≡ o → is_some (tunnel_done x o a answer) ≡ true → Has s id
has_tunnel s x id a answer None is h = absurd cc
has_tunnel s x id a answer (Some t) is h = record { t = t; on = is }

-- the tunnel closes that was to close
pub closes_due_one : (old mid e : Conn) (c : Closing) (said : Note) → closing old.first old.due ≡ Some c → old.ending ≡ None
    → ((d : Due) (rest : List Due) → behind old.first old.due ≡ d ∷ rest → mid ≡ record old { first = None; due = rest })
    → ClosesSo mid e c.stream c.why said → Does old e (Replied reply.Closed) said
closes_due_one old mid e c said is over takes closes s conn some =
    let all = closing_first old.first old.due c is in
    let rest = all.rest in
    let a = all.by.asks in
    let mid_is = takes all.d rest all.is in
    let x = record s { due = rest } in
    let P : Conn → Type 0 = λ k. Stands k x in
    let st : Stands mid x = subst P (sym mid_is) (fronted old s all.d rest all.is conn.stands) in
    let none : s.ending ≡ None = ending_is old s conn.stands ∙ over in
    let first_so : mid.first ≡ None = ap (λ (k : Conn). k.first) mid_is in
    let due_so = due_is old s conn.stands ∙ all.is ∙ ap (λ (d : Due). d ∷ rest) all.by.is in
    let D : Done → Type 0 = λ o. is_some o ≡ true in
    let h = has_tunnel s x c.stream a (Replied reply.Closed) (tunnel_on s c.stream) refl
    (subst D (does_due s (act.OfStream c.stream a) rest (Replied reply.Closed) none due_so) (some_done s (Replied reply.Closed) some)) in
    let r = closes x h.t st first_so (λ ending. absurd (ending none)) h.on in
    leads e s (Replied reply.Closed) said conn.lawful tt (record {
      x = (closed x h.t c.why).1;
      does = stream_leads s c.stream a rest (Replied reply.Closed) h.t none due_so h.on ∙ all.by.closes x h.t ∙ ap (λ (n : Note). Some (n, (closed x h.t c.why).1)) (sym r.0);
      stands = r.1;
    })

-- ---- the first tunnel of an ending connection

over_first : (e : Option End) (f : Option First) (dues ds : List Due) → e ≢ None → IsOver e ds → ds ≡ behind f dues → f ≡ None
over_first None f dues ds ending h is = absurd (ending refl)
over_first (Some reason) None dues ds ending h is = refl
over_first (Some reason) (Some f) dues ds ending h is = let k = sym h ∙ is in absurd cc

ending_closes : (s : machine.Conn) (e : Option End) (t : machine.Tunnel) (ts : List machine.Tunnel) → e ≢ None → s.tunnels ≡ t ∷ ts → done_by s e (Replied reply.Closed) ≡ Some (closed s t why.Conn)
ending_closes s None t ts ending is = absurd (ending refl)
ending_closes s (Some reason) t ts ending is = ap (λ (us : List machine.Tunnel). ending_done s us (Replied reply.Closed)) is

pub closes_ending : (old e : Conn) (t : Tunnel) (ts : List Tunnel) (said : Note) → old.ending ≢ None → old.tunnels.items ≡ t ∷ ts → ClosesSo old e t.stream why.Conn said → Does old e (Replied reply.Closed) said
closes_ending old e t ts said ending is closes s conn some =
    let m = tunnel_is t in
    let ends : s.ending ≢ None = λ k. ending (sym (ending_is old s conn.stands) ∙ k) in
    let all : s.tunnels ≡ m ∷ tunnels_of ts = tunnels_are old s conn.stands ∙ ap tunnels_of is in
    let on : tunnel_on s t.stream ≡ Some m =
    ap (λ (us : List machine.Tunnel). find (λ (u : machine.Tunnel). u.stream == t.stream) us) all
    ∙ ap (λ (b : Bool). cond b (Some m) (find (λ (u : machine.Tunnel). u.stream == t.stream) (tunnels_of ts))) (itself t.stream) in
    let first_so = over_first s.ending old.first old.due s.due ends conn.lawful.loose.over (due_is old s conn.stands) in
    let r = closes s m conn.stands first_so (λ k. refl) on in
    leads e s (Replied reply.Closed) said conn.lawful tt (record {
      x = (closed s m why.Conn).1;
      does = ending_closes s s.ending m (tunnels_of ts) ends all ∙ ap (λ (n : Note). Some (n, (closed s m why.Conn).1)) (sym r.0);
      stands = r.1;
    })

-- ---- a tunnel is to open

-- there is room for it
open_room : (c : Conn) (o : Opening) (rest : List Due) (s : machine.Conn) → behind c.first c.due ≡ due.Do (act.Open o.stream o.goal) ∷ rest → Stands c s → (is_some c.spare ≡ true) × (vec_len c.tunnels < vec_capacity c.tunnels)
open_room c o rest s is st = st.ready.room (ap (λ (ds : List Due). list_any is_opening ds) is)

-- what is due, where it was taken
abbrev Taken : Conn → Conn → Opening → Type 0
Taken old mid o = TakesOpen old mid (Some o)

open_due : (old mid : Conn) (o : Opening) (s : machine.Conn) → Taken old mid o → Stands old s → s.due ≡ due.Do (act.Open o.stream o.goal) ∷ mid.due
open_due old mid o s takes st = due_is old s st ∙ takes.0

open_taken : (old mid : Conn) (o : Opening) (s : machine.Conn) → Taken old mid o → Stands old s → Stands mid (record s { due = mid.due })
open_taken old mid o s takes st =
    let P : Conn → Type 0 = λ k. Stands k (record s { due = mid.due }) in
    subst P (sym takes.1) (fronted old s (due.Do (act.Open o.stream o.goal)) mid.due takes.0 st)

-- it opened
pub hears_opened : (old mid acted e : Conn) (number : ℕ) (o : Opening) (routes : List Range) (said : Note) → TakesOpen old mid (Some o)
    → OpensOn mid acted number o routes (Ok said) → ((x : machine.Conn) → Stands acted x → IsLoose x → Stands e (settle x)) → HearsOne old e (reply.Opened number routes) said
hears_opened old mid acted e number o routes said takes opened_so ends s conn fresh some =
    let due_so = open_due old mid o s takes conn.stands in
    let none = not_over s (due.Do (act.Open o.stream o.goal)) mid.due conn.lawful due_so in
    let x = record s { due = mid.due } in
    let M : Conn → Type 0 = λ k. (is_some k.spare ≡ true) × (vec_len k.tunnels < vec_capacity k.tunnels) in
    let room = subst M (sym takes.1) (open_room old o mid.due s takes.0 conn.stands) in
    let r = opened_so x (open_taken old mid o s takes conn.stands) (ap (λ (k : Conn). k.first) takes.1) none room.0 room.1 in
    let t = (opened x number o.stream o.goal routes).1 in
    leads e s (Replied (reply.Opened number routes)) said conn.lawful fresh (record {
      x = t;
      does = does_due s (act.Open o.stream o.goal) mid.due (Replied (reply.Opened number routes)) none due_so ∙ ap (λ (n : Note). Some (n, t)) (sym r.0);
      stands = λ loose. ends t r.1 loose;
    })

wants_open : (s : machine.Conn) (id : ℕ) (goal : Goal) (rest : List Due) → s.ending ≡ None → s.due ≡ due.Do (act.Open id goal) ∷ rest → want_of s ≡ Ask (call.Open s.number id s.actor goal)
wants_open s id goal rest none is = ap (λ (e : Option End). want_by s e) none ∙ ap (λ (ds : List Due). due_want s ds) is

-- it opened, and no memory was left
pub hears_no_open : (old mid acted : Conn) (number : ℕ) (o : Opening) (routes : List Range) (fault : NoMemory) (after : Conn) → TakesOpen old mid (Some o)
    → OpensOn mid acted number o routes (Err fault) → GivesUp acted end.NoMemory after → HearsNone old after (reply.Opened number routes)
hears_no_open old mid acted number o routes fault after takes opened_so gives s conn some =
    let st = conn.stands in
    let said = reply.Opened number routes in
    let M : Conn → Type 0 = λ k. (is_some k.spare ≡ true) × (vec_len k.tunnels < vec_capacity k.tunnels) in
    let room = subst M (sym takes.1) (open_room old o mid.due s takes.0 st) in
    let I : Conn → Type 0 = λ k. IsSpare k.spare in
    let left = opened_so (subst I (sym takes.1) st.ready.spare_is) room.0 room.1 in
    let ts = acted.tunnels in
    let due_so = open_due old mid o s takes st in
    let none = not_over s (due.Do (act.Open o.stream o.goal)) mid.due conn.lawful due_so in
    let G : Conn → Conn = λ k. record k { front = None; first = None; due = []; ending = Some end.NoMemory } in
    let H : Conn → Conn = λ k. record k { front = None; first = None; due = []; ending = Some end.NoMemory; spare = acted.spare; pump = acted.pump; tunnels = ts } in
    let after_is : after ≡ H old = gives ∙ ap G left.0 ∙ ap H takes.1 in
    let T : Conn → List machine.Tunnel = λ k. tunnels_of k.tunnels.items ++ opened_tunnel number o [] ∷ [] in
    let same : tunnels_of ts.items ≡ tunnels_after (want_of s) (Replied said) s.tunnels =
    left.2 ∙ ap T takes.1
    ∙ ap (λ (vs : List machine.Tunnel). vs ++ opened_tunnel number o [] ∷ []) (sym (tunnels_are old s st))
    ∙ ap (λ (w : Want). tunnels_after w (Replied said) s.tunnels) (sym (wants_open s o.stream o.goal mid.due none due_so)) in
    let P : Conn → Type 0 = λ k. Stands k (record (starved s) { tunnels = tunnels_of ts.items }) in
    let Q : List machine.Tunnel → Type 0 = λ vs. Stands after (record (starved s) { tunnels = vs }) in (
      (λ closed_so. absurd cc),
      record {
        stands = subst Q same (subst P (sym after_is) (gone_more old s end.NoMemory acted.spare acted.pump ts refl left.1 st));
        lawful = heard_lawful s said conn.lawful some;
      },
    )

-- no tunnel was to open
abbrev pub IsOfOpening : Reply → Type 0
IsOfOpening (reply.Opened tunnel routes) = Unit {0}
IsOfOpening (reply.HistoryFull entries live) = Unit {0}
IsOfOpening (reply.Assigned list at) = ⊥
IsOfOpening (reply.Accepted accepts at) = ⊥
IsOfOpening reply.Closed = ⊥

stream_unopened : (x : machine.Conn) (o : Option machine.Tunnel) (a : StreamAct) (said : Reply) → IsOfOpening said → tunnel_done x o a (Replied said) ≡ None
stream_unopened x None a (reply.Opened tunnel routes) h = refl
stream_unopened x None a (reply.HistoryFull entries live) h = refl
stream_unopened x o a (reply.Assigned list at) h = absurd h
stream_unopened x o a (reply.Accepted accepts at) h = absurd h
stream_unopened x o a reply.Closed h = absurd h
stream_unopened x (Some t) (stream.Payload n payload) (reply.Opened tunnel routes) h = refl
stream_unopened x (Some t) (stream.Packet n packet flow) (reply.Opened tunnel routes) h = refl
stream_unopened x (Some t) (stream.Push n to packet) (reply.Opened tunnel routes) h = refl
stream_unopened x (Some t) (stream.Drop n cause) (reply.Opened tunnel routes) h = refl
stream_unopened x (Some t) (stream.Assign asked) (reply.Opened tunnel routes) h = refl
stream_unopened x (Some t) (stream.Advertise ranges) (reply.Opened tunnel routes) h = refl
stream_unopened x (Some t) (stream.Close reason) (reply.Opened tunnel routes) h = refl
stream_unopened x (Some t) (stream.Payload n payload) (reply.HistoryFull entries live) h = refl
stream_unopened x (Some t) (stream.Packet n packet flow) (reply.HistoryFull entries live) h = refl
stream_unopened x (Some t) (stream.Push n to packet) (reply.HistoryFull entries live) h = refl
stream_unopened x (Some t) (stream.Drop n cause) (reply.HistoryFull entries live) h = refl
stream_unopened x (Some t) (stream.Assign asked) (reply.HistoryFull entries live) h = refl
stream_unopened x (Some t) (stream.Advertise ranges) (reply.HistoryFull entries live) h = refl
stream_unopened x (Some t) (stream.Close reason) (reply.HistoryFull entries live) h = refl

act_unopened : (x : machine.Conn) (a : Act) (said : Reply) → IsOfOpening said → opens_act a ≡ None → act_done x a (Replied said) ≡ None
act_unopened x a (reply.Assigned list at) h none = absurd h
act_unopened x a (reply.Accepted accepts at) h none = absurd h
act_unopened x a reply.Closed h none = absurd h
act_unopened x (act.Open id goal) said h none = absurd cc
act_unopened x (act.Bind id goal) (reply.Opened tunnel routes) h none = refl
act_unopened x (act.Refuse id status rule) (reply.Opened tunnel routes) h none = refl
act_unopened x (act.Reset id code) (reply.Opened tunnel routes) h none = refl
act_unopened x (act.OfStream id a) (reply.Opened tunnel routes) h none = stream_unopened x (tunnel_on x id) a (reply.Opened tunnel routes) tt
act_unopened x (act.Bind id goal) (reply.HistoryFull entries live) h none = refl
act_unopened x (act.Refuse id status rule) (reply.HistoryFull entries live) h none = refl
act_unopened x (act.Reset id code) (reply.HistoryFull entries live) h none = refl
act_unopened x (act.OfStream id a) (reply.HistoryFull entries live) h none = stream_unopened x (tunnel_on x id) a (reply.HistoryFull entries live) tt

due_unopened : (x : machine.Conn) (dues : List Due) (said : Reply) → IsOfOpening said → opening dues ≡ None → due_done x dues (Replied said) ≡ None
due_unopened x [] said h none = refl
due_unopened x (due.Do a ∷ rest) said h none = act_unopened (record x { due = rest }) a said h none
due_unopened x (due.Spend id size ∷ rest) said h none = refl
due_unopened x (due.Fault code ∷ rest) said h none = refl

ending_unopened : (x : machine.Conn) (ts : List machine.Tunnel) (said : Reply) → IsOfOpening said → ending_done x ts (Replied said) ≡ None
ending_unopened x [] said h = refl
ending_unopened x (t ∷ ts) (reply.Opened tunnel routes) h = refl
ending_unopened x (t ∷ ts) (reply.HistoryFull entries live) h = refl
ending_unopened x (t ∷ ts) (reply.Assigned list at) h = absurd h
ending_unopened x (t ∷ ts) (reply.Accepted accepts at) h = absurd h
ending_unopened x (t ∷ ts) reply.Closed h = absurd h

by_unopened : (s : machine.Conn) (e : Option End) (said : Reply) → IsOfOpening said → opening s.due ≡ None → done_by s e (Replied said) ≡ None
by_unopened s None said h none = due_unopened s s.due said h none
by_unopened s (Some reason) said h none = ending_unopened s s.tunnels said h

pub hears_unopened : (old new : Conn) (said : Reply) (fault : NoMemory) → IsOfOpening said → opening (behind old.first old.due) ≡ None → Hears old new said (Err fault)
hears_unopened old new said fault h none after gives s conn some =
    let is = by_unopened s s.ending said h (ap opening (due_is old s conn.stands) ∙ none) in
    let e : true ≡ false = sym (some_done s (Replied said) some) ∙ ap (λ (o : Done). is_some o) is in
    absurd cc

-- the history had no place
pub hears_full : (old mid acted e : Conn) (o : Opening) (entries live : ℕ) (said : Note) → TakesOpen old mid (Some o)
    → ((s : machine.Conn) → Stands mid s → s.ending ≡ None → (said ≡ (refused s o.stream 503 0).0) × Stands acted (refused s o.stream 503 0).1)
    → ((x : machine.Conn) → Stands acted x → IsLoose x → Stands e (settle x)) → HearsOne old e (reply.HistoryFull entries live) said
hears_full old mid acted e o entries live said takes refuses ends s conn fresh some =
    let due_so = open_due old mid o s takes conn.stands in
    let none = not_over s (due.Do (act.Open o.stream o.goal)) mid.due conn.lawful due_so in
    let x = record s { due = mid.due } in
    let r = refuses x (open_taken old mid o s takes conn.stands) none in
    let t = (refused x o.stream 503 0).1 in
    leads e s (Replied (reply.HistoryFull entries live)) said conn.lawful tt (record {
      x = t;
      does = does_due s (act.Open o.stream o.goal) mid.due (Replied (reply.HistoryFull entries live)) none due_so ∙ ap (λ (n : Note). Some (n, t)) (sym r.0);
      stands = λ loose. ends t r.1 loose;
    })

-- ---- no memory was left, and no tunnel had opened

-- a reply but one that a tunnel opened
abbrev pub OpensNone : Reply → Type 0
OpensNone (reply.Opened tunnel routes) = ⊥
OpensNone (reply.HistoryFull entries live) = Unit {0}
OpensNone (reply.Assigned list at) = Unit {0}
OpensNone (reply.Accepted accepts at) = Unit {0}
OpensNone reply.Closed = ⊥

no_more : (w : Want) (said : Reply) (ts : List machine.Tunnel) → OpensNone said → tunnels_after w (Replied said) ts ≡ ts
no_more w (reply.Opened tunnel routes) ts h = absurd h
no_more w reply.Closed ts h = absurd h
no_more Nothing said ts h = refl
no_more Say said ts h = refl
no_more (Bind on goal) said ts h = refl
no_more (Judge tunnel n flow) said ts h = refl
no_more (Push parcel) said ts h = refl
no_more (Send tunnel n payload) said ts h = refl
no_more (Over reason) said ts h = refl
no_more (Ask (call.Assign tunnel asked)) said ts h = refl
no_more (Ask (call.Advertise tunnel ranges)) said ts h = refl
no_more (Ask (call.Close tunnel)) said ts h = refl
no_more (Ask (call.Open conn on actor goal)) (reply.HistoryFull entries live) ts h = refl
no_more (Ask (call.Open conn on actor goal)) (reply.Assigned list at) ts h = refl
no_more (Ask (call.Open conn on actor goal)) (reply.Accepted accepts at) ts h = refl

isnt_closed : (said : Reply) → OpensNone said → said ≢ reply.Closed
isnt_closed (reply.Opened tunnel routes) h is = absurd h
isnt_closed (reply.HistoryFull entries live) h is = absurd cc
isnt_closed (reply.Assigned list at) h is = absurd cc
isnt_closed (reply.Accepted accepts at) h is = absurd cc
isnt_closed reply.Closed h is = absurd h

pub hears_nothing : (old acted after : Conn) (said : Reply) → OpensNone said → Leaves old acted → GivesUp acted end.NoMemory after → HearsNone old after said
hears_nothing old acted after said none left gives s conn some =
    let same : s.tunnels ≡ tunnels_after (want_of s) (Replied said) s.tunnels = sym (no_more (want_of s) said s.tunnels none) in
    let Q : List machine.Tunnel → Type 0 = λ vs. Stands after (record (starved s) { tunnels = vs }) in (
      isnt_closed said none,
      record {
        stands = subst Q same (gone_left old acted after s end.NoMemory refl left gives conn.stands);
        lawful = heard_lawful s said conn.lawful some;
      },
    )

-- what a call leaves that took its first act and was refused memory behind that
pub leaves_both : (old mid acted : Conn) → Leaves old mid → Leaves mid acted → Leaves old acted
leaves_both old mid acted a b = record {
  is = b.is ∙ ap (λ (k : Conn). record k { front = acted.front; first = acted.first; due = acted.due; ending = acted.ending; spare = acted.spare; pump = acted.pump; tunnels = acted.tunnels }) a.is;
  items = b.items ∙ a.items;
  spare_is = λ h. b.spare_is (a.spare_is h);
}

pub leaves_taken : (old mid : Conn) → mid ≡ record old { first = mid.first; due = mid.due } → Leaves old mid
leaves_taken old mid is =
    let P : Conn → Type 0 = λ k. Leaves old k in
    subst P (sym is) (record { is = refl; items = refl; spare_is = λ h. h })

pub leaves_due : (old mid : Conn) → mid ≡ record old { due = mid.due } → Leaves old mid
leaves_due old mid is =
    let P : Conn → Type 0 = λ k. Leaves old k in
    subst P (sym is) (record { is = refl; items = refl; spare_is = λ h. h })

-- memory was refused
pub hears_err : (old new : Conn) (said : Reply) (result : Result Note NoMemory) → IsErr result → ((after : Conn) → GivesUp new end.NoMemory after → HearsNone old after said) → Hears old new said result
hears_err old new said (Ok note) is h = absurd cc
hears_err old new said (Err fault) is h = h

-- the first of a list
pub first_is : {A : Type 0} (xs : List A) (x : A) → slice_get xs 0 ≡ Some x → xs ≡ x ∷ drop 1 xs
first_is [] x h = absurd cc
first_is (y ∷ ys) x h = ap (λ o. unwrap_or o y ∷ ys) h
