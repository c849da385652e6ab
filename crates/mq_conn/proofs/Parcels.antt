-- Packets are judged and pushed.
use Rattle.std.proofs.Common.{◌≡◌, ℕ, ◌==◌, nat_le, Bool, true, false, cond, List, [], ◌∷◌, Option, Some, None, Ok, refl, sym, ap, ◌∙◌, subst}
use Rattle.std.specs.Prelude.{find, vec_len, vec_capacity}
use Rattle.std.specs.Option.{is_some}
use Rattle.mq_addr.specs.declared.range.Flow.{Flow}
use Rattle.mq_front.specs.Limits.{AllMayBeDue}
use Rattle.mq_talk.specs.declared.note.End.{End}
use Rattle.mq_talk.specs.declared.note.Note.{Note}
use Rattle.mq_talk.specs.declared.place.Judged.{Judged as Verdict}
use Rattle.mq_talk.specs.declared.place.Origin.TheVariants as origin
use Rattle.mq_talk.specs.declared.place.Parcel.{Parcel}
use Rattle.mq_talk.specs.declared.place.Place.{Place}
use Rattle.mq_machine.specs.declared.act.Act.TheVariants as act
use Rattle.mq_machine.specs.declared.act.StreamAct.{StreamAct}
use Rattle.mq_machine.specs.declared.act.StreamAct.TheVariants as stream
use Rattle.mq_machine.specs.declared.act.Due.{Due}
use Rattle.mq_machine.specs.declared.act.Due.TheVariants as due
use Rattle.mq_machine.specs.Done.{Done, before, done_by, due_done, judged, stream_done, tunnel_done}
use Rattle.mq_machine.specs.Lawful.{IsLoose}
use Rattle.mq_machine.specs.Settle.{gives_up, settle}
use Rattle.mq_machine.specs.State as machine
use Rattle.mq_machine.specs.State.{owed, tunnel_on, values}
use Rattle.mq_machine.specs.Want.{Ask, Bind, Judge, Judged, Nothing, Over, Push, Pushed, Say, Send, Want, most_values, due_want, ending_want, over_want, tunnel_want, want_by, want_of}
use Rattle.mq_conn.specs.Acts.{DoesAct}
use Rattle.mq_conn.specs.declared.conn.Conn.{Conn}
use Rattle.mq_conn.specs.declared.conn.First.{First}
use Rattle.mq_conn.specs.declared.conn.First.TheVariants as first
use Rattle.mq_conn.specs.declared.packets.Judging.{Judging}
use Rattle.mq_conn.specs.declared.packets.Pushing.{Pushing}
use Rattle.mq_talk.specs.declared.book.Call.{Call}
use Rattle.mq_talk.specs.declared.book.Call.TheVariants as call
use Rattle.mq_conn.specs.Conns.{GivesParcel, IsConn, IsReady, Stands, TellsPush, behind, emptied, emptied_act, emptied_due, emptied_dues, find_on, state}
use Rattle.mq_conn.specs.Packets.{HasNoPush, HasPush, JudgesNote, pushed_note}
use Rattle.mq_conn.proofs.Answering.{does_due, leads, not_over, some_done}
use Rattle.mq_conn.proofs.Ready.{ready_first}
use Rattle.mq_conn.proofs.Standing.{due_is, fronted, tunnels_are}

-- ---- a verdict

-- a push stands in front
pub pushes : (c : Conn) (s : machine.Conn) (id n : ℕ) (to : Place) (packet : List ℕ) → c.first ≡ None → Stands c s
    → Stands (record c { first = Some (first.Push id n to packet) }) (before (act.OfStream id (stream.Push n to packet)) s)
pushes c s id n to packet none st =
    let p = st.past in
    let P : machine.Conn → Type 0 = λ x. Stands (record c { first = Some (first.Push id n to packet) }) (before (act.OfStream id (stream.Push n to packet)) x) in
    subst P (sym st.is) (record {
      past = p;
      is = ap (λ (f : Option First). record (state c p) { due = due.Do (act.OfStream id (stream.Push n to packet)) ∷ behind f c.due }) none;
      read = st.read;
      given = st.given;
      ready = ready_first c.spare (vec_len c.tunnels) (vec_capacity c.tunnels) c.first (first.Push id n to packet) c.due none refl st.ready;
    })

pub judges_pass : (c : Conn) (s : machine.Conn) (t : machine.Tunnel) (id number n : ℕ) (to : Place) (packet : List ℕ) → c.first ≡ None → t.stream ≡ id → Stands c s
    → Stands (record c { first = Some (first.Push id n to packet) }) (before (act.OfStream t.stream (stream.Push n to packet)) s)
judges_pass c s t id number n to packet none on st =
    let P : ℕ → Type 0 = λ k. Stands (record c { first = Some (first.Push id n to packet) }) (before (act.OfStream k (stream.Push n to packet)) s) in
    subst P (sym on) (pushes c s id n to packet none st)

-- it was judged
pub judges : (mid acted : Conn) (id number : ℕ) (p : Judging) (flow : Flow) (j : Verdict) (said : Note) (t : machine.Tunnel) → find_on mid p.stream ≡ Some t → t.id ≡ number → t.stream ≡ p.stream
    → mid.first ≡ None → JudgesNote mid acted number p j said → DoesAct mid acted (act.OfStream p.stream (stream.Packet p.n p.packet flow)) (Judged j.verdict j.at) (Ok said)
judges mid acted id number p flow j said t live same on none note s st over =
    let here : tunnel_on s p.stream ≡ Some t = ap (λ (ts : List machine.Tunnel). find (λ (u : machine.Tunnel). u.stream == p.stream) ts) (tunnels_are mid s st) ∙ live in
    let r = note s t st none same on in
    let x = (judged s t p.n p.packet j.verdict j.at).1 in (
      x,
      ap (λ (o : Option machine.Tunnel). tunnel_done s o (stream.Packet p.n p.packet flow) (Judged j.verdict j.at)) here ∙ ap (λ (n : Note). Some (n, x)) (sym r.0),
      r.1,
    )

-- ---- the push in front, once it was taken

push_done : (x : machine.Conn) (t : machine.Tunnel) (n : ℕ) (to : Place) (packet : List ℕ) (taken : Bool) → stream_done x t (stream.Push n to packet) (Pushed taken) ≡ Some (pushed_note t.id n to taken, x)
push_done x t n to packet true = refl
push_done x t n to packet false = refl

pub tells_push : (c : Conn) (id number n : ℕ) (to : Place) (packet : List ℕ) (taken : Bool) (t : machine.Tunnel) → find_on c id ≡ Some t → t.id ≡ number
    → DoesAct c c (act.OfStream id (stream.Push n to packet)) (Pushed taken) (Ok (pushed_note number n to taken))
tells_push c id number n to packet taken t live same s st over =
    let here : tunnel_on s id ≡ Some t = ap (λ (ts : List machine.Tunnel). find (λ (u : machine.Tunnel). u.stream == id) ts) (tunnels_are c s st) ∙ live in
    (s, ap (λ (o : Option machine.Tunnel). tunnel_done s o (stream.Push n to packet) (Pushed taken)) here ∙ push_done s t n to packet taken ∙ ap (λ (k : ℕ). Some (pushed_note k n to taken, s)) same, st)

pub first_push : (c : Conn) (p : Pushing) (packet : List ℕ) → HasPush c p packet → behind c.first c.due ≡ due.Do (act.OfStream p.stream (stream.Push p.n p.to packet)) ∷ c.due
first_push c p packet is = ap (λ (f : Option First). behind f c.due) is

-- the due whose bytes these were
lent_act : (a : StreamAct) (n : ℕ) (to : Place) (packet : List ℕ) → emptied_act a ≡ stream.Push n to packet → (bytes : List ℕ) × (a ≡ stream.Push n to bytes)
lent_act (stream.Payload m payload) n to packet is = absurd cc
lent_act (stream.Packet m bytes flow) n to packet is = absurd cc
lent_act (stream.Push m place bytes) n to packet is = (bytes, cc)
lent_act (stream.Drop m cause) n to packet is = absurd cc
lent_act (stream.Assign asked) n to packet is = absurd cc
lent_act (stream.Advertise ranges) n to packet is = absurd cc
lent_act (stream.Close reason) n to packet is = absurd cc

lent_due : (d : Due) (id n : ℕ) (to : Place) (packet : List ℕ) → emptied_due d ≡ due.Do (act.OfStream id (stream.Push n to packet))
    → (bytes : List ℕ) × (d ≡ due.Do (act.OfStream id (stream.Push n to bytes)))
lent_due (due.Do (act.Bind on goal)) id n to packet is = absurd cc
lent_due (due.Do (act.Open on goal)) id n to packet is = absurd cc
lent_due (due.Do (act.Refuse on status rule)) id n to packet is = absurd cc
lent_due (due.Do (act.Reset on code)) id n to packet is = absurd cc
lent_due (due.Do (act.OfStream on a)) id n to packet is =
    let on_is : on ≡ id = cc in
    let x = lent_act a n to packet cc in
    (x.0, ap (λ (k : ℕ). due.Do (act.OfStream k a)) on_is ∙ ap (λ (b : StreamAct). due.Do (act.OfStream id b)) x.1)
lent_due (due.Spend on size) id n to packet is = absurd cc
lent_due (due.Fault code) id n to packet is = absurd cc

lent_dues : (ds rest : List Due) (id n : ℕ) (to : Place) (packet : List ℕ) → emptied_dues ds ≡ due.Do (act.OfStream id (stream.Push n to packet)) ∷ rest
    → (bytes : List ℕ) × (ds ≡ due.Do (act.OfStream id (stream.Push n to bytes)) ∷ rest)
lent_dues [] rest id n to packet is = absurd cc
lent_dues (d ∷ ds) rest id n to packet is =
    let same : ds ≡ rest = cc in
    let x = lent_due d id n to packet cc in
    (x.0, ap (λ (k : Due). k ∷ ds) x.1 ∙ ap (λ (ks : List Due). due.Do (act.OfStream id (stream.Push n to x.0)) ∷ ks) same)

-- it is told what became of it
pub tells_lent : (old mid e : Conn) (p : Pushing) (packet : List ℕ) (number : ℕ) (t : machine.Tunnel) (taken : Bool) → HasPush old p packet → mid ≡ record old { first = None }
    → find_on mid p.stream ≡ Some t → t.id ≡ number → ((x : machine.Conn) → Stands mid x → IsLoose x → Stands e (settle x)) → TellsPush old e taken (pushed_note number p.n p.to taken)
tells_lent old mid e p packet number t taken has keeps live same ends s lent some =
    let is = first_push old p packet has in
    let was = lent_dues s.due old.due p.stream p.n p.to packet (due_is old (emptied s) lent.stands ∙ is) in
    let a = act.OfStream p.stream (stream.Push p.n p.to was.0) in
    let over = not_over s (due.Do a) old.due lent.lawful was.1 in
    let x = record s { due = old.due } in
    let P : Conn → Type 0 = λ k. Stands k x in
    let stands = subst P (sym keeps) (fronted old (emptied s) (due.Do (act.OfStream p.stream (stream.Push p.n p.to packet))) old.due is lent.stands) in
    let r = tells_push mid p.stream number p.n p.to was.0 taken t live same x stands over in
    leads e s (Pushed taken) (pushed_note number p.n p.to taken) lent.lawful tt (record {
      x = r.0;
      does = does_due s a old.due (Pushed taken) over was.1 ∙ r.1;
      stands = λ loose. ends r.0 r.2 loose;
    })

-- ---- no push is due

abbrev pub IsNoPush : List Due → Type 0
IsNoPush [] = Unit {0}
IsNoPush (due.Do (act.Bind id goal) ∷ rest) = Unit {0}
IsNoPush (due.Do (act.Open id goal) ∷ rest) = Unit {0}
IsNoPush (due.Do (act.Refuse id status rule) ∷ rest) = Unit {0}
IsNoPush (due.Do (act.Reset id code) ∷ rest) = Unit {0}
IsNoPush (due.Do (act.OfStream id (stream.Payload n payload)) ∷ rest) = Unit {0}
IsNoPush (due.Do (act.OfStream id (stream.Packet n packet flow)) ∷ rest) = Unit {0}
IsNoPush (due.Do (act.OfStream id (stream.Push n to packet)) ∷ rest) = ⊥
IsNoPush (due.Do (act.OfStream id (stream.Drop n cause)) ∷ rest) = Unit {0}
IsNoPush (due.Do (act.OfStream id (stream.Assign asked)) ∷ rest) = Unit {0}
IsNoPush (due.Do (act.OfStream id (stream.Advertise ranges)) ∷ rest) = Unit {0}
IsNoPush (due.Do (act.OfStream id (stream.Close reason)) ∷ rest) = Unit {0}
IsNoPush (due.Spend id size ∷ rest) = Unit {0}
IsNoPush (due.Fault code ∷ rest) = Unit {0}

due_no_push : (dues : List Due) → AllMayBeDue dues → IsNoPush dues
due_no_push [] h = tt
due_no_push (due.Do (act.Bind id goal) ∷ rest) h = tt
due_no_push (due.Do (act.Open id goal) ∷ rest) h = tt
due_no_push (due.Do (act.Refuse id status rule) ∷ rest) h = tt
due_no_push (due.Do (act.Reset id code) ∷ rest) h = tt
due_no_push (due.Do (act.OfStream id (stream.Payload n payload)) ∷ rest) h = tt
due_no_push (due.Do (act.OfStream id (stream.Packet n packet flow)) ∷ rest) h = tt
due_no_push (due.Do (act.OfStream id (stream.Push n to packet)) ∷ rest) h = absurd h.0
due_no_push (due.Do (act.OfStream id (stream.Drop n cause)) ∷ rest) h = tt
due_no_push (due.Do (act.OfStream id (stream.Assign asked)) ∷ rest) h = tt
due_no_push (due.Do (act.OfStream id (stream.Advertise ranges)) ∷ rest) h = tt
due_no_push (due.Do (act.OfStream id (stream.Close reason)) ∷ rest) h = tt
due_no_push (due.Spend id size ∷ rest) h = tt
due_no_push (due.Fault code ∷ rest) h = tt

front_no_push : (c : Conn) (f : Option First) → c.first ≡ f → HasNoPush c → AllMayBeDue c.due → IsNoPush (behind f c.due)
front_no_push c None is none may = due_no_push c.due may
front_no_push c (Some (first.Open id goal)) is none may = tt
front_no_push c (Some (first.Close id reason)) is none may = tt
front_no_push c (Some (first.Push id n to packet)) is none may = absurd (none (record { stream = id; n = n; to = to }) packet is)

no_push : (c : Conn) (s : machine.Conn) → HasNoPush c → Stands c s → IsNoPush s.due
no_push c s none st =
    let P : List Due → Type 0 = λ ds. IsNoPush ds in
    subst P (sym (due_is c s st)) (front_no_push c c.first refl none st.ready.may)

-- what isn't wanted then
abbrev is_push : Want → Bool
is_push Nothing = false
is_push Say = false
is_push (Bind on goal) = false
is_push (Ask call) = false
is_push (Judge tunnel n flow) = false
is_push (Push parcel) = true
is_push (Send tunnel n payload) = false
is_push (Over reason) = false

over_isnt : (reason : End) (bytes : List ℕ) → is_push (over_want reason bytes) ≡ false
over_isnt reason [] = refl
over_isnt reason (b ∷ bytes) = either (gives_up reason)
  where
    either : (gives : Bool) → is_push (cond gives (Over reason) Nothing) ≡ false
    either true = refl
    either false = refl

ending_isnt : (x : machine.Conn) (reason : End) (ts : List machine.Tunnel) → is_push (ending_want x reason ts) ≡ false
ending_isnt x reason [] = over_isnt reason (owed x)
ending_isnt x reason (t ∷ ts) = refl

ask_either : (b : Bool) (one other : Call) → is_push (cond b (Ask one) (Ask other)) ≡ false
ask_either true one other = refl
ask_either false one other = refl

stream_isnt : (o : Option machine.Tunnel) (id : ℕ) (a : StreamAct) (rest : List Due) → IsNoPush (due.Do (act.OfStream id a) ∷ rest) → is_push (tunnel_want o a) ≡ false
stream_isnt None id a rest h = refl
stream_isnt (Some t) id (stream.Payload n payload) rest h = refl
stream_isnt (Some t) id (stream.Packet n packet flow) rest h = refl
stream_isnt (Some t) id (stream.Push n to packet) rest h = absurd h
stream_isnt (Some t) id (stream.Drop n cause) rest h = refl
stream_isnt (Some t) id (stream.Assign asked) rest h = ask_either (nat_le most_values (values t)) (call.Close t.id) (call.Assign t.id asked)
stream_isnt (Some t) id (stream.Advertise ranges) rest h = refl
stream_isnt (Some t) id (stream.Close reason) rest h = refl

due_isnt : (x : machine.Conn) (dues : List Due) → IsNoPush dues → is_push (due_want x dues) ≡ false
due_isnt x [] h = refl
due_isnt x (due.Do (act.Bind id goal) ∷ rest) h = refl
due_isnt x (due.Do (act.Open id goal) ∷ rest) h = refl
due_isnt x (due.Do (act.Refuse id status rule) ∷ rest) h = refl
due_isnt x (due.Do (act.Reset id code) ∷ rest) h = refl
due_isnt x (due.Do (act.OfStream id a) ∷ rest) h = stream_isnt (tunnel_on x id) id a rest h
due_isnt x (due.Spend id size ∷ rest) h = refl
due_isnt x (due.Fault code ∷ rest) h = refl

by_isnt : (s : machine.Conn) (e : Option End) → IsNoPush s.due → is_push (want_by s e) ≡ false
by_isnt s None h = due_isnt s s.due h
by_isnt s (Some reason) h = ending_isnt s reason s.tunnels

pub wants_no_push : (s : machine.Conn) (wanted : Parcel) → IsNoPush s.due → want_of s ≡ Push wanted → ⊥
wants_no_push s wanted h is = let e : true ≡ false = sym (ap is_push is) ∙ by_isnt s s.ending h in cc

-- nor done
stream_undone : (x : machine.Conn) (o : Option machine.Tunnel) (id : ℕ) (a : StreamAct) (rest : List Due) (taken : Bool) → IsNoPush (due.Do (act.OfStream id a) ∷ rest) → tunnel_done x o a (Pushed taken) ≡ None
stream_undone x None id a rest taken h = refl
stream_undone x (Some t) id (stream.Payload n payload) rest taken h = refl
stream_undone x (Some t) id (stream.Packet n packet flow) rest taken h = refl
stream_undone x (Some t) id (stream.Push n to packet) rest taken h = absurd h
stream_undone x (Some t) id (stream.Drop n cause) rest taken h = refl
stream_undone x (Some t) id (stream.Assign asked) rest taken h = refl
stream_undone x (Some t) id (stream.Advertise ranges) rest taken h = refl
stream_undone x (Some t) id (stream.Close reason) rest taken h = refl

due_undone : (x : machine.Conn) (dues : List Due) (taken : Bool) → IsNoPush dues → due_done x dues (Pushed taken) ≡ None
due_undone x [] taken h = refl
due_undone x (due.Do (act.Bind id goal) ∷ rest) taken h = refl
due_undone x (due.Do (act.Open id goal) ∷ rest) taken h = refl
due_undone x (due.Do (act.Refuse id status rule) ∷ rest) taken h = refl
due_undone x (due.Do (act.Reset id code) ∷ rest) taken h = refl
due_undone x (due.Do (act.OfStream id a) ∷ rest) taken h = stream_undone (record x { due = rest }) (tunnel_on x id) id a rest taken h
due_undone x (due.Spend id size ∷ rest) taken h = refl
due_undone x (due.Fault code ∷ rest) taken h = refl

by_undone : (s : machine.Conn) (e : Option End) (ts : List machine.Tunnel) (taken : Bool) → IsNoPush s.due → done_by (record s { tunnels = ts }) e (Pushed taken) ≡ None
by_undone s None ts taken h = due_undone (record s { tunnels = ts }) s.due taken h
by_undone s (Some reason) [] taken h = refl
by_undone s (Some reason) (t ∷ ts) taken h = refl

-- nor without the bytes of one
emptied_no_push : (dues : List Due) → IsNoPush (emptied_dues dues) → IsNoPush dues
emptied_no_push [] h = tt
emptied_no_push (due.Do (act.Bind id goal) ∷ rest) h = tt
emptied_no_push (due.Do (act.Open id goal) ∷ rest) h = tt
emptied_no_push (due.Do (act.Refuse id status rule) ∷ rest) h = tt
emptied_no_push (due.Do (act.Reset id code) ∷ rest) h = tt
emptied_no_push (due.Do (act.OfStream id (stream.Payload n payload)) ∷ rest) h = tt
emptied_no_push (due.Do (act.OfStream id (stream.Packet n packet flow)) ∷ rest) h = tt
emptied_no_push (due.Do (act.OfStream id (stream.Push n to packet)) ∷ rest) h = absurd h
emptied_no_push (due.Do (act.OfStream id (stream.Drop n cause)) ∷ rest) h = tt
emptied_no_push (due.Do (act.OfStream id (stream.Assign asked)) ∷ rest) h = tt
emptied_no_push (due.Do (act.OfStream id (stream.Advertise ranges)) ∷ rest) h = tt
emptied_no_push (due.Do (act.OfStream id (stream.Close reason)) ∷ rest) h = tt
emptied_no_push (due.Spend id size ∷ rest) h = tt
emptied_no_push (due.Fault code ∷ rest) h = tt

pub pushes_none : (old e : Conn) (taken : Bool) (said : Note) → HasNoPush old → TellsPush old e taken said
pushes_none old e taken said none s lent some =
    let quiet = emptied_no_push s.due (no_push old (emptied s) none lent.stands) in
    let f : true ≡ false = sym (some_done s (Pushed taken) some) ∙ ap (λ (o : Done). is_some o) (by_undone s s.ending s.tunnels taken quiet) in
    absurd cc

-- ---- the parcel

emptied_none : (dues : List Due) → IsNoPush dues → emptied_dues dues ≡ dues
emptied_none [] h = refl
emptied_none (due.Do (act.Bind id goal) ∷ rest) h = refl
emptied_none (due.Do (act.Open id goal) ∷ rest) h = refl
emptied_none (due.Do (act.Refuse id status rule) ∷ rest) h = refl
emptied_none (due.Do (act.Reset id code) ∷ rest) h = refl
emptied_none (due.Do (act.OfStream id (stream.Payload n payload)) ∷ rest) h = refl
emptied_none (due.Do (act.OfStream id (stream.Packet n packet flow)) ∷ rest) h = refl
emptied_none (due.Do (act.OfStream id (stream.Push n to packet)) ∷ rest) h = absurd h
emptied_none (due.Do (act.OfStream id (stream.Drop n cause)) ∷ rest) h = refl
emptied_none (due.Do (act.OfStream id (stream.Assign asked)) ∷ rest) h = refl
emptied_none (due.Do (act.OfStream id (stream.Advertise ranges)) ∷ rest) h = refl
emptied_none (due.Do (act.OfStream id (stream.Close reason)) ∷ rest) h = refl
emptied_none (due.Spend id size ∷ rest) h = refl
emptied_none (due.Fault code ∷ rest) h = refl

-- where none is wanted, nothing is moved out
pub gives_none : (old new : Conn) (parcel : Parcel) → HasNoPush old → new ≡ old → GivesParcel old new parcel
gives_none old new parcel none is = record {
  parcel_is = λ s conn wanted wants. absurd (wants_no_push s wanted (no_push old s none conn.stands) wants);
  lent = λ s conn.
      (let same : emptied s ≡ s = ap (λ (ds : List Due). record s { due = ds }) (emptied_none s.due (no_push old s none conn.stands)) in
      let P : machine.Conn → Type 0 = λ x. Stands new x in
      let Q : Conn → Type 0 = λ k. Stands k s in
      record { stands = subst P (sym same) (subst Q (sym is) conn.stands); lawful = conn.lawful });
}

-- a push without its bytes stands in front
lent_stands : (c : Conn) (s : machine.Conn) (p : Pushing) (packet : List ℕ) → HasPush c p packet → Stands c s → Stands (record c { first = Some (first.Push p.stream p.n p.to []) }) (emptied s)
lent_stands c s p packet has st =
    let q = st.past in
    let e : Conn = record c { first = Some (first.Push p.stream p.n p.to []) } in
    let P : machine.Conn → Type 0 = λ x. Stands e (emptied x) in
    let R : Option First → Type 0 = λ f. IsReady c.spare (vec_len c.tunnels) (vec_capacity c.tunnels) f c.due in
    let r = subst R has st.ready in
    subst P (sym st.is) (record {
      past = q;
      is = ap (λ (f : Option First). record (state c q) { due = emptied_dues (behind f c.due) }) has;
      read = st.read;
      given = st.given;
      ready = record { room = r.room; spare_is = r.spare_is; may = r.may };
    })

-- the push that is wanted
wants_push : (c : Conn) (s : machine.Conn) (p : Pushing) (packet : List ℕ) → HasPush c p packet → Stands c s → s.ending ≡ None → want_of s ≡ tunnel_want (find_on c p.stream) (stream.Push p.n p.to packet)
wants_push c s p packet has st over =
    ap (λ (e : Option End). want_by s e) over ∙ ap (λ (ds : List Due). due_want s ds) (due_is c s st ∙ first_push c p packet has)
    ∙ ap (λ (ts : List machine.Tunnel). tunnel_want (find (λ (t : machine.Tunnel). t.stream == p.stream) ts) (stream.Push p.n p.to packet)) (tunnels_are c s st)

abbrev parcel_of : ℕ → Pushing → List ℕ → Parcel
parcel_of id p packet = record { from = origin.Tunnel id; n = p.n; to = p.to; packet = packet }

is_wanted : (o : Option machine.Tunnel) (id : ℕ) (p : Pushing) (packet : List ℕ) (t : machine.Tunnel) (wanted : Parcel) → o ≡ Some t → t.id ≡ id → tunnel_want o (stream.Push p.n p.to packet) ≡ Push wanted → parcel_of id p packet ≡ wanted
is_wanted o id p packet t wanted on same is =
    let e : Push (parcel_of id p packet) ≡ Push wanted =
    ap (λ (n : ℕ). Push (parcel_of n p packet)) (sym same) ∙ ap (λ (x : Option machine.Tunnel). tunnel_want x (stream.Push p.n p.to packet)) (sym on) ∙ is in
    cc

not_wanted : (o : Option machine.Tunnel) (p : Pushing) (packet : List ℕ) (wanted : Parcel) → o ≡ None → tunnel_want o (stream.Push p.n p.to packet) ≡ Push wanted → ⊥
not_wanted o p packet wanted none is =
    let e : Nothing ≡ Push wanted = ap (λ (x : Option machine.Tunnel). tunnel_want x (stream.Push p.n p.to packet)) (sym none) ∙ is in cc

-- it is moved out of the push in front
pub gives_some : (old new : Conn) (p : Pushing) (packet : List ℕ) (parcel : Parcel) → HasPush old p packet → new ≡ record old { first = Some (first.Push p.stream p.n p.to []) }
    → ((wanted : Parcel) → tunnel_want (find_on old p.stream) (stream.Push p.n p.to packet) ≡ Push wanted → parcel ≡ wanted) → GivesParcel old new parcel
gives_some old new p packet parcel has is gives = record {
  parcel_is = λ s conn wanted wants. gives wanted (sym (wants_push old s p packet has conn.stands (is_alive s conn)) ∙ wants);
  lent = λ s conn.
      (let P : Conn → Type 0 = λ k. Stands k (emptied s) in record {
        stands = subst P (sym is) (lent_stands old s p packet has conn.stands);
        lawful = conn.lawful;
      });
}
  where
    is_alive : (s : machine.Conn) → IsConn old s → s.ending ≡ None
    is_alive s conn = not_over s (due.Do (act.OfStream p.stream (stream.Push p.n p.to packet))) old.due conn.lawful (due_is old s conn.stands ∙ first_push old p packet has)

pub gives_live : (old : Conn) (id : ℕ) (p : Pushing) (packet : List ℕ) (t : machine.Tunnel) → find_on old p.stream ≡ Some t → t.id ≡ id
    → (wanted : Parcel) → tunnel_want (find_on old p.stream) (stream.Push p.n p.to packet) ≡ Push wanted → parcel_of id p packet ≡ wanted
gives_live old id p packet t on same wanted is = is_wanted (find_on old p.stream) id p packet t wanted on same is

pub gives_dead : (old : Conn) (p : Pushing) (packet : List ℕ) (parcel : Parcel) → find_on old p.stream ≡ None → (wanted : Parcel) → tunnel_want (find_on old p.stream) (stream.Push p.n p.to packet) ≡ Push wanted → parcel ≡ wanted
gives_dead old p packet parcel none wanted is = absurd (not_wanted (find_on old p.stream) p packet wanted none is)
