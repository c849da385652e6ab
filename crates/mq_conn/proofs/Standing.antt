-- What the core stands for behind each small change.
use Rattle.std.proofs.Common.{◌≡◌, ◌≢◌, ℕ, zero, suc, ◌≤◌, ◌==◌, Bool, true, false, not, cond, List, [], ◌∷◌, ◌++◌, length, take, drop, filter, Option, Some, None, refl, sym, ap, ◌∙◌, subst, arith, eqb-true}
use Rattle.std.specs.Prelude.{find, vec_len, vec_capacity}
use Rattle.std.specs.Global.{Vec}
use Rattle.std.specs.Option.{is_some}
use Rattle.std.proofs.lemmas.List.{length-append, map-append}
use Rattle.mq_front.specs.declared.front.Front.{Front}
use Rattle.mq_front.specs.declared.front.Front.TheVariants as front
use Rattle.mq_front.specs.Fronts.{IsFront, HasPut}
use Rattle.mq_h2.specs.State as h2
use Rattle.mq_streams.specs.Answers.{next_update}
use Rattle.mq_talk.specs.declared.goal.Goal.{Goal}
use Rattle.mq_talk.specs.declared.note.End.{End}
use Rattle.mq_talk.specs.declared.note.Why.{Why}
use Rattle.mq_talk.specs.declared.note.Why.TheVariants as why
use Rattle.mq_machine.specs.declared.act.Act.TheVariants as act
use Rattle.mq_machine.specs.declared.act.Due.{Due}
use Rattle.mq_machine.specs.declared.act.Due.TheVariants as due
use Rattle.mq_machine.specs.Done.{before, closing, http1_end, is_on, refusal, success, without, without_tunnel}
use Rattle.mq_machine.specs.Putting.{Putting, first_of, nothing_put, putting}
use Rattle.mq_machine.specs.Settle.{gives_up, is_given_up, settled, update_put, updates, updating}
use Rattle.mq_machine.specs.State as machine
use Rattle.mq_machine.specs.State.{Stream, Head, OverHttp1, OverHttp2, owed}
use Rattle.mq_machine.specs.Steps.{given_up}
use Rattle.mq_machine.proofs.Settling.{puts_nothing}
use Rattle.mq_machine.proofs.Lawful.Lists.{found_in}
use Rattle.mq_conn.specs.declared.conn.Conn.{Conn}
use Rattle.mq_conn.specs.declared.conn.First.{First}
use Rattle.mq_conn.specs.declared.conn.First.TheVariants as first
use Rattle.mq_conn.specs.declared.conn.Tunnel.{Tunnel}
use Rattle.mq_conn.specs.Conns.{IsRead, IsReady, IsSpare, Leaves, PutsNothing, Stands, behind, state, tunnel_is, tunnels_of}
use Rattle.mq_conn.specs.Rooms.{HasMade, KeepsTunnels}
use Rattle.mq_conn.proofs.Ready.{ready_kept, ready_less, ready_none, ready_open, ready_rest, ready_same}

-- ---- fields

pub ending_is : (c : Conn) (s : machine.Conn) → Stands c s → s.ending ≡ c.ending
ending_is c s st = ap (λ (x : machine.Conn). x.ending) st.is

pub due_is : (c : Conn) (s : machine.Conn) → Stands c s → s.due ≡ behind c.first c.due
due_is c s st = ap (λ (x : machine.Conn). x.due) st.is

pub number_is : (c : Conn) (s : machine.Conn) → Stands c s → s.number ≡ c.number
number_is c s st = ap (λ (x : machine.Conn). x.number) st.is

pub tunnels_are : (c : Conn) (s : machine.Conn) → Stands c s → s.tunnels ≡ tunnels_of c.tunnels.items
tunnels_are c s st = ap (λ (x : machine.Conn). x.tunnels) st.is

front_reads : (o : Option Front) (f : Front) (e : Option End) (g : machine.Front) (ss : List Stream) (owed : List ℕ) → o ≡ Some f → IsRead o e g ss owed → (is_given_up e ≡ false) × IsFront f g ss owed
front_reads o f e g ss owed is h =
    let P : Option Front → Type 0 = λ x. IsRead x e g ss owed in
    subst P is h

-- it was read so far
pub reads : (c : Conn) (s : machine.Conn) (f : Front) → c.front ≡ Some f → Stands c s → IsFront f s.front s.streams (owed s)
reads c s f is st =
    let p = st.past in
    let P : machine.Conn → Type 0 = λ x. IsFront f x.front x.streams (owed x) in
    subst P (sym st.is) (front_reads c.front f c.ending p.front p.streams (drop p.given p.out) is st.read).1

pub goes_on : (c : Conn) (s : machine.Conn) (f : Front) → c.front ≡ Some f → Stands c s → is_given_up c.ending ≡ false
goes_on c s f is st =
    let p = st.past in
    (front_reads c.front f c.ending p.front p.streams (drop p.given p.out) is st.read).0

-- or given up
pub given : (c : Conn) (s : machine.Conn) → c.front ≡ None → Stands c s → is_given_up c.ending ≡ true
given c s is st =
    let p = st.past in
    let P : Option Front → Type 0 = λ x. IsRead x c.ending p.front p.streams (drop p.given p.out) in
    (subst P is st.read).0

-- ---- bytes that are put

pub drop_more : (n : ℕ) (out more : List ℕ) → n ≤ length out → drop n (out ++ more) ≡ drop n out ++ more
drop_more zero out more h = refl
drop_more (suc n) [] more h = absurd (omega arith)
drop_more (suc n) (b ∷ bs) more h = drop_more n bs more (omega arith)

drop_taken : (n : ℕ) (out : List ℕ) → drop n (take n out) ≡ []
drop_taken zero out = refl
drop_taken (suc n) [] = refl
drop_taken (suc n) (b ∷ bs) = drop_taken n bs

given_taken : (n : ℕ) (out : List ℕ) → n ≤ length out → n ≤ length (take n out)
given_taken zero out h = omega arith
given_taken (suc n) [] h = absurd (omega arith)
given_taken (suc n) (b ∷ bs) h = let r = given_taken n bs (omega arith) in omega (arith, r)

pub puts : (c : Conn) (s : machine.Conn) (g : Front) (put : Putting) → is_given_up (first_of c.ending put.ending) ≡ false → HasPut g put s.streams (owed s) → Stands c s
    → Stands (record c { front = Some g; ending = first_of c.ending put.ending }) (putting s put)
puts c s g put ends has st =
    let p = st.past in
    let P : machine.Conn → Type 0 = λ x. HasPut g put x.streams (owed x) → Stands (record c { front = Some g; ending = first_of c.ending put.ending }) (putting x put) in
    subst P (sym st.is) (λ has. record {
      past = record p { out = p.out ++ put.text; front = put.front };
      is = refl;
      read = (ends, (let Q : List ℕ → Type 0 = λ xs. IsFront g put.front p.streams xs in subst Q (sym (drop_more p.given p.out put.text st.given)) has));
      given = (let e = length-append p.out put.text in let h = st.given in omega (arith, e, h));
      ready = st.ready;
    }) has

pub first_none : (e : Option End) → first_of None e ≡ e
first_none None = refl
first_none (Some why) = refl

pub first_only : (e : Option End) → first_of e None ≡ e
first_only None = refl
first_only (Some why) = refl

pub refusal_stays : (f : machine.Front) (stream status : ℕ) → is_given_up (refusal f stream status).ending ≡ false
refusal_stays (Head bytes) stream status = refl
refusal_stays OverHttp1 stream status = refl
refusal_stays (OverHttp2 h) stream status = refl

pub success_ends : (f : machine.Front) (t : ℕ) (goal : Goal) → (success f t (machine.kind_of goal)).ending ≡ None
success_ends (Head bytes) t goal = refl
success_ends OverHttp1 t goal = refl
success_ends (OverHttp2 h) t goal = refl

-- ---- what is due

-- what stands first is taken
pub fronted : (c : Conn) (s : machine.Conn) (d : Due) (rest : List Due) → behind c.first c.due ≡ d ∷ rest → Stands c s → Stands (record c { first = None; due = rest }) (record s { due = rest })
fronted c s d rest is st =
    let P : machine.Conn → Type 0 = λ x. Stands (record c { first = None; due = rest }) (record x { due = rest }) in
    subst P (sym st.is) (record {
      past = st.past;
      is = refl;
      read = st.read;
      given = st.given;
      ready = ready_rest c.spare (vec_len c.tunnels) (vec_capacity c.tunnels) c.first c.due d rest is st.ready;
    })

pub popped : (c e : Conn) (s : machine.Conn) (d : Due) → e ≡ record c { due = e.due } → c.first ≡ None → c.due ≡ d ∷ e.due → Stands c s → (s.due ≡ d ∷ e.due) × Stands e (record s { due = e.due })
popped c e s d keeps none is st =
    let all : behind c.first c.due ≡ d ∷ e.due = ap (λ (f : Option First). behind f c.due) none ∙ is in
    let same : record c { first = None; due = e.due } ≡ e = ap (λ (f : Option First). record c { first = f; due = e.due }) (sym none) ∙ sym keeps in
    let P : Conn → Type 0 = λ x. Stands x (record s { due = e.due }) in
    (due_is c s st ∙ all, subst P same (fronted c s d e.due all st))

-- nothing is asked of a stream
abbrev pub kept : ℕ → List Due → List Due
kept id dues = filter (λ (d : Due). not (is_on id d)) dues

abbrev pub others : ℕ → List Stream → List Stream
others id ss = filter (λ (s : Stream). not (s.id == id)) ss

pub forgot : (c : Conn) (s : machine.Conn) (id : ℕ) (f g : Front) → c.first ≡ None → c.front ≡ Some f → IsFront g s.front (others id s.streams) (owed s) → Stands c s
    → Stands (record c { due = kept id c.due; front = Some g }) (without id s)
forgot c s id f g none is has st =
    let p = st.past in
    let P : machine.Conn → Type 0 = λ x. IsFront g x.front (others id x.streams) (owed x) → Stands (record c { due = kept id c.due; front = Some g }) (without id x) in
    let D : Option First → machine.Conn = λ fi. record (state c p) { due = kept id (behind fi c.due); streams = others id p.streams } in
    let E : Option First → machine.Conn = λ fi. record (state c p) { due = behind fi (kept id c.due); streams = others id p.streams } in
    subst P (sym st.is) (λ has. record {
      past = record p { streams = others id p.streams };
      is = ap D none ∙ ap E (sym none);
      read = (goes_on c s f is st, has);
      given = st.given;
      ready = ready_kept c.spare (vec_len c.tunnels) (vec_capacity c.tunnels) c.first (λ (d : Due). not (is_on id d)) c.due st.ready;
    }) has

pub forgot_given : (c : Conn) (s : machine.Conn) (id : ℕ) → c.first ≡ None → c.front ≡ None → Stands c s → Stands (record c { due = kept id c.due }) (without id s)
forgot_given c s id none is st =
    let p = st.past in
    let P : machine.Conn → Type 0 = λ x. Stands (record c { due = kept id c.due }) (without id x) in
    let D : Option First → machine.Conn = λ fi. record (state c p) { due = kept id (behind fi c.due); streams = others id p.streams } in
    let E : Option First → machine.Conn = λ fi. record (state c p) { due = behind fi (kept id c.due); streams = others id p.streams } in
    let R : Option Front → Type 0 = λ x. IsRead x c.ending p.front p.streams (drop p.given p.out) in
    let W : Option Front → Type 0 = λ x. IsRead x c.ending p.front (others id p.streams) (drop p.given p.out) in
    let r = subst R is st.read in
    subst P (sym st.is) (record {
      past = record p { streams = others id p.streams };
      is = ap D none ∙ ap E (sym none);
      read = subst W (sym is) (r.0, r.1, ap (λ (ss : List Stream). others id ss) r.2, r.3);
      given = st.given;
      ready = ready_kept c.spare (vec_len c.tunnels) (vec_capacity c.tunnels) c.first (λ (d : Due). not (is_on id d)) c.due st.ready;
    })

-- ---- tunnels

-- the tunnels but that of this number
pub fewer : (id : ℕ) (ts : List Tunnel) → tunnels_of (filter (λ (t : Tunnel). not (t.id == id)) ts) ≡ filter (λ (t : machine.Tunnel). not (t.id == id)) (tunnels_of ts)
fewer id [] = refl
fewer id (t ∷ ts) = by_first (not (t.id == id)) (fewer id ts)
  where
    kept_ones : List Tunnel
    kept_ones = filter (λ (u : Tunnel). not (u.id == id)) ts

    by_first : (b : Bool) → tunnels_of kept_ones ≡ filter (λ (u : machine.Tunnel). not (u.id == id)) (tunnels_of ts)
        → tunnels_of (cond b (t ∷ kept_ones) kept_ones) ≡ cond b (tunnel_is t ∷ filter (λ (u : machine.Tunnel). not (u.id == id)) (tunnels_of ts)) (filter (λ (u : machine.Tunnel). not (u.id == id)) (tunnels_of ts))
    by_first true h = ap (λ (us : List machine.Tunnel). tunnel_is t ∷ us) h
    by_first false h = h

-- the tunnels are those of another vector now
pub dropped : (c : Conn) (s : machine.Conn) (id : ℕ) (ts : Vec Tunnel) → ts.items ≡ filter (λ (t : Tunnel). not (t.id == id)) c.tunnels.items → vec_len ts ≤ vec_len c.tunnels → vec_capacity ts ≡ vec_capacity c.tunnels → Stands c s
    → Stands (record c { tunnels = ts }) (without_tunnel id s)
dropped c s id ts is len capacity st =
    let p = st.past in
    let P : machine.Conn → Type 0 = λ x. Stands (record c { tunnels = ts }) (without_tunnel id x) in
    subst P (sym st.is) (record {
      past = p;
      is = ap (λ (us : List machine.Tunnel). record (state c p) { tunnels = us }) (sym (fewer id c.tunnels.items) ∙ ap tunnels_of (sym is));
      read = st.read;
      given = st.given;
      ready = ready_same c.spare (vec_len ts) (vec_capacity c.tunnels) (vec_len ts) (vec_capacity ts) c.first c.due refl capacity (ready_less c.spare (vec_len c.tunnels) (vec_capacity c.tunnels) (vec_len ts) c.first c.due len st.ready);
    })

-- a tunnel is to open, for which there is room
pub opening : (c d : Conn) (s : machine.Conn) (id : ℕ) (goal : Goal) → c.first ≡ None → KeepsTunnels c d → HasMade d → Stands c s → Stands (record d { first = Some (first.Open id goal) }) (before (act.Open id goal) s)
opening c d s id goal none keeps made st =
    let p = st.past in
    let F : Conn → Conn = λ x. record x { first = Some (first.Open id goal) } in
    let e : Conn = record c { first = Some (first.Open id goal); spare = d.spare; tunnels = d.tunnels } in
    let P : machine.Conn → Type 0 = λ x. Stands e (before (act.Open id goal) x) in
    let Q : Conn → Type 0 = λ x. Stands x (before (act.Open id goal) s) in
    subst Q (sym (ap F keeps.is)) (subst P (sym st.is) (record {
      past = p;
      is = ap (λ (f : Option First). record (state c p) { due = due.Do (act.Open id goal) ∷ behind f c.due }) none
          ∙ ap (λ (us : List machine.Tunnel). record (state c p) { due = due.Do (act.Open id goal) ∷ c.due; tunnels = us }) (ap tunnels_of (sym keeps.items));
      read = st.read;
      given = st.given;
      ready = ready_open d.spare (vec_len d.tunnels) (vec_capacity d.tunnels) id goal c.due made.spare made.place (keeps.spare_is st.ready.spare_is) st.ready.may;
    }))

-- ---- all is given up

gone_front : (o : Option Front) (e : Option End) (f : machine.Front) (ss : List Stream) (owed : List ℕ) → IsRead o e f ss owed → PutsNothing f
gone_front None e f ss owed h = h.1
gone_front (Some (front.Preface count)) e (Head bytes) ss owed h = tt
gone_front (Some (front.Preface count)) e OverHttp1 ss owed h = tt
gone_front (Some (front.Preface count)) e (OverHttp2 s) ss owed h = absurd h.1
gone_front (Some (front.Head reader)) e (Head bytes) ss owed h = tt
gone_front (Some (front.Head reader)) e OverHttp1 ss owed h = tt
gone_front (Some (front.Head reader)) e (OverHttp2 s) ss owed h = absurd h.1
gone_front (Some (front.Http1 one)) e (Head bytes) ss owed h = tt
gone_front (Some (front.Http1 one)) e OverHttp1 ss owed h = tt
gone_front (Some (front.Http1 one)) e (OverHttp2 s) ss owed h = absurd h.1
gone_front (Some (front.Http2 many)) e (Head bytes) ss owed h = tt
gone_front (Some (front.Http2 many)) e OverHttp1 ss owed h = tt
gone_front (Some (front.Http2 many)) e (OverHttp2 s) ss owed h = ap (λ (x : h2.State). x.out) h.1.is

pub gone_more : (c : Conn) (s : machine.Conn) (reason : End) (spare : Option (List machine.Waiting)) (pump : ℕ) (ts : Vec Tunnel) → gives_up reason ≡ true → IsSpare spare → Stands c s
    → Stands (record c { front = None; first = None; due = []; ending = Some reason; spare = spare; pump = pump; tunnels = ts }) (record (given_up reason s) { tunnels = tunnels_of ts.items })
gone_more c s reason spare pump ts gives empty st =
    let p = st.past in
    let P : machine.Conn → Type 0 = λ x. Stands (record c { front = None; first = None; due = []; ending = Some reason; spare = spare; pump = pump; tunnels = ts }) (record (given_up reason x) { tunnels = tunnels_of ts.items }) in
    subst P (sym st.is) (record {
      past = record p { streams = []; out = take p.given p.out };
      is = refl;
      read = (gives, gone_front c.front c.ending p.front p.streams (drop p.given p.out) st.read, refl, drop_taken p.given p.out);
      given = given_taken p.given p.out st.given;
      ready = ready_none spare (vec_len ts) (vec_capacity ts) empty;
    })

pub gone_all : (c : Conn) (s : machine.Conn) (reason : End) → gives_up reason ≡ true → Stands c s
    → Stands (record c { front = None; first = None; due = []; ending = Some reason }) (given_up reason s)
gone_all c s reason gives st =
    let P : List machine.Tunnel → Type 0 = λ us. Stands (record c { front = None; first = None; due = []; ending = Some reason }) (record (given_up reason s) { tunnels = us }) in
    subst P (sym (tunnels_are c s st)) (gone_more c s reason c.spare c.pump c.tunnels gives st.ready.spare_is st)

-- behind a try that left its tunnels
pub gone_left : (c d e : Conn) (s : machine.Conn) (reason : End) → gives_up reason ≡ true → Leaves c d → e ≡ record d { front = None; first = None; due = []; ending = Some reason } → Stands c s → Stands e (given_up reason s)
gone_left c d e s reason gives left is st =
    let G : Conn → Conn = λ x. record x { front = None; first = None; due = []; ending = Some reason } in
    let P : Conn → Type 0 = λ x. Stands x (given_up reason s) in
    let Q : List machine.Tunnel → Type 0 = λ us. Stands (record c { front = None; first = None; due = []; ending = Some reason; spare = d.spare; pump = d.pump; tunnels = d.tunnels }) (record (given_up reason s) { tunnels = us }) in
    subst P (sym (is ∙ ap G left.is)) (subst Q (ap tunnels_of left.items ∙ sym (tunnels_are c s st)) (gone_more c s reason d.spare d.pump d.tunnels gives (left.spare_is st.ready.spare_is) st))

-- ---- the end of an act

update_ends : (o : Option (ℕ × ℕ)) (h : h2.State) → (update_put o h).ending ≡ None
update_ends None h = refl
update_ends (Some update) h = refl

updates_ends : (bytes : List ℕ) (h : h2.State) → (updates bytes h).ending ≡ None
updates_ends [] h = update_ends (next_update h.history) h
updates_ends (b ∷ bytes) h = refl

pub updating_ends : (f : machine.Front) (bytes : List ℕ) → (updating f bytes).ending ≡ None
updating_ends (Head known) bytes = refl
updating_ends OverHttp1 bytes = refl
updating_ends (OverHttp2 h) bytes = updates_ends bytes h

settled_by : (b : Bool) (c d : machine.Conn) → b ≡ false → cond b c d ≡ d
settled_by true c d h = absurd cc
settled_by false c d h = refl

pub updated : (c : Conn) (s : machine.Conn) (f g : Front) → c.front ≡ Some f → HasPut g (updating s.front (owed s)) s.streams (owed s) → Stands c s → Stands (record c { front = Some g }) (settled s)
updated c s f g is has st =
    let put = updating s.front (owed s) in
    let on = goes_on c s f is st in
    let e : first_of c.ending put.ending ≡ c.ending = ap (λ (x : Option End). first_of c.ending x) (updating_ends s.front (owed s)) ∙ first_only c.ending in
    let P : machine.Conn → Type 0 = λ x. Stands (record c { front = Some g }) x in
    let Q : Option End → Type 0 = λ x. Stands (record c { front = Some g; ending = x }) (putting s put) in
    subst P (sym (settled_by (is_given_up s.ending) s (putting s put) (ap is_given_up (ending_is c s st) ∙ on)))
    (subst Q e (puts c s g put (ap is_given_up e ∙ on) has st))

-- ---- a tunnel closes

pub first_stays : (e x : Option End) → is_given_up e ≡ false → is_given_up x ≡ false → is_given_up (first_of e x) ≡ false
first_stays None None h k = refl
first_stays None (Some later) h k = k
first_stays (Some earlier) None h k = h
first_stays (Some earlier) (Some later) h k = h

end_stays : (reason : Why) → is_given_up (http1_end reason) ≡ false
end_stays why.End = refl
end_stays why.Truncated = refl
end_stays why.Malformed = refl
end_stays why.Full = refl
end_stays why.Port = refl
end_stays why.Reset = refl
end_stays why.Conn = refl

pub closing_stays : (f : machine.Front) (t : machine.Tunnel) (reason : Why) → is_given_up (closing f t reason).ending ≡ false
closing_stays (Head bytes) t reason = refl
closing_stays OverHttp1 t reason = end_stays reason
closing_stays (OverHttp2 h) t reason = refl

abbrev putting_out : List ℕ → h2.State → Putting
putting_out out s = record { text = out; front = OverHttp2 (record s { out = [] }); ending = None }

-- with its connection, it puts nothing
closes_quietly : (f : machine.Front) (t : machine.Tunnel) → PutsNothing f → closing f t why.Conn ≡ nothing_put f
closes_quietly (Head bytes) t h = refl
closes_quietly OverHttp1 t h = refl
closes_quietly (OverHttp2 s) t h =
    ap (λ (out : List ℕ). putting_out out s) h
    ∙ ap (λ (out : List ℕ). nothing_put (OverHttp2 (record s { out = out }))) (sym h)

puts_quietly : (c : Conn) (s : machine.Conn) → Stands c s → PutsNothing s.front
puts_quietly c s st =
    let p = st.past in
    let P : machine.Conn → Type 0 = λ x. PutsNothing x.front in
    subst P (sym st.is) (gone_front c.front c.ending p.front p.streams (drop p.given p.out) st.read)

ends_given : (e : Option End) (reason : Why) → is_given_up e ≡ true → (e ≢ None → reason ≡ why.Conn) → reason ≡ why.Conn
ends_given None reason h conn = absurd cc
ends_given (Some end) reason h conn = conn (λ is. absurd cc)

-- where all was given up
pub closes_given : (c : Conn) (s : machine.Conn) (t : machine.Tunnel) (reason : Why) → c.front ≡ None → (s.ending ≢ None → reason ≡ why.Conn) → Stands c s → Stands c (putting s (closing s.front t reason))
closes_given c s t reason is conn st =
    let so : reason ≡ why.Conn = ends_given s.ending reason (ap is_given_up (ending_is c s st) ∙ given c s is st) conn in
    let same : putting s (closing s.front t reason) ≡ s =
    ap (λ (r : Why). putting s (closing s.front t r)) so ∙ ap (λ (p : Putting). putting s p) (closes_quietly s.front t (puts_quietly c s st)) ∙ puts_nothing s in
    let P : machine.Conn → Type 0 = λ x. Stands c x in
    subst P (sym same) st

pub closes_puts : (c : Conn) (s : machine.Conn) (t : machine.Tunnel) (reason : Why) (f g : Front) → c.front ≡ Some f → HasPut g (closing s.front t reason) s.streams (owed s) → Stands c s
    → Stands (record c { front = Some g; ending = first_of c.ending (closing s.front t reason).ending }) (putting s (closing s.front t reason))
closes_puts c s t reason f g is has st =
    puts c s g (closing s.front t reason) (first_stays c.ending (closing s.front t reason).ending (goes_on c s f is st) (closing_stays s.front t reason)) has st

-- a refusal was put
pub refuses_put : (c : Conn) (s : machine.Conn) (id status : ℕ) (f g : Front) (ends : Option End) → s.ending ≡ None → ends ≡ (refusal s.front id status).ending → HasPut g (refusal s.front id status) s.streams (owed s) → Stands c s
    → Stands (record c { front = Some g; ending = ends }) (putting s (refusal s.front id status))
refuses_put c s id status f g ends over is has st =
    let put = refusal s.front id status in
    let e : first_of c.ending put.ending ≡ ends = ap (λ (x : Option End). first_of x put.ending) (sym (ending_is c s st) ∙ over) ∙ first_none put.ending ∙ sym is in
    let P : Option End → Type 0 = λ x. Stands (record c { front = Some g; ending = x }) (putting s put) in
    subst P e (puts c s g put (ap is_given_up (e ∙ is) ∙ refusal_stays s.front id status) has st)

-- a tunnel opened
pub opens_put : (c : Conn) (s : machine.Conn) (t : Tunnel) (f g : Front) (spare : Option (List machine.Waiting)) (ts : Vec Tunnel) → c.front ≡ Some f → ts.items ≡ c.tunnels.items ++ t ∷ []
    → HasPut g (success s.front t.stream (machine.kind_of t.goal)) s.streams (owed s) → IsReady spare (vec_len ts) (vec_capacity ts) c.first c.due → Stands c s
    → Stands (record c { front = Some g; spare = spare; tunnels = ts }) (putting (record s { tunnels = s.tunnels ++ tunnel_is t ∷ [] }) (success s.front t.stream (machine.kind_of t.goal)))
opens_put c s t f g spare ts is items has ready st =
    let p = st.past in
    let u : List machine.Tunnel → List machine.Tunnel = λ us. us ++ tunnel_is t ∷ [] in
    let more : u (tunnels_of c.tunnels.items) ≡ tunnels_of ts.items = sym (map-append tunnel_is c.tunnels.items (t ∷ [])) ∙ ap tunnels_of (sym items) in
    let d : Conn = record c { spare = spare; tunnels = ts } in
    let P : machine.Conn → Type 0 = λ x. Stands d (record x { tunnels = u x.tunnels }) in
    let mid : Stands d (record s { tunnels = u s.tunnels }) = subst P (sym st.is) (record {
      past = p;
      is = ap (λ (us : List machine.Tunnel). record (state c p) { tunnels = us }) more;
      read = st.read;
      given = st.given;
      ready = ready;
    }) in
    let put = success s.front t.stream (machine.kind_of t.goal) in
    let e : first_of c.ending put.ending ≡ c.ending = ap (λ (x : Option End). first_of c.ending x) (success_ends s.front t.stream t.goal) ∙ first_only c.ending in
    let Q : Option End → Type 0 = λ x. Stands (record d { front = Some g; ending = x }) (putting (record s { tunnels = u s.tunnels }) put) in
    subst Q e (puts d (record s { tunnels = u s.tunnels }) g put (ap is_given_up e ∙ goes_on c s f is st) has mid)

-- ---- the first reason to end

pub first_later : (e x : Option End) → is_some e ≡ false → first_of e x ≡ x
first_later None x h = first_none x
first_later (Some why) x h = absurd cc

pub first_stands : (e x : Option End) → is_some e ≡ true → first_of e x ≡ e
first_stands None x h = absurd cc
first_stands (Some why) None h = refl
first_stands (Some why) (Some later) h = refl

-- the tunnel that is found is of this stream
pub found_stream : (id : ℕ) (ts : List machine.Tunnel) (t : machine.Tunnel) → find (λ (u : machine.Tunnel). u.stream == id) ts ≡ Some t → t.stream ≡ id
found_stream id ts t h = eqb-true t.stream id (found_in (λ (u : machine.Tunnel). u.stream == id) ts t h).0

pub nothing_left : {A : Type 0} (n : ℕ) (xs : List A) → length xs ≤ n → drop n xs ≡ []
nothing_left zero [] h = refl
nothing_left zero (x ∷ xs) h = absurd (omega (arith, h))
nothing_left (suc n) [] h = refl
nothing_left (suc n) (x ∷ xs) h = nothing_left n xs (omega (arith, h))
