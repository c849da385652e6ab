-- What a connection wants.
use Rattle.std.proofs.Common.{◌≡◌, ℕ, zero, suc, ◌+◌, ◌≤◌, ◌<◌, ◌==◌, cond, Bool, true, false, not, ◌&&◌, ◌⊎◌, inl, inr, nat_le, List, [], ◌∷◌, length, drop, slice_get, Option, Some, None, Result, Ok, Err, refl, sym, ap, ◌∙◌, subst, arith, ne_eqb, eqb-true}
use Rattle.std.specs.Option.{is_some}
use Rattle.std.specs.Result.{IsErr}
use Rattle.std.proofs.lemmas.Bool.Decides.{nat_tests}
use Rattle.std.proofs.lemmas.List.{length-drop, drop-drop}
use Rattle.mq_front.specs.declared.front.Front.{Front}
use Rattle.mq_front.specs.Fronts.{IsFront}
use Rattle.mq_addr.specs.declared.entry.Asked.{Asked}
use Rattle.mq_talk.specs.declared.book.Call.TheVariants as call
use Rattle.mq_talk.specs.declared.goal.Goal.{Goal}
use Rattle.mq_talk.specs.declared.note.End.{End}
use Rattle.mq_talk.specs.declared.note.Why.{Why}
use Rattle.mq_machine.specs.declared.act.Act.{Act}
use Rattle.mq_machine.specs.declared.act.Act.TheVariants as act
use Rattle.mq_machine.specs.declared.act.StreamAct.{StreamAct}
use Rattle.mq_machine.specs.declared.act.StreamAct.TheVariants as stream
use Rattle.mq_machine.specs.declared.act.Due.{Due}
use Rattle.mq_machine.specs.declared.act.Due.TheVariants as due
use Rattle.mq_machine.specs.Lawful.{Follows, IsUdp, kind_on}
use Rattle.mq_talk.specs.declared.place.Place.{Place}
use Rattle.mq_wire.specs.declared.NoMemory.{NoMemory}
use Rattle.mq_iptun.specs.Acts.{MayAct, MayAssign}
use Rattle.mq_front.specs.Limits.{AllMayBeDue}
use Rattle.mq_machine.proofs.Lawful.Lists.{kind_there, some_asked}
use Rattle.mq_machine.specs.Settle.{gives_up}
use Rattle.mq_machine.specs.State as machine
use Rattle.mq_machine.specs.State.{Stream, owed, values}
use Rattle.mq_machine.specs.Steps.{can_go_on, can_read, is_ending, is_nothing, wrote}
use Rattle.mq_machine.specs.Want.{Want, Nothing, Over, Ask, Bind, Say, act_want, due_want, ending_want, over_want, stream_want, tunnel_want, want_by, want_of, may_wait}
use Rattle.mq_conn.specs.declared.conn.Conn.{Conn}
use Rattle.mq_conn.specs.declared.conn.First.{First}
use Rattle.mq_conn.specs.declared.conn.First.TheVariants as first
use Rattle.mq_conn.specs.declared.conn.Tunnel.{Tunnel}
use Rattle.mq_conn.specs.declared.want.Want.{Want as CoreWant}
use Rattle.mq_conn.specs.declared.want.Want.TheVariants as core_want
use Rattle.mq_conn.specs.Frames.{Gives}
use Rattle.mq_conn.specs.Wants.{IsWant, WantIs, Wants, WantsOf}
use Rattle.mq_conn.specs.Conns.{IsConn, IsRead, Stands, Past, state, behind, act_of, find_on, tunnels_of}
use Rattle.mq_conn.proofs.Serving.{Is, Settles, by_state, settles_so, wants_none}

-- what is wanted, by whether it is ending and what is due
pub want_due : (c : Conn) (p : Past) (dues : List Due) → c.ending ≡ None → behind c.first c.due ≡ dues → want_of (state c p) ≡ due_want (state c p) dues
want_due c p dues none is = ap (λ (e : Option End). want_by (state c p) e) none ∙ ap (λ (ds : List Due). due_want (state c p) ds) is

pub want_ending : (c : Conn) (p : Past) (reason : End) → c.ending ≡ Some reason → want_of (state c p) ≡ ending_want (state c p) reason (state c p).tunnels
want_ending c p reason is = ap (λ (e : Option End). want_by (state c p) e) is

-- where nothing is due, nothing is wanted
pub no_want : (c : Conn) (p : Past) → c.ending ≡ None → c.first ≡ None → c.due ≡ [] → want_of (state c p) ≡ Nothing
no_want c p none front is = want_due c p [] none (ap (λ (f : Option First). behind f c.due) front ∙ is)

-- and only there
pub some_want : (c : Conn) (p : Past) → Is c p → (c.first ≡ None → c.due ≡ [] → ⊥) → not (is_nothing (want_of (state c p))) ≡ true
some_want c p h some = go (is_nothing (want_of (state c p))) refl
  where
    go : (b : Bool) → is_nothing (want_of (state c p)) ≡ b → not (is_nothing (want_of (state c p))) ≡ true
    go true e = (let k = wants_none c p h e in absurd (some k.0 k.1))
    go false e = ap not e

-- what is asked of the live tunnel
pub live_on : (o : Option machine.Tunnel) → is_some o ≡ true → (t : machine.Tunnel) × (o ≡ Some t)
live_on None h = absurd cc
live_on (Some t) h = (t, refl)

-- what is due first follows
pub follows_first : (c : Conn) (p : Past) (a : Act) (rest : List Due) → Is c p → behind c.first c.due ≡ due.Do a ∷ rest → Follows (kind_on (state c p).tunnels) (due.Do a ∷ rest)
follows_first c p a rest h is = subst (λ (ds : List Due). Follows (kind_on (state c p).tunnels) ds) is h.lawful.loose.follows

-- no act in front lets it wait for its client, but a payload
pub first_waits : (c : Conn) (p : Past) (f : First) (rest : List Due) → Follows (kind_on (state c p).tunnels) (due.Do (act_of f) ∷ rest) → may_wait (act_want (state c p) (act_of f)) ≡ true → ⊥
first_waits c p (first.Open id goal) rest h k = absurd cc
first_waits c p (first.Push id n to packet) rest h k =
    let live = live_on (find_on c id) (sym (kind_there (state c p).tunnels id) ∙ some_asked (kind_on (state c p).tunnels id) (stream.Push n to packet) h.0) in
    let e : may_wait (tunnel_want (find_on c id) (stream.Push n to packet)) ≡ false = ap (λ (o : Option machine.Tunnel). may_wait (tunnel_want o (stream.Push n to packet))) live.1 in
    let f : true ≡ false = sym k ∙ e in
    absurd cc
first_waits c p (first.Close id reason) rest h k =
    let live = live_on (find_on c id) (sym (kind_there (state c p).tunnels id) ∙ some_asked (kind_on (state c p).tunnels id) (stream.Close reason) h.0) in
    let e : may_wait (tunnel_want (find_on c id) (stream.Close reason)) ≡ false = ap (λ (o : Option machine.Tunnel). may_wait (tunnel_want o (stream.Close reason))) live.1 in
    let f : true ≡ false = sym k ∙ e in
    absurd cc

-- ---- what is owed

drop_nil : (n : ℕ) → drop {A = ℕ} n [] ≡ []
drop_nil zero = refl
drop_nil (suc n) = refl

pub owes : (c : Conn) (g : Front) (bytes : List ℕ) → c.front ≡ Some g → ((f : machine.Front) (streams : List Stream) (owed : List ℕ) → IsFront g f streams owed → bytes ≡ owed)
    → (s : machine.Conn) → IsConn c s → bytes ≡ owed s
owes c g bytes is gives s stands = by_state c (λ (x : machine.Conn). bytes ≡ owed x) go s stands
  where
    go : (p : Past) → Is c p → bytes ≡ drop p.given p.out
    go p h =
        let R : Option Front → Type 0 = λ o. IsRead o c.ending p.front p.streams (drop p.given p.out) in
        let r = subst R is h.read in
        gives p.front p.streams (drop p.given p.out) r.1

pub owes_none : (c : Conn) → c.front ≡ None → (s : machine.Conn) → IsConn c s → [] ≡ owed s
owes_none c is s stands = by_state c (λ (x : machine.Conn). [] ≡ owed x) go s stands
  where
    go : (p : Past) → Is c p → [] ≡ drop p.given p.out
    go p h =
        let R : Option Front → Type 0 = λ o. IsRead o c.ending p.front p.streams (drop p.given p.out) in
        let r = subst R is h.read in
        sym r.3

pub gives_so : (c d : Conn) (g h : Front) (count : ℕ) → c.front ≡ Some g → d ≡ record c { front = Some h }
    → ((f : machine.Front) (streams : List Stream) (owed : List ℕ) → IsFront g f streams owed → count ≤ length owed → IsFront h f streams (drop count owed)) → Gives c d count
gives_so c d g h count fronted keeps gives s stands fits = by_state c (λ (x : machine.Conn). count ≤ length (owed x) → Stands d (record x { given = x.given + count })) go s stands fits
  where
    go : (p : Past) → Is c p → count ≤ length (drop p.given p.out) → Stands d (record (state c p) { given = p.given + count })
    go p is fits =
        let x : machine.Conn = record (state c p) { given = p.given + count } in
        let R : Option Front → Type 0 = λ o. IsRead o c.ending p.front p.streams (drop p.given p.out) in
        let r = subst R fronted is.read in
        let O : List ℕ → Type 0 = λ owed. IsFront h p.front p.streams owed in
        let cut = length-drop p.given p.out in
        let whole = is.given in
        let E : Conn → Type 0 = λ v. Stands v x in
        subst E (sym keeps) (record {
          past = record p { given = p.given + count };
          is = refl;
          read = (r.0, subst O (drop-drop count p.given p.out) (gives p.front p.streams (drop p.given p.out) r.1 fits));
          given = omega (arith, whole, cut, fits);
          ready = is.ready;
        })

pub gives_none : (c : Conn) (count : ℕ) → c.front ≡ None → Gives c c count
gives_none c count none s stands fits = by_state c (λ (x : machine.Conn). count ≤ length (owed x) → Stands c (record x { given = x.given + count })) go s stands fits
  where
    go : (p : Past) → Is c p → count ≤ length (drop p.given p.out) → Stands c (record (state c p) { given = p.given + count })
    go p is fits =
        let R : Option Front → Type 0 = λ o. IsRead o c.ending p.front p.streams (drop p.given p.out) in
        let r = subst R none is.read in
        let S : Option Front → Type 0 = λ o. IsRead o c.ending p.front p.streams (drop (p.given + count) p.out) in
        let cut = length-drop p.given p.out in
        let whole = is.given in
        let left : drop (p.given + count) p.out ≡ [] = sym (drop-drop count p.given p.out) ∙ ap (λ (xs : List ℕ). drop count xs) r.3 ∙ drop_nil count in
        record {
          past = record p { given = p.given + count };
          is = refl;
          read = subst S (sym none) (r.0, r.1, r.2, left);
          given = omega (arith, whole, cut, fits);
          ready = is.ready;
        }

pub wrote_so : (c mid d : Conn) (count : ℕ) → Gives c mid count → Settles mid d → (s : machine.Conn) → IsConn c s → count ≤ length (owed s) → IsConn d (wrote s count).1
wrote_so c mid d count gives settles s stands fits = settles_so mid d (record s { given = s.given + count }) settles (gives s stands fits) stands.lawful.loose

-- ---- whether it wants something

pub wants_first : (c : Conn) (f : First) → c.ending ≡ None → c.first ≡ Some f → (s : machine.Conn) → IsConn c s → true ≡ not (is_nothing (want_of s))
wants_first c f none is s stands =
    by_state c (λ (x : machine.Conn). true ≡ not (is_nothing (want_of x))) (λ p h. sym (some_want c p h (λ front due. (let e : Some f ≡ None = sym is ∙ front in cc)))) s stands

pub wants_rest : (c : Conn) (b : Bool) → c.ending ≡ None → c.first ≡ None → b ≡ (length c.due == 0) → (s : machine.Conn) → IsConn c s → not b ≡ not (is_nothing (want_of s))
wants_rest c b none front is s stands = by_state c (λ (x : machine.Conn). not b ≡ not (is_nothing (want_of x))) (λ p h. by_due p h c.due refl) s stands
  where
    by_due : (p : Past) → Is c p → (ds : List Due) → c.due ≡ ds → not b ≡ not (is_nothing (want_of (state c p)))
    by_due p h [] e = ap not (is ∙ ap (λ (ds : List Due). length ds == 0) e) ∙ ap (λ (w : Want). not (is_nothing w)) (sym (no_want c p none front e))
    by_due p h (d ∷ ds) e =
        ap not (is ∙ ap (λ (ds : List Due). length ds == 0) e ∙ ne_eqb (length (d ∷ ds)) 0 (λ z. (let k : length (d ∷ ds) ≡ 1 + length ds = omega arith in omega (arith, z, k))))
        ∙ sym (some_want c p h (λ first due. (let k : d ∷ ds ≡ [] = sym e ∙ due in cc)))

-- what one that is ending wants, by its tunnels and what it owes
abbrev pub ending_by_parts : End → List Tunnel → List ℕ → Want
ending_by_parts reason [] bytes = over_want reason bytes
ending_by_parts reason (t ∷ ts) bytes = Ask (call.Close t.id)

pub ending_by : (c : Conn) (reason : End) (ts : List Tunnel) (bytes : List ℕ) → c.ending ≡ Some reason → c.tunnels.items ≡ ts → (s : machine.Conn) → IsConn c s → bytes ≡ owed s
    → want_of s ≡ ending_by_parts reason ts bytes
ending_by c reason ts bytes is items s stands owes =
    by_state c (λ (x : machine.Conn). bytes ≡ owed x → want_of x ≡ ending_by_parts reason ts bytes) (λ p h e. want_ending c p reason is ∙ by_tunnels p ts items e) s stands owes
  where
    by_tunnels : (p : Past) (ts : List Tunnel) → c.tunnels.items ≡ ts → bytes ≡ owed (state c p) → ending_want (state c p) reason (tunnels_of c.tunnels.items) ≡ ending_by_parts reason ts bytes
    by_tunnels p [] e k = ap (λ (us : List Tunnel). ending_want (state c p) reason (tunnels_of us)) e ∙ ap (λ (xs : List ℕ). over_want reason xs) (sym k)
    by_tunnels p (t ∷ us) e k = ap (λ (us : List Tunnel). ending_want (state c p) reason (tunnels_of us)) e

-- ---- what is due first, in the core's word

pub wants_by : (c : Conn) (dues : List Due) (r : Result CoreWant NoMemory) → c.ending ≡ None → behind c.first c.due ≡ dues → ((p : Past) → Is c p → WantsOf c.pump (due_want (state c p) dues) r) → Wants c r
wants_by c dues r none is wants s stands = by_state c (λ (x : machine.Conn). WantsOf c.pump (want_of x) r) go s stands
  where
    go : (p : Past) → Is c p → WantsOf c.pump (want_of (state c p)) r
    go p h =
        let P : Want → Type 0 = λ v. WantsOf c.pump v r in
        subst P (sym (want_due c p dues none is)) (wants p h)

pub due_front : (c : Conn) (dues : List Due) → c.first ≡ None → c.due ≡ dues → behind c.first c.due ≡ dues
due_front c dues front is = ap (λ (f : Option First). behind f c.due) front ∙ is

pub first_front : (c : Conn) (f : First) → c.first ≡ Some f → behind c.first c.due ≡ due.Do (act_of f) ∷ c.due
first_front c f is = ap (λ (o : Option First). behind o c.due) is

pub bind_want : (c : Conn) (id : ℕ) (goal : Goal) (rest : List Due) (w : CoreWant) → c.ending ≡ None → c.first ≡ None → c.due ≡ due.Do (act.Bind id goal) ∷ rest → (IsUdp goal → (pump id : ℕ) → WantIs pump w (Bind id goal))
    → Wants c (Ok w)
bind_want c id goal rest w none front is wants =
    let dues = due_front c (due.Do (act.Bind id goal) ∷ rest) front is in
    wants_by c (due.Do (act.Bind id goal) ∷ rest) (Ok w) none dues (λ p h. wants (follows_first c p (act.Bind id goal) rest h dues).1 c.pump id)

pub asked_want : (c : Conn) (id : ℕ) (a : StreamAct) (rest : List Due) (r : Result CoreWant NoMemory) → c.ending ≡ None → c.first ≡ None → c.due ≡ due.Do (act.OfStream id a) ∷ rest
    → (MayAct a → WantsOf c.pump (tunnel_want (find_on c id) a) r) → Wants c r
asked_want c id a rest r none front is wants =
    let dues = due_front c (due.Do (act.OfStream id a) ∷ rest) front is in
    let M : List Due → Type 0 = λ ds. AllMayBeDue ds in
    wants_by c (due.Do (act.OfStream id a) ∷ rest) r none dues (λ p h. wants (subst M is h.ready.may).0)

pub open_want : (c : Conn) (id : ℕ) (goal : Goal) (rest : List Due) (w : CoreWant) → c.ending ≡ None → behind c.first c.due ≡ due.Do (act.Open id goal) ∷ rest → w ≡ core_want.Ask (call.Open c.number id c.actor goal)
    → Wants c (Ok w)
open_want c id goal rest w none is same =
    let P : CoreWant → Type 0 = λ v. WantIs c.pump v (Ask (call.Open c.number id c.actor goal)) in
    wants_by c (due.Do (act.Open id goal) ∷ rest) (Ok w) none is (λ p h. subst P (sym same) (record { is = refl; pushes = tt; may = tt }))

pub close_want : (c : Conn) (id : ℕ) (reason : Why) (rest : List Due) (w : CoreWant) → c.ending ≡ None → behind c.first c.due ≡ due.Do (act.OfStream id (stream.Close reason)) ∷ rest
    → ((why : Why) → WantIs c.pump w (tunnel_want (find_on c id) (stream.Close why))) → Wants c (Ok w)
close_want c id reason rest w none is wants = wants_by c (due.Do (act.OfStream id (stream.Close reason)) ∷ rest) (Ok w) none is (λ p h. wants reason)

pub push_want : (c : Conn) (id n : ℕ) (to : Place) (packet : List ℕ) (w : CoreWant) → c.ending ≡ None → behind c.first c.due ≡ due.Do (act.OfStream id (stream.Push n to packet)) ∷ c.due
    → WantIs c.pump w (tunnel_want (find_on c id) (stream.Push n to packet)) → Wants c (Ok w)
push_want c id n to packet w none is wants = wants_by c (due.Do (act.OfStream id (stream.Push n to packet)) ∷ c.due) (Ok w) none is (λ p h. wants)

-- ---- in parts

pub none_first : (o : Option First) → is_some o ≡ false → o ≡ None
none_first None h = refl
none_first (Some f) h = absurd cc

pub wants_some : (c : Conn) → c.ending ≡ None → is_some c.first ≡ true → (s : machine.Conn) → IsConn c s → true ≡ not (is_nothing (want_of s))
wants_some c none some s stands =
    by_state c (λ (x : machine.Conn). true ≡ not (is_nothing (want_of x))) (λ p h. sym (some_want c p h (λ front due. (let e : true ≡ false = sym some ∙ ap (λ (o : Option First). is_some o) front in absurd cc)))) s stands

-- the core's word for a want that isn't nothing
pub is_wanted : (w : CoreWant) (m : Want) → IsWant w m → (w ≡ core_want.Nothing → ⊥) → true ≡ not (is_nothing m)
is_wanted core_want.Nothing m h isnt = absurd (isnt refl)
is_wanted core_want.Say m h isnt = ap (λ (v : Want). not (is_nothing v)) (sym h)
is_wanted (core_want.Bind addr port) m h isnt = ap (λ (v : Want). not (is_nothing v)) (sym h.1)
is_wanted (core_want.Ask asked) m h isnt = ap (λ (v : Want). not (is_nothing v)) (sym h)
is_wanted (core_want.SendUdp tunnel n) m h isnt = ap (λ (v : Want). not (is_nothing v)) (sym h.1)
is_wanted (core_want.Ended reason) m h isnt = ap (λ (v : Want). not (is_nothing v)) (sym h)
is_wanted (core_want.Judge tunnel n flow) m h isnt = ap (λ (v : Want). not (is_nothing v)) (sym h)
is_wanted (core_want.Push to) m h isnt = ap (λ (v : Want). not (is_nothing v)) (sym h.1)

-- what one that is ending wants
pub ends_close : (c : Conn) (reason : End) (t : Tunnel) → c.ending ≡ Some reason → slice_get c.tunnels.items 0 ≡ Some t → (s : machine.Conn) → IsConn c s → want_of s ≡ Ask (call.Close t.id)
ends_close c reason t is at s stands = by_state c (λ (x : machine.Conn). want_of x ≡ Ask (call.Close t.id)) (λ p h. want_ending c p reason is ∙ by_tunnels p c.tunnels.items at) s stands
  where
    by_tunnels : (p : Past) (ts : List Tunnel) → slice_get ts 0 ≡ Some t → ending_want (state c p) reason (tunnels_of ts) ≡ Ask (call.Close t.id)
    by_tunnels p [] e = absurd cc
    by_tunnels p (u ∷ us) e = let same : u ≡ t = (let k = e in cc) in ap (λ (v : Tunnel). Ask (call.Close v.id)) same

pub ends_with : (c : Conn) (reason : End) → c.ending ≡ Some reason → c.tunnels.items ≡ [] → (s : machine.Conn) → IsConn c s → want_of s ≡ over_want reason (owed s)
ends_with c reason is none s stands = ending_by c reason [] (owed s) is none s stands refl

-- whether it goes on
pub wants_stop : (s : machine.Conn) → not (is_nothing (want_of s)) ≡ true → false ≡ can_go_on s
wants_stop s h = go (is_nothing (want_of s)) (nat_le (length (owed s)) 65535) (not (is_ending s.ending)) h
  where
    go : (a b d : Bool) → not a ≡ true → false ≡ (a && b && d)
    go true b d k = absurd cc
    go false b d k = refl

pub ending_stops : (c : Conn) → is_some c.ending ≡ true → (s : machine.Conn) → IsConn c s → false ≡ can_go_on s
ending_stops c some s stands = by_state c (λ (x : machine.Conn). false ≡ can_go_on x) (λ p h. go (is_nothing (want_of (state c p)) && nat_le (length (owed (state c p))) 65535) c.ending some) s stands
  where
    go : (a : Bool) (e : Option End) → is_some e ≡ true → false ≡ (a && not (is_ending e))
    go a None k = absurd cc
    go true (Some reason) k = refl
    go false (Some reason) k = refl

pub goes_so : (c : Conn) (bytes : List ℕ) → is_some c.ending ≡ false → ((s : machine.Conn) → IsConn c s → false ≡ not (is_nothing (want_of s))) → ((s : machine.Conn) → IsConn c s → bytes ≡ owed s)
    → (s : machine.Conn) → IsConn c s → nat_le (length bytes) 65535 ≡ can_go_on s
goes_so c bytes none idle owes s stands = by_state c (λ (x : machine.Conn). false ≡ not (is_nothing (want_of x)) → bytes ≡ owed x → nat_le (length bytes) 65535 ≡ can_go_on x) go s stands (idle s stands) (owes s stands)
  where
    by : (a b : Bool) (e : Option End) → false ≡ not a → is_some e ≡ false → b ≡ (a && b && not (is_ending e))
    by true true None h k = refl
    by true false None h k = refl
    by true b (Some reason) h k = absurd cc
    by false b e h k = absurd cc

    go : (p : Past) → Is c p → false ≡ not (is_nothing (want_of (state c p))) → bytes ≡ owed (state c p) → nat_le (length bytes) 65535 ≡ can_go_on (state c p)
    go p h idle owes = ap (λ (xs : List ℕ). nat_le (length xs) 65535) owes ∙ by (is_nothing (want_of (state c p))) (nat_le (length (owed (state c p))) 65535) c.ending idle none

pub reads_so : (c : Conn) (s : machine.Conn) → IsConn c s → true ≡ can_go_on s → not c.finished ≡ can_read s
reads_so c s stands goes = by_state c (λ (x : machine.Conn). true ≡ can_go_on x → not c.finished ≡ can_read x) (λ p h k. ap (λ (b : Bool). b && not c.finished) k) s stands goes

pub reads_not : (s : machine.Conn) → false ≡ can_go_on s → false ≡ can_read s
reads_not s goes = ap (λ (b : Bool). b && not s.is_finished) goes

pub no_want_so : (c : Conn) → c.ending ≡ None → c.first ≡ None → c.due ≡ [] → Wants c (Ok core_want.Nothing)
no_want_so c none front is = wants_by c [] (Ok core_want.Nothing) none (due_front c [] front is) (λ p h. record { is = refl; pushes = tt; may = tt })

pub mark_want : (c : Conn) (d : Due) (rest : List Due) → c.ending ≡ None → c.first ≡ None → c.due ≡ d ∷ rest → ((a : Act) → d ≡ due.Do a → ⊥) → Wants c (Ok core_want.Nothing)
mark_want c d rest none front is isnt = wants_by c (d ∷ rest) (Ok core_want.Nothing) none (due_front c (d ∷ rest) front is) (λ p h. record { is = by p d isnt; pushes = tt; may = tt })
  where
    by : (p : Past) (d : Due) → ((a : Act) → d ≡ due.Do a → ⊥) → due_want (state c p) (d ∷ rest) ≡ Nothing
    by p (due.Do a) k = absurd (k a refl)
    by p (due.Spend id size) k = refl
    by p (due.Fault code) k = refl

-- a note that needs nothing of the outside
pub say_want : (c : Conn) (a : Act) (rest : List Due) → c.ending ≡ None → c.first ≡ None → c.due ≡ due.Do a ∷ rest → ((x : machine.Conn) → act_want x a ≡ Say) → Wants c (Ok core_want.Say)
say_want c a rest none front is says = wants_by c (due.Do a ∷ rest) (Ok core_want.Say) none (due_front c (due.Do a ∷ rest) front is) (λ p h. record { is = says (state c p); pushes = tt; may = tt })

pub nothing_at : (ts : List Tunnel) → slice_get ts 0 ≡ None → ts ≡ []
nothing_at [] h = refl
nothing_at (t ∷ ts) h = absurd cc

pub said_of : (a : Act) (x : machine.Conn) → ((id : ℕ) × (status : ℕ) × (rule : ℕ) × (a ≡ act.Refuse id status rule)) ⊎ ((id : ℕ) × (code : ℕ) × (a ≡ act.Reset id code)) → act_want x a ≡ Say
said_of a x (inl h) = ap (λ (b : Act). act_want x b) h.3
said_of a x (inr h) = ap (λ (b : Act). act_want x b) h.2

-- ---- what is asked of the book for addresses

stream_is : (t : machine.Tunnel) (asked : List Asked) (b : Bool) → nat_le 16 (values t) ≡ b → stream_want t (stream.Assign asked) ≡ cond b (Ask (call.Close t.id)) (Ask (call.Assign t.id asked))
stream_is t asked b is = ap (λ (x : Bool). cond x (Ask (call.Close t.id)) (Ask (call.Assign t.id asked))) is

few_values : (n count : ℕ) → n ≡ count → n < 16 → nat_le 16 count ≡ false
few_values n count is few = grind (arith, nat_tests)

pub assign_closes : (pump : ℕ) (t : machine.Tunnel) (asked : List Asked) (n : ℕ) → n ≡ values t → 16 ≤ n → WantsOf pump (stream_want t (stream.Assign asked)) (Ok (core_want.Ask (call.Close t.id)))
assign_closes pump t asked n is many =
    let P : Want → Type 0 = λ m. WantsOf pump m (Ok (core_want.Ask (call.Close t.id))) in
    subst P (sym (stream_is t asked true (many_values n (values t) is many))) (record { is = refl; pushes = tt; may = tt })
  where
    many_values : (n count : ℕ) → n ≡ count → 16 ≤ n → nat_le 16 count ≡ true
    many_values n count is many = grind (arith, nat_tests)

pub assign_asks : (pump : ℕ) (t : machine.Tunnel) (asked list : List Asked) (n : ℕ) → n ≡ values t → n < 16 → list ≡ asked → MayAssign asked → WantsOf pump (stream_want t (stream.Assign asked)) (Ok (core_want.Ask (call.Assign t.id list)))
assign_asks pump t asked list n is few same may =
    let P : Want → Type 0 = λ m. WantsOf pump m (Ok (core_want.Ask (call.Assign t.id list))) in
    let Q : List Asked → Type 0 = λ xs. WantIs pump (core_want.Ask (call.Assign t.id xs)) (Ask (call.Assign t.id asked)) in
    subst P (sym (stream_is t asked false (few_values n (values t) is few))) (subst Q (sym same) (record { is = refl; pushes = tt; may = may }))

pub assign_refused : (pump : ℕ) (t : machine.Tunnel) (asked : List Asked) (n : ℕ) (r : Result CoreWant NoMemory) → n ≡ values t → n < 16 → IsErr r → WantsOf pump (stream_want t (stream.Assign asked)) r
assign_refused pump t asked n (Ok w) is few err = absurd cc
assign_refused pump t asked n (Err fault) is few err =
    let P : Want → Type 0 = λ m. WantsOf pump m (Err fault) in
    subst P (sym (stream_is t asked false (few_values n (values t) is few))) tt
