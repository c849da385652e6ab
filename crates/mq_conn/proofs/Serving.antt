-- What a core stands for, laid open, and what is left of it when it is given up.
use Rattle.std.proofs.Common.{◌≡◌, ℕ, zero, suc, ◌≤◌, ◌&&◌, Bool, true, false, not, List, [], ◌∷◌, length, take, drop, nat_le, Option, Some, None, refl, sym, ap, ◌∙◌, subst, arith}
use Rattle.std.specs.Prelude.{vec_len, vec_capacity}
use Rattle.std.proofs.lemmas.Bool.{and_parts}
use Rattle.mq_h2.specs.State as h2
use Rattle.mq_front.specs.declared.front.Front.{Front}
use Rattle.mq_front.specs.declared.front.Front.TheVariants as front
use Rattle.mq_front.specs.Fronts.{IsFront}
use Rattle.mq_talk.specs.declared.note.End.{End}
use Rattle.mq_talk.specs.declared.note.End.TheVariants as end
use Rattle.mq_machine.specs.declared.act.Due.{Due}
use Rattle.mq_machine.specs.Lawful.{IsLawful, IsLoose, IsOver}
use Rattle.mq_machine.specs.Settle.{gives_up, is_given_up, settle}
use Rattle.mq_machine.specs.State as machine
use Rattle.mq_machine.specs.State.{Head, OverHttp1, OverHttp2, Stream, owed}
use Rattle.mq_machine.specs.Steps.{given_up, can_go_on, can_read, is_nothing, is_ending, most_owed}
use Rattle.mq_machine.specs.Want.{want_of}
use Rattle.mq_machine.proofs.Lawful.Steps.{given_up_lawful, settle_lawful}
use Rattle.mq_machine.proofs.Lawful.Idle.{idle_due}
use Rattle.mq_conn.proofs.Ready.{ready_none}
use Rattle.mq_conn.specs.declared.conn.Conn.{Conn}
use Rattle.mq_conn.specs.declared.conn.First.{First}
use Rattle.mq_conn.specs.Conns.{IsConn, Stands, IsRead, IsReady, PutsNothing, GivesUp, Refuses, Past, state, behind}

-- ---- a state, laid open

pub record Is (c : Conn) (p : Past) : Type 0 where
  pub read : IsRead c.front c.ending p.front p.streams (drop p.given p.out)
  pub given : p.given ≤ length p.out
  pub ready : IsReady c.spare (vec_len c.tunnels) (vec_capacity c.tunnels) c.first c.due
  pub lawful : IsLawful (state c p)

pub by_state : (c : Conn) (P : machine.Conn → Type 0) → ((p : Past) → Is c p → P (state c p)) → (s : machine.Conn) → IsConn c s → P s
by_state c P h s stands =
    let k = stands.stands in
    subst P (sym k.is) (h k.past (record { read = k.read; given = k.given; ready = k.ready; lawful = subst IsLawful k.is stands.lawful }))

pub is_conn : (c : Conn) (p : Past) → Is c p → IsConn c (state c p)
is_conn c p h = record { stands = record { past = p; is = refl; read = h.read; given = h.given; ready = h.ready }; lawful = h.lawful }

-- which pump it serves says nothing of the state
pub pumped : (c : Conn) (pump : ℕ) (s : machine.Conn) → IsConn c s → IsConn (record c { pump = pump }) s
pumped c pump s conn =
    let st = conn.stands in record {
      stands = record { past = st.past; is = st.is; read = st.read; given = st.given; ready = st.ready };
      lawful = conn.lawful;
    }

-- ---- it is given up

puts_nothing : (g : Front) (f : machine.Front) (streams : List Stream) (bytes : List ℕ) → IsFront g f streams bytes → PutsNothing f
puts_nothing g (Head came) streams bytes h = tt
puts_nothing g OverHttp1 streams bytes h = tt
puts_nothing (front.Preface count) (OverHttp2 x) streams bytes h = absurd h
puts_nothing (front.Head reader) (OverHttp2 x) streams bytes h = absurd h
puts_nothing (front.Http1 one) (OverHttp2 x) streams bytes h = absurd h
puts_nothing (front.Http2 many) (OverHttp2 x) streams bytes h = ap (λ (y : h2.State). y.out) h.is

read_nothing : (o : Option Front) (e : Option End) (f : machine.Front) (streams : List Stream) (bytes : List ℕ) → IsRead o e f streams bytes → PutsNothing f
read_nothing None e f streams bytes h = h.1
read_nothing (Some g) e f streams bytes h = puts_nothing g f streams bytes h.1

drop_taken : (n : ℕ) (xs : List ℕ) → drop n (take n xs) ≡ []
drop_taken zero xs = refl
drop_taken (suc n) [] = refl
drop_taken (suc n) (x ∷ xs) = drop_taken n xs

take_whole : (n : ℕ) (xs : List ℕ) → n ≤ length xs → n ≤ length (take n xs)
take_whole zero xs h = omega arith
take_whole (suc n) [] h = absurd (omega (arith, h))
take_whole (suc n) (x ∷ xs) h = let r = take_whole n xs (omega (arith, h)) in omega (arith, r)

pub given_up_so : (c d : Conn) (reason : End) → gives_up reason ≡ true → GivesUp c reason d → (s : machine.Conn) → IsConn c s → IsConn d (given_up reason s)
given_up_so c d reason gives is s stands = by_state c (λ x. IsConn d (given_up reason x)) go s stands
  where
    go : (p : Past) → Is c p → IsConn d (given_up reason (state c p))
    go p h =
        let e : Conn = record c { front = None; first = None; due = []; ending = Some reason } in
        let q : Past = record p { streams = []; out = take p.given p.out } in
        let P : Conn → Type 0 = λ x. IsConn x (given_up reason (state c p)) in
        subst P (sym is) (record {
          stands = record {
            past = q;
            is = refl;
            read = (gives, read_nothing c.front c.ending p.front p.streams (drop p.given p.out) h.read, refl, drop_taken p.given p.out);
            given = take_whole p.given p.out h.given;
            ready = ready_none c.spare (vec_len c.tunnels) (vec_capacity c.tunnels) h.ready.spare_is;
          };
          lawful = given_up_lawful reason (state c p) h.lawful;
        })

-- ---- how it stands

-- one that isn't given up has a front
pub has_front : (o : Option Front) (e : Option End) (f : machine.Front) (streams : List Stream) (bytes : List ℕ) → IsRead o e f streams bytes → is_given_up e ≡ false → (g : Front) × (o ≡ Some g) × IsFront g f streams bytes
has_front None e f streams bytes h isnt = let k : true ≡ false = sym h.0 ∙ isnt in absurd cc
has_front (Some g) e f streams bytes h isnt = (g, refl, h.1)

-- what is owed by one that was given up
pub owes_nothing : (e : Option End) (f : machine.Front) (streams : List Stream) (bytes : List ℕ) → IsRead None e f streams bytes → bytes ≡ []
owes_nothing e f streams bytes h = h.3

pub unspent : (c : Conn) (done : Bool) → (c.ending ≡ Some end.NoMemory → ⊥) → Refuses c done
unspent c done isnt s stands spent = absurd (isnt (ap (λ (x : machine.Conn). x.ending) (sym stands.stands.is) ∙ spent))

-- one with a front wasn't refused memory
pub front_unspent : (c : Conn) (g : Front) (done : Bool) → c.front ≡ Some g → Refuses c done
front_unspent c g done is s stands spent =
    let k = stands.stands in
    let R : Option Front → Type 0 = λ o. IsRead o c.ending k.past.front k.past.streams (drop k.past.given k.past.out) in
    let r = subst R is k.read in
    let e : c.ending ≡ Some end.NoMemory = ap (λ (x : machine.Conn). x.ending) (sym k.is) ∙ spent in
    let f : true ≡ false = sym (ap is_given_up e) ∙ r.0 in
    absurd cc

nothing_behind : (fi : Option First) (dues : List Due) → behind fi dues ≡ [] → (fi ≡ None) × (dues ≡ [])
nothing_behind None dues h = (refl, h)
nothing_behind (Some f) dues h = absurd cc

-- nothing is due where it wants nothing
pub wants_none : (c : Conn) (p : Past) → Is c p → is_nothing (want_of (state c p)) ≡ true → (c.first ≡ None) × (c.due ≡ [])
wants_none c p h none = nothing_behind c.first c.due (idle_due (state c p) h.lawful none)

-- and in one that is ending
pub over_none : (c : Conn) (p : Past) (reason : End) → Is c p → c.ending ≡ Some reason → (c.first ≡ None) × (c.due ≡ [])
over_none c p reason h is =
    let P : Option End → Type 0 = λ e. IsOver e (behind c.first c.due) in
    nothing_behind c.first c.due (subst P is h.lawful.loose.over)

not_ending : (e : Option End) → not (is_ending e) ≡ true → e ≡ None
not_ending None h = refl
not_ending (Some reason) h = absurd cc

-- it isn't ending, and nothing is due
pub record Idle (c : Conn) : Type 0 where
  pub ending : c.ending ≡ None
  pub first : c.first ≡ None
  pub due : c.due ≡ []

pub goes_on : (c : Conn) (p : Past) → Is c p → can_go_on (state c p) ≡ true → Idle c
goes_on c p h can =
    let s = state c p in
    let a = and_parts (is_nothing (want_of s) && nat_le (length (owed s)) most_owed) (not (is_ending s.ending)) can in
    let b = and_parts (is_nothing (want_of s)) (nat_le (length (owed s)) most_owed) a.0 in
    let none = wants_none c p h b.0 in
    record { ending = not_ending c.ending a.1; first = none.0; due = none.1 }

pub reads_on : (c : Conn) (p : Past) → Is c p → can_read (state c p) ≡ true → Idle c
reads_on c p h can = goes_on c p h (and_parts (can_go_on (state c p)) (not c.finished) can).0

-- ---- the end of an act

abbrev pub Settles : Conn → Conn → Type 0
Settles c d = (s : machine.Conn) → Stands c s → IsLoose s → Stands d (settle s)

pub settles_so : (c d : Conn) (x : machine.Conn) → Settles c d → Stands c x → IsLoose x → IsConn d (settle x)
settles_so c d x settles stands loose = record { stands = settles x stands loose; lawful = settle_lawful x loose }
