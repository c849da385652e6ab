-- What comes to a tunnel, and what of it is framed.
use Rattle.std.proofs.Common.{◌≡◌, ℕ, zero, suc, ◌≤◌, ◌<◌, ◌+◌, ◌-◌, ◌||◌, cond, Bool, true, false, not, List, [], ◌∷◌, ◌++◌, length, take, drop, filter, nat_le, nat_lt, Option, Some, None, slice_get, slice_set, Result, Ok, Err, refl, sym, ap, ◌∙◌, subst, arith, ◌⊎◌, inl, inr}
use Rattle.std.specs.Prelude.{find, min, sum_by, vec_len, vec_capacity, option_map, option_and_then, MatchOption}
use Rattle.std.specs.List.{list_any}
use Rattle.std.specs.Option.{is_some}
use Rattle.std.proofs.Math.Bool.{beq, or-true}
use Rattle.std.proofs.lemmas.Bool.Decides.{nat_tests}
use Rattle.std.proofs.lemmas.List.{length-append}
use Rattle.std.proofs.lemmas.List.Folds.{list_any-append}
use Rattle.std.proofs.lemmas.Option.{slice_get_cases}
use Rattle.mq_capsule.specs.Writing.{capsule_text, datagram}
use Rattle.mq_front.specs.declared.front.Front.{Front}
use Rattle.mq_front.specs.Fronts.{IsFront, Framed, Frames}
use Rattle.mq_wire.specs.declared.NoMemory.{NoMemory}
use Rattle.mq_talk.specs.declared.note.End.{End}
use Rattle.mq_talk.specs.declared.note.End.TheVariants as end
use Rattle.mq_talk.specs.declared.note.From.{From}
use Rattle.mq_talk.specs.declared.note.Note.{Note}
use Rattle.mq_talk.specs.declared.note.Note.TheVariants as note
use Rattle.mq_talk.specs.declared.note.Why.TheVariants as why
use Rattle.mq_talk.specs.declared.place.Cause.TheVariants as cause
use Rattle.mq_machine.specs.declared.act.Act.TheVariants as act
use Rattle.mq_machine.specs.declared.act.StreamAct.TheVariants as stream
use Rattle.mq_machine.specs.declared.act.Due.TheVariants as due
use Rattle.mq_machine.specs.Done.{waits as waits_last}
use Rattle.mq_machine.specs.Lawful.{IsLoose}
use Rattle.mq_machine.specs.Putting.{first_of, putting}
use Rattle.mq_machine.specs.Settle.{settle, is_given_up}
use Rattle.mq_machine.specs.State as machine
use Rattle.mq_machine.specs.State.{Waiting, Head, OverHttp1, OverHttp2, Stream, is_packet, kind_of, tunnel_of}
use Rattle.mq_machine.specs.Steps.{can_frame, can_go_on, frame_size, framed, framed_by, framed_front, framing, next_framed, port_failed, queued, set_waiting, settled_note, tunnels_from, whole_note, passed_on}
use Rattle.mq_machine.specs.Want.{want_of, may_wait}
use Rattle.mq_machine.proofs.Lawful.Steps.{waiting_loose, framed_by_loose}
use Rattle.mq_machine.proofs.Lawful.Idle.{port_failed_lawful}
use Rattle.mq_conn.specs.declared.conn.Conn.{Conn}
use Rattle.mq_conn.specs.declared.conn.First.{First}
use Rattle.mq_conn.specs.declared.conn.First.TheVariants as first
use Rattle.mq_conn.specs.declared.conn.Tunnel.{Tunnel}
use Rattle.mq_machine.specs.Words.{onward}
use Rattle.mq_addr.specs.declared.kind.Kind.{Kind}
use Rattle.mq_addr.specs.declared.kind.Kind.TheVariants as kind
use Rattle.mq_talk.specs.declared.note.From.TheVariants as source
use Rattle.mq_conn.proofs.Ready.{ready_first, ready_idle, ready_same}
use Rattle.mq_conn.specs.Conns.{IsConn, Stands, IsRead, Leaves, Refuses, Past, state, behind, act_of, tunnel_is, tunnels_of}
use Rattle.mq_conn.specs.Frames.{AnyCanFrame, ComesInAt, Delivers, GoesOnAt, QueuesAt, comes_in, delivered, IsFirst, IsNext, IsPlaceOf, HasNone, PutFirst, PutsFirst, Takes, TookFirst, TookOf, on_side, took_note, took_waiting}
use Rattle.mq_conn.specs.declared.queue.Queued.{Queued}
use Rattle.mq_conn.specs.Queues.{a_packet, size_of, behind as behind_part}
use Rattle.mq_conn.proofs.Places.{found, missing, waits_at, set_at, bytes_in, one_within, side, side_is, first_at, none_at, either_side, other_side}
use Rattle.mq_conn.proofs.Serving.{Is, Settles, by_state, goes_on, has_front, is_conn, over_none, settles_so}
use Rattle.mq_conn.proofs.Wanting.{want_due, follows_first, first_waits}

-- ---- the port of a tunnel failed

-- where it waits, no act stands in front
waits_first : (c : Conn) (p : Past) (e : Option End) (fi : Option First) → Is c p → may_wait (want_of (state c p)) ≡ true → c.ending ≡ e → c.first ≡ fi → c.first ≡ None
waits_first c p (Some reason) fi h k ending is = (over_none c p reason h ending).0
waits_first c p None None h k ending is = is
waits_first c p None (Some f) h k ending is =
    let dues : behind c.first c.due ≡ due.Do (act_of f) ∷ c.due = ap (λ (o : Option First). behind o c.due) is in
    let wanted = want_due c p (due.Do (act_of f) ∷ c.due) ending dues in
    absurd (first_waits c p f c.due (follows_first c p (act_of f) c.due h dues) (ap may_wait (sym wanted) ∙ k))

pub shut_none : (c : Conn) (id : ℕ) → HasNone c.tunnels.items id → (s : machine.Conn) → IsConn c s → (t : machine.Tunnel) → tunnel_of s id ≡ Some t → ⊥
shut_none c id none s stands t is =
    by_state c (λ (x : machine.Conn). tunnel_of x id ≡ Some t → ⊥) (λ p h k. (let e : None ≡ Some t = sym (missing c.tunnels.items id none) ∙ k in cc)) s stands is

pub shuts : (c : Conn) (id place : ℕ) (u : Tunnel) → IsPlaceOf c.tunnels.items id place u → (s : machine.Conn) → IsConn c s → (t : machine.Tunnel) → tunnel_of s id ≡ Some t → may_wait (want_of s) ≡ true
    → IsConn (record c { first = Some (first.Close u.stream why.Port) }) (port_failed s t)
shuts c id place u at s stands t is waiting =
    by_state c (λ (x : machine.Conn). tunnel_of x id ≡ Some t → may_wait (want_of x) ≡ true → IsConn d (port_failed x t)) go s stands is waiting
  where
    d : Conn
    d = record c { first = Some (first.Close u.stream why.Port) }

    go : (p : Past) → Is c p → tunnel_of (state c p) id ≡ Some t → may_wait (want_of (state c p)) ≡ true → IsConn d (port_failed (state c p) t)
    go p h k w =
        let same : Some (tunnel_is u) ≡ Some t = sym (found c.tunnels.items id place u at) ∙ k in
        let T : machine.Tunnel → Type 0 = λ v. IsConn d (port_failed (state c p) v) in
        let none = waits_first c p c.ending c.first h w refl refl in
        let is_t : tunnel_is u ≡ t = (let e = same in cc) in
        subst T is_t (record {
          stands = record {
            past = p;
            is = ap (λ (f : Option First). record (state c p) { due = due.Do (act.OfStream u.stream (stream.Close why.Port)) ∷ behind f c.due }) none;
            read = h.read;
            given = h.given;
            ready = ready_first c.spare (vec_len c.tunnels) (vec_capacity c.tunnels) c.first (first.Close u.stream why.Port) c.due none refl h.ready;
          };
          lawful = port_failed_lawful (state c p) id (tunnel_is u) h.lawful (found c.tunnels.items id place u at) w;
        })

-- ---- a packet comes

-- too much waits
abbrev pub full : List Tunnel → Tunnel → List ℕ → Bool
full ts t packet = nat_le 64 (length (filter is_packet t.waiting)) || nat_lt 1048576 (sum_by (λ (u : Tunnel). size_of u.waiting) ts + length (capsule_text (datagram packet)))

abbrev came : Bool → machine.Conn → ℕ → From → ℕ → List ℕ → Note × machine.Conn
came b x id from n packet = cond b (note.Dropped from n cause.QueueFull, x) (note.Queued from n id, record x { tunnels = waits_last id (a_packet from n packet) x.tunnels })

queued_is : (c : Conn) (p : Past) (t : Tunnel) (from : From) (n : ℕ) (packet : List ℕ) (b : Bool) → full c.tunnels.items t packet ≡ b
    → queued (state c p) (tunnel_is t) from n packet ≡ came b (state c p) t.id from n packet
queued_is c p t from n packet b is =
    ap (λ (k : ℕ). came (nat_le 64 (length (filter is_packet t.waiting)) || nat_lt 1048576 (k + length (capsule_text (datagram packet)))) (state c p) t.id from n packet) (bytes_in c.tunnels.items)
    ∙ ap (λ (v : Bool). came v (state c p) t.id from n packet) is

abbrev pub QueuesTo : Conn → Conn → Tunnel → From → ℕ → List ℕ → Note → Type 0
QueuesTo c d t from n packet said = (s : machine.Conn) → IsConn c s
    → (said ≡ (settled_note (queued s (tunnel_is t) from n packet)).0) × IsConn d (settled_note (queued s (tunnel_is t) from n packet)).1

comes_to : (d : Conn) (x : machine.Conn) (u : machine.Tunnel) (from : From) (n : ℕ) (packet : List ℕ) (said : Note) (q : Note × machine.Conn) → queued x u from n packet ≡ q
    → said ≡ q.0 → IsConn d (settle q.1) → (said ≡ (settled_note (queued x u from n packet)).0) × IsConn d (settled_note (queued x u from n packet)).1
comes_to d x u from n packet said q is told stands =
    let P : Note × machine.Conn → Type 0 = λ r. (said ≡ (settled_note r).0) × IsConn d (settled_note r).1 in
    subst P (sym is) (told, stands)

stands_same : (c : Conn) (p : Past) → Is c p → Stands c (state c p)
stands_same c p h = (is_conn c p h).stands

pub drops : (c d : Conn) (t : Tunnel) (from : From) (n : ℕ) (packet : List ℕ) → full c.tunnels.items t packet ≡ true → Settles c d → QueuesTo c d t from n packet (note.Dropped from n cause.QueueFull)
drops c d t from n packet is settles s stands = by_state c (λ (x : machine.Conn).
    (note.Dropped from n cause.QueueFull ≡ (settled_note (queued x (tunnel_is t) from n packet)).0) × IsConn d (settled_note (queued x (tunnel_is t) from n packet)).1)
    (λ p h. comes_to d (state c p) (tunnel_is t) from n packet (note.Dropped from n cause.QueueFull) (came true (state c p) t.id from n packet) (queued_is c p t from n packet true is) refl
    (settles_so c d (state c p) settles (stands_same c p h) h.lawful.loose)) s stands

-- ---- to which tunnel it comes

pub found_at : (c : Conn) (id place : ℕ) (t : Tunnel) → IsPlaceOf c.tunnels.items id place t → (s : machine.Conn) → IsConn c s → tunnel_of s id ≡ Some (tunnel_is t)
found_at c id place t at s stands = by_state c (λ (x : machine.Conn). tunnel_of x id ≡ Some (tunnel_is t)) (λ p h. found c.tunnels.items id place t at) s stands

pub gone : (c : Conn) (id : ℕ) (from : From) (n : ℕ) (packet : List ℕ) → HasNone c.tunnels.items id → Delivers c c from n id packet (note.Dropped from n cause.Gone)
gone c id from n packet none s stands =
    let is : tunnel_of s id ≡ None = by_state c (λ (x : machine.Conn). tunnel_of x id ≡ None) (λ p h. missing c.tunnels.items id none) s stands in
    let P : Option machine.Tunnel → Type 0 = λ o. (note.Dropped from n cause.Gone ≡ (delivered s o from n packet).0) × IsConn c (delivered s o from n packet).1 in
    subst P (sym is) (refl, stands)

-- whether it is live
pub live_is : (c : Conn) (id : ℕ) (r : Option ℕ) (b : Bool) → MatchOption r (HasNone c.tunnels.items id) (λ place. (t : Tunnel) × IsPlaceOf c.tunnels.items id place t) → b ≡ is_some r → (s : machine.Conn) → IsConn c s → b ≡ is_some (tunnel_of s id)
live_is c id None b h is s stands =
    is ∙ ap (λ (o : Option machine.Tunnel). is_some o) (sym (by_state c (λ (x : machine.Conn). tunnel_of x id ≡ None) (λ p k. missing c.tunnels.items id h) s stands))
live_is c id (Some place) b h is s stands = is ∙ ap (λ (o : Option machine.Tunnel). is_some o) (sym (found_at c id place h.0 h.1 s stands))

-- a datagram of its port
pub delivers_port : (c d : Conn) (id place port n : ℕ) (t : Tunnel) (packet : List ℕ) (said : Note) → IsPlaceOf c.tunnels.items id place t → QueuesAt c d place id (source.Port port) n packet said → Delivers c d (source.Port port) n id packet said
delivers_port c d id place port n t packet said at queues s stands =
    let P : Option machine.Tunnel → Type 0 = λ o. (said ≡ (delivered s o (source.Port port) n packet).0) × IsConn d (delivered s o (source.Port port) n packet).1 in
    subst P (sym (found_at c id place t at s stands)) (queues t at s stands)

-- it came through an inbox
abbrev pub ComesFrom : From → Type 0
ComesFrom (source.Tunnel origin) = Unit {0}
ComesFrom source.Net = Unit {0}
ComesFrom (source.Port port) = ⊥

-- a packet of an inbox
pub comes_from : (from : From) → ((origin : ℕ) × (from ≡ source.Tunnel origin)) ⊎ (from ≡ source.Net) → ComesFrom from
comes_from from (inl h) = let P : From → Type 0 = λ f. ComesFrom f in subst P (sym h.1) tt
comes_from from (inr h) = let P : From → Type 0 = λ f. ComesFrom f in subst P (sym h) tt

pub delivers_in : (c d : Conn) (id place n : ℕ) (t : Tunnel) (from : From) (packet : List ℕ) (said : Note) → IsPlaceOf c.tunnels.items id place t → ComesFrom from → ComesInAt c d place id from n packet said → Delivers c d from n id packet said
delivers_in c d id place n t (source.Port port) packet said at inner comes s stands = absurd inner
delivers_in c d id place n t (source.Tunnel origin) packet said at inner comes s stands =
    let P : Option machine.Tunnel → Type 0 = λ o. (said ≡ (delivered s o (source.Tunnel origin) n packet).0) × IsConn d (delivered s o (source.Tunnel origin) n packet).1 in
    subst P (sym (found_at c id place t at s stands)) (comes t at s stands)
delivers_in c d id place n t source.Net packet said at inner comes s stands =
    let P : Option machine.Tunnel → Type 0 = λ o. (said ≡ (delivered s o source.Net n packet).0) × IsConn d (delivered s o source.Net n packet).1 in
    subst P (sym (found_at c id place t at s stands)) (comes t at s stands)

-- by the kind of its tunnel
pub comes_gone : (c : Conn) (id place n : ℕ) (from : From) (packet : List ℕ) → ((t : Tunnel) → IsPlaceOf c.tunnels.items id place t → kind_of t.goal ≡ kind.Udp) → ComesInAt c c place id from n packet (note.Dropped from n cause.Gone)
comes_gone c id place n from packet udp t at s stands =
    let P : Kind → Type 0 = λ k. (note.Dropped from n cause.Gone ≡ (comes_in s k (tunnel_is t) from n packet).0) × IsConn c (comes_in s k (tunnel_is t) from n packet).1 in
    subst P (sym (udp t at)) (refl, stands)

pub comes_on : (c d : Conn) (id place n : ℕ) (from : From) (packet : List ℕ) (said : Note) → ((t : Tunnel) → IsPlaceOf c.tunnels.items id place t → kind_of t.goal ≡ kind.Ip) → GoesOnAt c d place id from n packet said → ComesInAt c d place id from n packet said
comes_on c d id place n from packet said ip goes t at s stands =
    let P : Kind → Type 0 = λ k. (said ≡ (comes_in s k (tunnel_is t) from n packet).0) × IsConn d (comes_in s k (tunnel_is t) from n packet).1 in
    subst P (sym (ip t at)) (goes t at s stands)

-- by its hop limit
pub on_none : (c : Conn) (id place n : ℕ) (from : From) (packet : List ℕ) → onward packet ≡ None → GoesOnAt c c place id from n packet (note.Dropped from n cause.HopLimit)
on_none c id place n from packet is t at s stands =
    let P : Option (List ℕ) → Type 0 = λ o. (note.Dropped from n cause.HopLimit ≡ (passed_on s (tunnel_is t) from n o).0) × IsConn c (passed_on s (tunnel_is t) from n o).1 in
    subst P (sym is) (refl, stands)

pub on_some : (c d : Conn) (id place n : ℕ) (from : From) (packet lower : List ℕ) (said : Note) → onward packet ≡ Some lower → QueuesAt c d place id from n lower said → GoesOnAt c d place id from n packet said
on_some c d id place n from packet lower said is queues t at s stands =
    let P : Option (List ℕ) → Type 0 = λ o. (said ≡ (passed_on s (tunnel_is t) from n o).0) × IsConn d (passed_on s (tunnel_is t) from n o).1 in
    subst P (sym is) (queues t at s stands)

-- the tunnels are others, of as many and with as much room
pub record Sets (c e : Conn) (place : ℕ) (t : Tunnel) : Type 0 where
  pub keeps : e ≡ record c { tunnels = e.tunnels }
  pub items : e.tunnels.items ≡ slice_set c.tunnels.items place t
  pub len : vec_len e.tunnels ≡ vec_len c.tunnels
  pub capacity : vec_capacity e.tunnels ≡ vec_capacity c.tunnels

pub queues : (c e d : Conn) (id place : ℕ) (t : Tunnel) (from : From) (n : ℕ) (packet : List ℕ) → IsPlaceOf c.tunnels.items id place t → full c.tunnels.items t packet ≡ false
    → Sets c e place (record t { waiting = t.waiting ++ a_packet from n packet ∷ [] }) → Settles e d → QueuesTo c d t from n packet (note.Queued from n id)
queues c e d id place t from n packet at is sets settles s stands = by_state c (λ (x : machine.Conn).
    (note.Queued from n id ≡ (settled_note (queued x (tunnel_is t) from n packet)).0) × IsConn d (settled_note (queued x (tunnel_is t) from n packet)).1) go s stands
  where
    w : Waiting
    w = a_packet from n packet

    go : (p : Past) → Is c p → (note.Queued from n id ≡ (settled_note (queued (state c p) (tunnel_is t) from n packet)).0) × IsConn d (settled_note (queued (state c p) (tunnel_is t) from n packet)).1
    go p h =
        let y : machine.Conn = record (state c p) { tunnels = waits_last t.id w (tunnels_of c.tunnels.items) } in
        let placed : waits_last t.id w (tunnels_of c.tunnels.items) ≡ tunnels_of e.tunnels.items =
        ap (λ (k : ℕ). waits_last k w (tunnels_of c.tunnels.items)) at.id_is ∙ waits_at c.tunnels.items id place t w at ∙ ap tunnels_of (sym sets.items) in
        let kept : Stands (record c { tunnels = e.tunnels }) y = record {
          past = p;
          is = ap (λ (ts : List machine.Tunnel). record (state c p) { tunnels = ts }) placed;
          read = h.read;
          given = h.given;
          ready = ready_same c.spare (vec_len c.tunnels) (vec_capacity c.tunnels) (vec_len e.tunnels) (vec_capacity e.tunnels) c.first c.due sets.len sets.capacity h.ready;
        } in
        let E : Conn → Type 0 = λ v. Stands v y in
        let loose : IsLoose y = waiting_loose t.id w (state c p) h.lawful.loose in
        comes_to d (state c p) (tunnel_is t) from n packet (note.Queued from n id) (came false (state c p) t.id from n packet) (queued_is c p t from n packet false is)
        (ap (λ (k : ℕ). note.Queued from n k) (sym at.id_is)) (settles_so e d y settles (subst E (sym sets.keeps) kept) loose)

-- ---- whose turn it is

-- whether a part of what waits first in a tunnel can be framed
pub frames_at : (c : Conn) (t : Tunnel) (w : Waiting) (rest : List Waiting) (g : Front) (size room : ℕ) → c.front ≡ Some g → t.waiting ≡ w ∷ rest → size ≡ length (drop w.framed w.capsule)
    → ((f : machine.Front) (streams : List Stream) (owed : List ℕ) → IsFront g f streams owed → room ≡ frame_size f t.stream size) → (s : machine.Conn) → IsConn c s → nat_lt 0 room ≡ can_frame s (tunnel_is t)
frames_at c t w rest g size room fronted waiting whole rooms s stands = by_state c (λ (x : machine.Conn). nat_lt 0 room ≡ can_frame x (tunnel_is t)) go s stands
  where
    go : (p : Past) → Is c p → nat_lt 0 room ≡ can_frame (state c p) (tunnel_is t)
    go p h =
        let x = state c p in
        let R : Option Front → Type 0 = λ o. IsRead o c.ending p.front p.streams (drop p.given p.out) in
        let r = subst R fronted h.read in
        ap (λ (n : ℕ). nat_lt 0 n) (rooms p.front p.streams (drop p.given p.out) r.1) ∙ ap (λ (n : ℕ). nat_lt 0 (frame_size p.front t.stream n)) whole
        ∙ ap (λ (ws : List Waiting). can_frame x (record (tunnel_is t) { waiting = ws })) (sym waiting)

pub frames_none : (c : Conn) (t : Tunnel) → t.waiting ≡ [] → (s : machine.Conn) → false ≡ can_frame s (tunnel_is t)
frames_none c t waiting s = ap (λ (ws : List Waiting). can_frame s (record (tunnel_is t) { waiting = ws })) (sym waiting)

pub goes_fronted : (c : Conn) → c.front ≡ None → (s : machine.Conn) → IsConn c s → s.ending ≡ None → ⊥
goes_fronted c none s stands goes = by_state c (λ (x : machine.Conn). x.ending ≡ None → ⊥) go s stands goes
  where
    go : (p : Past) → Is c p → c.ending ≡ None → ⊥
    go p h e =
        let f = has_front c.front c.ending p.front p.streams (drop p.given p.out) h.read (ap is_given_up e) in
        let k : None ≡ Some f.0 = sym none ∙ f.1 in
        cc

-- of the tunnels before this place none on this side can be framed
abbrev pub Passes : Conn → Bool → ℕ → Type 0
Passes c late place = (s : machine.Conn) → IsConn c s → s.ending ≡ None → (other : ℕ) (t : Tunnel) → other < place → slice_get c.tunnels.items other ≡ Some t
    → side late c.next_tunnel (tunnel_is t) ≡ true → can_frame s (tunnel_is t) ≡ false

pub next_at : (c : Conn) (late : Bool) (place : ℕ) (t : Tunnel) → Passes c late place → slice_get c.tunnels.items place ≡ Some t → side late c.next_tunnel (tunnel_is t) ≡ true
    → ((s : machine.Conn) → IsConn c s → s.ending ≡ None → can_frame s (tunnel_is t) ≡ true) → IsNext c late (Some place)
next_at c late place t passes at on can s stands goes =
    let ts = tunnels_of c.tunnels.items in (
      t,
      at,
      ap (λ (us : List machine.Tunnel). find (can_frame s) us) (side_is late c.next_tunnel ts)
          ∙ first_at (can_frame s) (side late c.next_tunnel) c.tunnels.items place t (passes s stands goes) at on (can s stands goes),
    )

pub next_none : (c : Conn) (late : Bool) → ((s : machine.Conn) → IsConn c s → s.ending ≡ None → (other : ℕ) (t : Tunnel) → slice_get c.tunnels.items other ≡ Some t
    → side late c.next_tunnel (tunnel_is t) ≡ true → can_frame s (tunnel_is t) ≡ false) → IsNext c late None
next_none c late passes s stands goes =
    ap (λ (us : List machine.Tunnel). find (can_frame s) us) (side_is late c.next_tunnel (tunnels_of c.tunnels.items))
    ∙ none_at (can_frame s) (side late c.next_tunnel) c.tunnels.items (passes s stands goes)

pub goes_not_ending : (c : Conn) (s : machine.Conn) → IsConn c s → can_go_on s ≡ true → s.ending ≡ None
goes_not_ending c s stands can = by_state c (λ (x : machine.Conn). can_go_on x ≡ true → x.ending ≡ None) (λ p h k. (goes_on c p h k).ending) s stands can

abbrev pub IsTurn : Conn → machine.Conn → Option ℕ → Type 0
IsTurn c s o = MatchOption o (next_framed s ≡ None) (λ place. (t : Tunnel) × (slice_get c.tunnels.items place ≡ Some t) × (next_framed s ≡ Some (tunnel_is t)))

pub turn_waits : (c : Conn) (s : machine.Conn) → can_go_on s ≡ false → IsTurn c s None
turn_waits c s not_now = ap (λ (b : Bool). cond b (find (can_frame s) (tunnels_from s.next_tunnel s.tunnels)) None) not_now

pub turn_late : (c : Conn) (place : ℕ) → IsNext c true (Some place) → (s : machine.Conn) → IsConn c s → can_go_on s ≡ true → IsTurn c s (Some place)
turn_late c place next s stands can = by_state c (λ (x : machine.Conn). can_go_on x ≡ true → IsTurn c x (Some place)) go s stands can
  where
    go : (p : Past) → Is c p → can_go_on (state c p) ≡ true → IsTurn c (state c p) (Some place)
    go p h k =
        let x = state c p in
        let r = next x (is_conn c p h) (goes_not_ending c x (is_conn c p h) k) in (
          r.0,
          r.1,
          ap (λ (b : Bool). cond b (find (can_frame x) (tunnels_from x.next_tunnel x.tunnels)) None) k
              ∙ either_side (can_frame x) (on_side true c.next_tunnel (tunnels_of c.tunnels.items)) (on_side false c.next_tunnel (tunnels_of c.tunnels.items)) (tunnel_is r.0) r.2,
        )

pub turn_early : (c : Conn) (o : Option ℕ) → IsNext c true None → IsNext c false o → (s : machine.Conn) → IsConn c s → can_go_on s ≡ true → IsTurn c s o
turn_early c o late next s stands can = by_state c (λ (x : machine.Conn). can_go_on x ≡ true → IsTurn c x o) go s stands can
  where
    go : (p : Past) → Is c p → can_go_on (state c p) ≡ true → IsTurn c (state c p) o
    go p h k =
        let x = state c p in
        let goes = goes_not_ending c x (is_conn c p h) k in
        let is : next_framed x ≡ find (can_frame x) (on_side false c.next_tunnel (tunnels_of c.tunnels.items)) =
        ap (λ (b : Bool). cond b (find (can_frame x) (tunnels_from x.next_tunnel x.tunnels)) None) k
        ∙ other_side (can_frame x) (on_side true c.next_tunnel (tunnels_of c.tunnels.items)) (on_side false c.next_tunnel (tunnels_of c.tunnels.items)) (late x (is_conn c p h) goes) in
        by_place o is (next x (is_conn c p h) goes)
      where
        by_place : (o : Option ℕ) → next_framed (state c p) ≡ find (can_frame (state c p)) (on_side false c.next_tunnel (tunnels_of c.tunnels.items)) → IsFirst c (state c p) false o → IsTurn c (state c p) o
        by_place None is r = is ∙ r
        by_place (Some place) is r = (r.0, r.1, is ∙ r.2)

-- where it is a tunnel's turn, something waits there
first_in : (x : machine.Conn) (t : machine.Tunnel) (ws : List Waiting) → framed_front x t ws ≡ None → ws ≡ []
first_in x t [] h = refl
first_in x t (w ∷ ws) h = absurd cc

-- ---- bytes are put

pub drop_more : (given : ℕ) (out more : List ℕ) → given ≤ length out → drop given (out ++ more) ≡ drop given out ++ more
drop_more zero out more h = refl
drop_more (suc g) [] more h = absurd (omega (arith, h))
drop_more (suc g) (b ∷ bs) more h = drop_more g bs more (omega (arith, h))

pub given_more : (given : ℕ) (out more : List ℕ) → given ≤ length out → given ≤ length (out ++ more)
given_more given out more h = let e = length-append out more in omega (arith, h, e)

framing_goes : (f : machine.Front) (id : ℕ) (text : List ℕ) → (framing f id text).ending ≡ None
framing_goes (Head bytes) id text = refl
framing_goes OverHttp1 id text = refl
framing_goes (OverHttp2 h) id text = refl

goes_first : (e : Option End) → first_of e None ≡ e
goes_first None = refl
goes_first (Some reason) = refl

pub puts_so : (old new : Conn) (place count : ℕ) (t : Tunnel) (w : Waiting) (rest : List Waiting) (g h : Front) → slice_get old.tunnels.items place ≡ Some t → t.waiting ≡ w ∷ rest
    → old.front ≡ Some g → new ≡ record old { front = Some h }
    → ((f : machine.Front) (streams : List Stream) (owed : List ℕ) → IsFront g f streams owed → Framed h f t.stream count (drop w.framed w.capsule) streams owed) → PutFirst old new place count
puts_so old new place count t w rest g h at waits fronted keeps frames = record {
  t = t;
  w = w;
  rest = rest;
  at = at;
  waits = waits;
  keeps = keeps ∙ ap (λ (o : Option Front). record old { front = o }) (ap (λ (c : Conn). c.front) (sym keeps));
  put = put;
}
  where
    bytes : List ℕ
    bytes = drop w.framed w.capsule

    put : (s : machine.Conn) → Stands old s → (count ≡ frame_size s.front t.stream (length bytes)) × Stands new (putting s (framing s.front t.stream (take count bytes)))
    put s k =
        let p = k.past in
        let P : machine.Conn → Type 0 = λ x. (count ≡ frame_size x.front t.stream (length bytes)) × Stands new (putting x (framing x.front t.stream (take count bytes))) in
        let R : Option Front → Type 0 = λ o. IsRead o old.ending p.front p.streams (drop p.given p.out) in
        let r = subst R fronted k.read in
        let f = frames p.front p.streams (drop p.given p.out) r.1 in
        let puts = framing p.front t.stream (take count bytes) in
        let q : Past = record p { front = puts.front; out = p.out ++ puts.text } in
        let d : Conn = record old { front = Some h } in
        let O : List ℕ → Type 0 = λ owed. IsFront h puts.front p.streams owed in
        let E : Conn → Type 0 = λ c. Stands c (putting (state old p) puts) in
        subst P (sym k.is) (
          f.count_is,
          subst E (sym keeps) (record {
            past = q;
            is = ap (λ (e : Option End). record (state old p) { front = puts.front; out = p.out ++ puts.text; ending = e }) (ap (λ (e : Option End). first_of old.ending e) (framing_goes p.front t.stream (take count bytes)) ∙ goes_first old.ending);
            read = (r.0, subst O (sym (drop_more p.given p.out puts.text k.given)) f.put);
            given = given_more p.given p.out puts.text k.given;
            ready = k.ready;
          }),
        )

-- ---- it is framed

framed_by_is : (x : machine.Conn) (t : Tunnel) (w : Waiting) (rest : List Waiting) (count : ℕ) (b : Bool) → nat_le (length w.capsule) (w.framed + count) ≡ b
    → framed_by x (tunnel_is t) w rest count
    ≡ (took_note b t w count, record (putting x (framing x.front t.stream (take count (drop w.framed w.capsule)))) { tunnels = set_waiting t.stream (took_waiting b w rest count) x.tunnels; next_tunnel = t.id + 1 })
framed_by_is x t w rest count b is = ap (λ (v : Bool). cond v (done true) (done false)) is ∙ by b
  where
    done : Bool → Note × machine.Conn
    done b = (took_note b t w count, record (putting x (framing x.front t.stream (take count (drop w.framed w.capsule)))) { tunnels = set_waiting t.stream (took_waiting b w rest count) x.tunnels; next_tunnel = t.id + 1 })

    by : (b : Bool) → cond b (done true) (done false) ≡ done b
    by true = refl
    by false = refl

framed_is : (x : machine.Conn) (u : machine.Tunnel) (w : Waiting) (rest : List Waiting) (count : ℕ) (d : Note × machine.Conn) → next_framed x ≡ Some u → u.waiting ≡ w ∷ rest
    → count ≡ frame_size x.front u.stream (length (drop w.framed w.capsule)) → framed_by x u w rest count ≡ d → framed x ≡ Some (settled_note d)
framed_is x u w rest count d turn waiting size is =
    ap (λ (o : Option machine.Tunnel). option_map settled_note (option_and_then (λ (t : machine.Tunnel). framed_front x t t.waiting) o)) turn
    ∙ ap (λ (ws : List Waiting). option_map settled_note (framed_front x u ws)) waiting
    ∙ ap (λ (n : ℕ). Some (settled_note (framed_by x u w rest n))) (sym size)
    ∙ ap (λ (r : Note × machine.Conn). Some (settled_note r)) is

pub frames_so : (old mid new d : Conn) (place count : ℕ) (said : Note) → ((s : machine.Conn) → IsConn old s → IsTurn old s (Some place)) → ((s : machine.Conn) → IsConn old s → can_go_on s ≡ true)
    → (put : PutFirst old mid place count) → Takes mid new place count put.t put.w put.rest said → Settles new d
    → (s : machine.Conn) → IsConn old s → (t : machine.Conn) × IsConn d t × (framed s ≡ Some (said, t))
frames_so old mid new d place count said turns goes put takes settles s stands =
    by_state old (λ (x : machine.Conn). (t : machine.Conn) × IsConn d t × (framed x ≡ Some (said, t))) go s stands
  where
    b : Bool
    b = nat_le (length put.w.capsule) (put.w.framed + count)

    go : (p : Past) → Is old p → (t : machine.Conn) × IsConn d t × (framed (state old p) ≡ Some (said, t))
    go p h =
        let x = state old p in
        let u = put.t in
        let turn = turns x (is_conn old p h) in
        let idle = goes_on old p h (goes x (is_conn old p h)) in
        let here : Some turn.0 ≡ Some u = sym turn.1 ∙ put.at in
        let same : turn.0 ≡ u = (let e = here in cc) in
        let next : next_framed x ≡ Some (tunnel_is u) = turn.2 ∙ ap (λ (v : Tunnel). Some (tunnel_is v)) same in
        let puts = put.put x (is_conn old p h).stands in
        let y : machine.Conn = putting x (framing x.front u.stream (take count (drop put.w.framed put.w.capsule))) in
        let z : machine.Conn = record y { tunnels = set_waiting u.stream (took_waiting b put.w put.rest count) x.tunnels; next_tunnel = u.id + 1 } in
        let is = framed_by_is x u put.w put.rest count b refl in
        let loose = subst (λ (r : Note × machine.Conn). IsLoose r.1) is (framed_by_loose x (tunnel_is u) put.w put.rest count h.lawful.loose) in
        let k = puts.1 in
        let q = k.past in
        let items : mid.tunnels.items ≡ old.tunnels.items = ap (λ (c : Conn). c.tunnels.items) put.keeps in
        let first_is : mid.first ≡ None = ap (λ (c : Conn). c.first) put.keeps ∙ idle.first in
        let placed : set_waiting u.stream (took_waiting b put.w put.rest count) x.tunnels ≡ tunnels_of new.tunnels.items =
        set_at old.tunnels.items place u (took_waiting b put.w put.rest count) h.lawful.loose.alone put.at
        ∙ ap (λ (ts : List Tunnel). tunnels_of (slice_set ts place (record u { waiting = took_waiting b put.w put.rest count }))) (sym items) ∙ ap tunnels_of (sym takes.items) in
        let e : Conn = record mid { tunnels = new.tunnels; next_tunnel = u.id + 1 } in
        let due_is : mid.due ≡ [] = ap (λ (c : Conn). c.due) put.keeps ∙ idle.due in
        let stood : Stands e z = record {
          past = q;
          is = ap (λ (ts : List machine.Tunnel). record y { tunnels = ts; next_tunnel = u.id + 1 }) placed ∙ ap (λ (v : machine.Conn). record v { tunnels = tunnels_of new.tunnels.items; next_tunnel = u.id + 1 }) k.is;
          read = k.read;
          given = k.given;
          ready = ready_idle mid.spare (vec_len new.tunnels) (vec_capacity new.tunnels) mid.first mid.due first_is due_is k.ready.spare_is;
        } in
        let E : Conn → Type 0 = λ c. Stands c z in (
          settle z,
          settles_so new d z settles (subst E (sym takes.keeps) stood) loose,
          framed_is x (tunnel_is u) put.w put.rest count (took_note b u put.w count, z) next put.waits puts.0 is ∙ ap (λ (n : Note). Some (n, settle z)) (sym takes.said_is),
        )

pub not_false : (b : Bool) → not b ≡ false → b ≡ true
not_false true h = refl
not_false false h = absurd cc

pub not_true : (b : Bool) → not b ≡ true → b ≡ false
not_true true h = absurd cc
not_true false h = refl

lt_not_le : (a b : ℕ) → nat_lt a b ≡ not (nat_le b a)
lt_not_le a b = grind (arith, nat_tests)

-- whether it is on the side that is searched
pub on_its_side : (late : Bool) (from id : ℕ) (t : machine.Tunnel) → id ≡ t.id → beq (nat_le from id) late ≡ true → side late from t ≡ true
on_its_side true from id t is h = ap (λ (n : ℕ). nat_le from n) (sym is) ∙ by (nat_le from id) h
  where
    by : (b : Bool) → beq b true ≡ true → b ≡ true
    by true k = refl
    by false k = absurd cc
on_its_side false from id t is h = ap (λ (n : ℕ). nat_lt n from) (sym is) ∙ lt_not_le id from ∙ by (nat_le from id) h
  where
    by : (b : Bool) → beq b false ≡ true → not b ≡ true
    by true k = absurd cc
    by false k = refl

pub puts_first : (old new : Conn) (place : ℕ) (r : Result ℕ NoMemory) (t : Tunnel) (w : Waiting) (rest : List Waiting) (g h : Front) → slice_get old.tunnels.items place ≡ Some t → t.waiting ≡ w ∷ rest
    → old.front ≡ Some g → new ≡ record old { front = Some h }
    → ((f : machine.Front) (streams : List Stream) (owed : List ℕ) → IsFront g f streams owed → Frames h r f t.stream (drop w.framed w.capsule) streams owed) → PutsFirst old new place r
puts_first old new place (Ok count) t w rest g h at waits fronted keeps frames = puts_so old new place count t w rest g h at waits fronted keeps frames
puts_first old new place (Err fault) t w rest g h at waits fronted keeps frames =
    let P : Conn → Type 0 = λ x. Leaves old x in
    subst P (sym keeps) (record { is = refl; items = refl; spare_is = λ h. h })

framed_goes : (x : machine.Conn) (t : machine.Tunnel) → next_framed x ≡ Some t → can_go_on x ≡ true
framed_goes x t h = go (can_go_on x) h
  where
    go : (b : Bool) → cond b (find (can_frame x) (tunnels_from x.next_tunnel x.tunnels)) None ≡ Some t → b ≡ true
    go true k = refl
    go false k = absurd cc

pub turn_goes : (c : Conn) (place : ℕ) (s : machine.Conn) → IsTurn c s (Some place) → can_go_on s ≡ true
turn_goes c place s turn = framed_goes s (tunnel_is turn.0) turn.2

pub turn_unspent : (c : Conn) (place : ℕ) (done : Bool) → ((s : machine.Conn) → IsConn c s → IsTurn c s (Some place)) → Refuses c done
turn_unspent c place done turns s stands spent =
    let goes = goes_not_ending c s stands (turn_goes c place s (turns s stands)) in
    let e : None ≡ Some end.NoMemory = sym goes ∙ spent in
    absurd cc

pub same_at : (old mid : Conn) (place : ℕ) (t : Tunnel) → mid ≡ record old { front = mid.front } → slice_get old.tunnels.items place ≡ Some t → slice_get mid.tunnels.items place ≡ Some t
same_at old mid place t keeps at = ap (λ (c : Conn). slice_get c.tunnels.items place) keeps ∙ at

-- ---- of what waits first so much was framed

first_is : (old : List Waiting) (v w : Waiting) (vs ws : List Waiting) → old ≡ v ∷ vs → old ≡ w ∷ ws → v ≡ w
first_is old v w vs ws is at = let k : v ∷ vs ≡ w ∷ ws = sym is ∙ at in cc

rest_is : (old : List Waiting) (v w : Waiting) (vs ws : List Waiting) → old ≡ v ∷ vs → old ≡ w ∷ ws → vs ≡ ws
rest_is old v w vs ws is at = let k : v ∷ vs ≡ w ∷ ws = sym is ∙ at in cc

pub took_all : (id count framed left : ℕ) (old ws : List Waiting) (w : Waiting) (rest : List Waiting) (q : Queued) (said : Note) → old ≡ w ∷ rest → left ≡ length w.capsule - w.framed → left ≤ count → old ≡ behind_part framed q ∷ ws
    → ((t : machine.Tunnel) → t.id ≡ id → (framed : ℕ) → said ≡ whole_note t (behind_part framed q) (behind_part framed q).what) → TookOf old ws id count (Some said)
took_all id count framed left old ws v others q said front left_is all popped told t w rest is waits =
    let here : v ≡ w = first_is old v w others rest front waits in
    let first : behind_part framed q ≡ w = first_is old (behind_part framed q) w ws rest popped waits in
    let b : nat_le (length w.capsule) (w.framed + count) ≡ true = ap (λ (x : Waiting). nat_le (length x.capsule) (x.framed + count)) (sym here) ∙ le_true (length v.capsule) v.framed left count left_is all in (
      told (tunnel_is t) is framed ∙ ap (λ (x : Waiting). whole_note (tunnel_is t) x x.what) first ∙ ap (λ (x : Bool). took_note x t w count) (sym b),
      rest_is old (behind_part framed q) w ws rest popped waits ∙ ap (λ (x : Bool). took_waiting x w rest count) (sym b),
    )
  where
    le_true : (a b left count : ℕ) → left ≡ a - b → left ≤ count → nat_le a (b + count) ≡ true
    le_true a b left count is few = grind (arith, nat_tests)

pub took_part : (id count left : ℕ) (old ws : List Waiting) (w : Waiting) (rest : List Waiting) → old ≡ w ∷ rest → left ≡ length w.capsule - w.framed → count < left
    → ((w : Waiting) (rest : List Waiting) → old ≡ w ∷ rest → w.framed + count ≤ length w.capsule → ws ≡ record w { framed = w.framed + count } ∷ rest) → TookOf old ws id count (Some (note.Part id count))
took_part id count left old ws v others front left_is some advanced t w rest is waits =
    let here : v ≡ w = first_is old v w others rest front waits in
    let b : nat_le (length w.capsule) (w.framed + count) ≡ false = ap (λ (x : Waiting). nat_le (length x.capsule) (x.framed + count)) (sym here) ∙ le_false (length v.capsule) v.framed left count left_is some in
    let fits : w.framed + count ≤ length w.capsule = subst (λ (x : Waiting). x.framed + count ≤ length x.capsule) here (within (length v.capsule) v.framed left count left_is some) in (
      ap (λ (n : ℕ). note.Part n count) (sym is) ∙ ap (λ (x : Bool). took_note x t w count) (sym b),
      advanced w rest waits fits ∙ ap (λ (x : Bool). took_waiting x w rest count) (sym b),
    )
  where
    le_false : (a b left count : ℕ) → left ≡ a - b → count < left → nat_le a (b + count) ≡ false
    le_false a b left count is some = grind (arith, nat_tests)

    within : (a b left count : ℕ) → left ≡ a - b → count < left → b + count ≤ a
    within a b left count is some = omega arith

tunnel_same : (u t : Tunnel) → Some u ≡ Some t → u ≡ t
tunnel_same u t is = cc

-- so it is in its tunnel
pub took_at : (old new : Conn) (place count : ℕ) (u : Tunnel) (ws : List Waiting) (r : Option Note) → slice_get old.tunnels.items place ≡ Some u → TookOf u.waiting ws u.id count r
    → new.tunnels.items ≡ slice_set old.tunnels.items place (record u { waiting = ws }) → new ≡ record old { tunnels = new.tunnels; next_tunnel = u.id + 1 } → TookFirst old new place count r
took_at old new place count u ws None at took items keeps = λ t w rest there waits.
    (let e : [] ≡ w ∷ rest = sym took ∙ ap (λ (v : Tunnel). v.waiting) (tunnel_same u t (sym at ∙ there)) ∙ waits in
    cc)
took_at old new place count u ws (Some said) at took items keeps = λ t w rest there waits.
    (let same = tunnel_same u t (sym at ∙ there) in
    let b = nat_le (length w.capsule) (w.framed + count) in
    let told = took u w rest refl (ap (λ (v : Tunnel). v.waiting) same ∙ waits) in
    record {
      said_is = told.0 ∙ ap (λ (v : Tunnel). took_note b v w count) same;
      items = items ∙ ap (λ (xs : List Waiting). slice_set old.tunnels.items place (record u { waiting = xs })) told.1 ∙ ap (λ (v : Tunnel). slice_set old.tunnels.items place (record v { waiting = took_waiting b w rest count })) same;
      keeps = keeps ∙ ap (λ (v : Tunnel). record old { tunnels = new.tunnels; next_tunnel = v.id + 1 }) same;
    })

pub off_its_side : (late : Bool) (from id : ℕ) (t : machine.Tunnel) → id ≡ t.id → beq (nat_le from id) late ≡ false → side late from t ≡ true → ⊥
off_its_side true from id t is h on = by (nat_le from id) h (ap (λ (n : ℕ). nat_le from n) is ∙ on)
  where
    by : (b : Bool) → beq b true ≡ false → b ≡ true → ⊥
    by true k on = cc
    by false k on = cc
off_its_side false from id t is h on = by (nat_le from id) h (sym (lt_not_le id from) ∙ ap (λ (n : ℕ). nat_lt n from) is ∙ on)
  where
    by : (b : Bool) → beq b false ≡ false → not b ≡ true → ⊥
    by true k on = cc
    by false k on = cc

pub passes_more : (c : Conn) (late : Bool) (place : ℕ) (u : Tunnel) → Passes c late place → slice_get c.tunnels.items place ≡ Some u
    → (side late c.next_tunnel (tunnel_is u) ≡ true → (s : machine.Conn) → IsConn c s → s.ending ≡ None → can_frame s (tunnel_is u) ≡ false) → Passes c late (place + 1)
passes_more c late place u passes here cant s stands goes other t lt at on = by (nat_lt other place) refl
  where
    by : (b : Bool) → nat_lt other place ≡ b → can_frame s (tunnel_is t) ≡ false
    by true e = passes s stands goes other t (grind (arith, nat_tests, e)) at on
    by false e =
        let same : other ≡ place = grind (arith, nat_tests, e, lt) in
        let both : Some u ≡ Some t = sym here ∙ ap (λ (n : ℕ). slice_get c.tunnels.items n) (sym same) ∙ at in
        let is : u ≡ t = (let k = both in cc) in
        ap (λ (v : Tunnel). can_frame s (tunnel_is v)) (sym is) ∙ cant (ap (λ (v : Tunnel). side late c.next_tunnel (tunnel_is v)) is ∙ on) s stands goes

-- ---- whether there is room

pub room_is : (n a b sum : ℕ) → n < 64 → a ≡ sum → nat_le (a + b) 1048576 ≡ not (nat_le 64 n || nat_lt 1048576 (sum + b))
room_is n a b sum few same =
    ap (λ (k : ℕ). nat_le (k + b) 1048576) same ∙ sym (le_not_lt (sum + b)) ∙ ap (λ (v : Bool). not (v || nat_lt 1048576 (sum + b))) (sym (not_many n few))
  where
    le_not_lt : (k : ℕ) → not (nat_lt 1048576 k) ≡ nat_le k 1048576
    le_not_lt k = grind (arith, nat_tests)

    not_many : (n : ℕ) → n < 64 → nat_le 64 n ≡ false
    not_many n h = grind (arith, nat_tests)

pub not_full : (ts : List Tunnel) (place : ℕ) (t : Tunnel) (packet : List ℕ) → slice_get ts place ≡ Some t → full ts t packet ≡ false
    → (length (filter is_packet t.waiting) < 64) × (size_of t.waiting + length (capsule_text (datagram packet)) ≤ 1048576)
not_full ts place t packet at h =
    let parts = neither (nat_le 64 (length (filter is_packet t.waiting))) (nat_lt 1048576 (sum_by (λ (u : Tunnel). size_of u.waiting) ts + length (capsule_text (datagram packet)))) h in
    let within = one_within ts place t at in (
      few (length (filter is_packet t.waiting)) parts.0,
      small (size_of t.waiting) (length (capsule_text (datagram packet))) (sum_by (λ (u : Tunnel). size_of u.waiting) ts) within parts.1,
    )
  where
    neither : (a b : Bool) → (a || b) ≡ false → (a ≡ false) × (b ≡ false)
    neither true b k = absurd cc
    neither false b k = (refl, k)

    few : (n : ℕ) → nat_le 64 n ≡ false → n < 64
    few n k = grind (arith, nat_tests, k)

    small : (a b sum : ℕ) → a ≤ sum → nat_lt 1048576 (sum + b) ≡ false → a + b ≤ 1048576
    small a b sum less k = grind (arith, nat_tests, k, less)

pub sum_is : (a sum : ℕ) → a ≡ min sum 18446744073709551615 → a ≤ 1048576 → a ≡ sum
sum_is a sum h few = omega (arith, h, few)

-- ---- whether anything can be framed

find_true : (p : machine.Tunnel → Bool) (ts : List machine.Tunnel) (t : machine.Tunnel) → find p ts ≡ Some t → p t ≡ true
find_true p [] t is = absurd cc
find_true p (u ∷ ts) t is = by_test (p u) refl is (λ later. find_true p ts t later)
  where
    by_test : (b : Bool) → p u ≡ b → cond b (Some u) (find p ts) ≡ Some t → (find p ts ≡ Some t → p t ≡ true) → p t ≡ true
    by_test true test e go = let same : u ≡ t = (let k = e in cc) in ap p (sym same) ∙ test
    by_test false test e go = go e

-- a part of what waits first in the tunnel whose turn it is can be framed
turn_can : (s : machine.Conn) (t : machine.Tunnel) → next_framed s ≡ Some t → can_frame s t ≡ true
turn_can s t is = by_going (can_go_on s) is
  where
    by_going : (b : Bool) → cond b (find (can_frame s) (tunnels_from s.next_tunnel s.tunnels)) None ≡ Some t → can_frame s t ≡ true
    by_going true e = find_true (can_frame s) (tunnels_from s.next_tunnel s.tunnels) t e
    by_going false e = absurd cc

something_waits : (s : machine.Conn) (t : machine.Tunnel) (ws : List Waiting) → t.waiting ≡ ws → can_frame s t ≡ true → is_some (option_map settled_note (framed_front s t ws)) ≡ true
something_waits s t [] is can =
    let e : false ≡ true = ap (λ (ws : List Waiting). can_frame s (record t { waiting = ws })) (sym is) ∙ can in
    absurd cc
something_waits s t (w ∷ ws) is can = refl

-- where there is no turn, nothing is framed
is_framed : (s : machine.Conn) (o : Option machine.Tunnel) → next_framed s ≡ o → is_some (framed s) ≡ is_some o
is_framed s None is = ap (λ (o : Option machine.Tunnel). is_some (option_map settled_note (option_and_then (λ (t : machine.Tunnel). framed_front s t t.waiting) o))) is
is_framed s (Some t) is =
    ap (λ (o : Option machine.Tunnel). is_some (option_map settled_note (option_and_then (λ (t : machine.Tunnel). framed_front s t t.waiting) o))) is
    ∙ something_waits s t t.waiting refl (turn_can s t is)

-- ---- whether one of its tunnels can be framed

-- of the tunnels before this place none can
abbrev pub NoneCan : Conn → ℕ → Type 0
NoneCan c place = (s : machine.Conn) → IsConn c s → s.ending ≡ None → (other : ℕ) (t : Tunnel) → other < place → slice_get c.tunnels.items other ≡ Some t → can_frame s (tunnel_is t) ≡ false

any_at : (can : machine.Tunnel → Bool) (ts : List Tunnel) (place : ℕ) (t : Tunnel) → slice_get ts place ≡ Some t → can (tunnel_is t) ≡ true → list_any can (tunnels_of ts) ≡ true
any_at can [] place t at h = absurd cc
any_at can (x ∷ ts) zero t at h =
    let same : x ≡ t = (let e = at in cc) in
    ap (λ (b : Bool). b || list_any can (tunnels_of ts)) (ap (λ (y : Tunnel). can (tunnel_is y)) same ∙ h)
any_at can (x ∷ ts) (suc k) t at h = ap (λ (b : Bool). can (tunnel_is x) || b) (any_at can ts k t at h) ∙ or-true (can (tunnel_is x))

none_can : (can : machine.Tunnel → Bool) (ts : List Tunnel) → ((other : ℕ) (t : Tunnel) → slice_get ts other ≡ Some t → can (tunnel_is t) ≡ false) → list_any can (tunnels_of ts) ≡ false
none_can can [] none = refl
none_can can (x ∷ ts) none = ap (λ (b : Bool). b || list_any can (tunnels_of ts)) (none 0 x refl) ∙ none_can can ts (λ other t at. none (suc other) t at)

pub one_can : (c : Conn) (place : ℕ) → place < length c.tunnels.items → ((s : machine.Conn) → IsConn c s → s.ending ≡ None → (t : Tunnel) → slice_get c.tunnels.items place ≡ Some t → can_frame s (tunnel_is t) ≡ true) → AnyCanFrame c true
one_can c place within can = elim ((slice_get_cases c.tunnels.items place).1) [
  | inl there ↦ (λ s stands goes. by_state c (λ (x : machine.Conn). x.ending ≡ None → true ≡ list_any (can_frame x) x.tunnels)
      (λ p h k. sym (any_at (can_frame (state c p)) c.tunnels.items place there.0 there.2 (can (state c p) (is_conn c p h) k there.0 there.2))) s stands goes)
  | inr past ↦ absurd (let far = past.0 in omega (arith, far, within))
]

pub none_can_frame : (c : Conn) (count : ℕ) → NoneCan c count → ((other : ℕ) (t : Tunnel) → slice_get c.tunnels.items other ≡ Some t → other < count) → AnyCanFrame c false
none_can_frame c count none within s stands goes = by_state c (λ (x : machine.Conn). x.ending ≡ None → false ≡ list_any (can_frame x) x.tunnels)
    (λ p h k. sym (none_can (can_frame (state c p)) c.tunnels.items (λ other t at. none (state c p) (is_conn c p h) k other t (within other t at) at))) s stands goes

pub none_more : (c : Conn) (place : ℕ) → NoneCan c place → ((s : machine.Conn) → IsConn c s → s.ending ≡ None → (t : Tunnel) → slice_get c.tunnels.items place ≡ Some t → can_frame s (tunnel_is t) ≡ false) → NoneCan c (place + 1)
none_more c place none here s stands goes other t lt at = by (nat_lt other place) refl
  where
    by : (b : Bool) → nat_lt other place ≡ b → can_frame s (tunnel_is t) ≡ false
    by true e = none s stands goes other t (grind (arith, nat_tests, e)) at
    by false e =
        let same : other ≡ place = grind (arith, nat_tests, e, lt) in
        let P : ℕ → Type 0 = λ n. slice_get c.tunnels.items n ≡ Some t in
        here s stands goes t (subst P same at)

-- the first of them is there where one can
any_found : (can : machine.Tunnel → Bool) (ts : List machine.Tunnel) → is_some (find can ts) ≡ list_any can ts
any_found can [] = refl
any_found can (t ∷ ts) = go (can t) (any_found can ts)
  where
    go : (b : Bool) → is_some (find can ts) ≡ list_any can ts → is_some (cond b (Some t) (find can ts)) ≡ (b || list_any can ts)
    go true rest = refl
    go false rest = rest

or_sides : (late can first second all : Bool) → (first || second) ≡ all → (cond late (can || first) first || cond (not late) (can || second) second) ≡ (can || all)
or_sides true true first second all h = refl
or_sides true false first second all h = h
or_sides false true first second all h = or-true first
or_sides false false first second all h = h

any_more : (can : machine.Tunnel → Bool) (is : Bool) (t : machine.Tunnel) (ts : List machine.Tunnel) → list_any can (cond is (t ∷ ts) ts) ≡ cond is (can t || list_any can ts) (list_any can ts)
any_more can true t ts = refl
any_more can false t ts = refl

any_of_sides : (late early can : machine.Tunnel → Bool) → ((t : machine.Tunnel) → early t ≡ not (late t)) → (ts : List machine.Tunnel) → (list_any can (filter late ts) || list_any can (filter early ts)) ≡ list_any can ts
any_of_sides late early can other [] = refl
any_of_sides late early can other (t ∷ ts) =
    let xs = filter late ts in
    let ys = filter early ts in
    ap (λ (e : Bool). list_any can (filter late (t ∷ ts)) || list_any can (cond e (t ∷ ys) ys)) (other t)
    ∙ ap (λ (a : Bool). a || list_any can (cond (not (late t)) (t ∷ ys) ys)) (any_more can (late t) t xs)
    ∙ ap (λ (b : Bool). cond (late t) (can t || list_any can xs) (list_any can xs) || b) (any_more can (not (late t)) t ys)
    ∙ or_sides (late t) (can t) (list_any can xs) (list_any can ys) (list_any can ts) (any_of_sides late early can other ts)

not_le : (a b : ℕ) → nat_lt b a ≡ not (nat_le a b)
not_le a b = by (nat_le a b) refl
  where
    by : (v : Bool) → nat_le a b ≡ v → nat_lt b a ≡ not v
    by true e = grind (arith, nat_tests, e)
    by false e = grind (arith, nat_tests, e)

turn_any : (s : machine.Conn) → can_go_on s ≡ true → is_some (next_framed s) ≡ list_any (can_frame s) s.tunnels
turn_any s goes =
    let late : machine.Tunnel → Bool = λ t. nat_le s.next_tunnel t.id in
    let early : machine.Tunnel → Bool = λ t. nat_lt t.id s.next_tunnel in
    ap (λ (b : Bool). is_some (cond b (find (can_frame s) (tunnels_from s.next_tunnel s.tunnels)) None)) goes
    ∙ any_found (can_frame s) (tunnels_from s.next_tunnel s.tunnels)
    ∙ list_any-append (can_frame s) (filter late s.tunnels) (filter early s.tunnels)
    ∙ any_of_sides late early (can_frame s) (λ t. not_le s.next_tunnel t.id) s.tunnels

pub frames_some : (c : Conn) (b : Bool) → AnyCanFrame c b → (s : machine.Conn) → IsConn c s → can_go_on s ≡ true → b ≡ is_some (framed s)
frames_some c b any s stands goes = any s stands (goes_not_ending c s stands goes) ∙ sym (turn_any s goes) ∙ sym (is_framed s (next_framed s) refl)

pub frames_not_now : (c : Conn) (s : machine.Conn) → can_go_on s ≡ false → false ≡ is_some (framed s)
frames_not_now c s not_now = sym (is_framed s None (turn_waits c s not_now))
