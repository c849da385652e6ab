-- A packet that came through the inbox: which connection it comes to, and what its worker becomes.
use Rattle.std.proofs.Common.{◌≡◌, ◌≢◌, ◌⊎◌, inl, inr, ℕ, zero, suc, ◌+◌, ◌<◌, ◌≤◌, Bool, true, false, cond, List, [], ◌∷◌, length, slice_get, slice_set, Option, Some, None, refl, sym, ap, subst, ◌∙◌, arith}
use Rattle.std.specs.Prelude.{find, is_some}
use borrow.Author.Count.{below_more}
use Rattle.std.proofs.lemmas.Bool.{cases_eq}
use Rattle.slab.specs.Slab.{Slab}
use Rattle.mq_addr.specs.declared.kind.Kind.{Kind}
use Rattle.mq_addr.specs.declared.kind.Kind.TheVariants as kind
use Rattle.mq_talk.specs.declared.note.From.{From}
use Rattle.mq_talk.specs.declared.note.Note.{Note}
use Rattle.mq_talk.specs.declared.note.Note.TheVariants as note
use Rattle.mq_talk.specs.declared.place.Cause.TheVariants as cause
use Rattle.mq_talk.specs.declared.place.Origin.{Origin}
use Rattle.mq_talk.specs.declared.place.Origin.TheVariants as origin
use Rattle.mq_talk.specs.declared.place.Parcel.{Parcel}
use Rattle.mq_talk.specs.declared.place.Place.{Place}
use Rattle.mq_talk.specs.declared.place.Place.TheVariants as place
use Rattle.mq_machine.specs.State.{Conn, Tunnel, Held, Worker, kind_of, tunnel_of}
use Rattle.mq_machine.specs.Turn.{came_to, has_tunnel, popped, replace, source_of, tunnel_in}
use Rattle.mq_machine.specs.Steps.{passed_on}
use Rattle.mq_machine.specs.Words.{onward}
use Rattle.mq_machine.specs.Acting.{Outside}
use Rattle.mq_conn.specs.declared.conn.Conn.{Conn as Core}
use Rattle.mq_conn.specs.Conns.{IsConn}
use Rattle.mq_conn.specs.Frames.{Delivers, comes, comes_in, delivered}
use Rattle.mq_held.specs.declared.held.Held.{Held as HeldBy}
use Rattle.mq_step.specs.Holds.{IsHeld}
use Rattle.mq_actor.specs.Holds.{AreHeld, AreOthers, HaveOwnPorts}
use Rattle.mq_actor.specs.Seats.{Comes, ComesAt, ComesTo, IsLive, IsPlaceWith, Misses, NoneHas}
use Rattle.mq_actor.specs.Seen.{Words, SeesConn}
use Rattle.mq_actor.proofs.Brought.{Brought, comes_brings, held_brought}
use Rattle.mq_actor.proofs.Cores.{AreApart}
use Rattle.mq_actor.proofs.Helds.{at_held, held_at}
use Rattle.mq_actor.proofs.Lists.{get_set_other, get_set_same, replace_sets}
use Rattle.mq_actor.proofs.Pointwise.{within}
use Rattle.mq_actor.proofs.Sighted.{HaveOwnTunnels}

-- ---- the first with its tunnel

pub find_first : {A : Type 0} (p : A → Bool) (xs : List A) (i : ℕ) (x : A) → slice_get xs i ≡ Some x → p x ≡ true
    → ((j : ℕ) → j < i → (y : A) → slice_get xs j ≡ Some y → p y ≡ false) → find p xs ≡ Some x
find_first p [] i x at is before = absurd cc
find_first {A} p (y ∷ xs) zero x at is before =
    let e : y ≡ x = cc in
    ap {B = Option A} (λ (b : Bool). cond b (Some y) (find p xs)) (ap p e ∙ is) ∙ at
find_first {A} p (y ∷ xs) (suc i) x at is before =
    ap {B = Option A} (λ (b : Bool). cond b (Some y) (find p xs)) (before 0 (omega arith) y refl)
    ∙ find_first p xs i x at is (λ j less z at_z. before (suc j) (omega (arith, less)) z at_z)

pub find_none : {A : Type 0} (p : A → Bool) (xs : List A) → ((j : ℕ) (y : A) → slice_get xs j ≡ Some y → p y ≡ false) → find p xs ≡ None
find_none p [] none = refl
find_none {A} p (y ∷ xs) none =
    ap {B = Option A} (λ (b : Bool). cond b (Some y) (find p xs)) (none 0 y refl) ∙ find_none p xs (λ j z at. none (suc j) z at)

-- what is set at a place and stands there changes nothing
pub set_itself : {A : Type 0} (xs : List A) (i : ℕ) (x : A) → slice_get xs i ≡ Some x → slice_set xs i x ≡ xs
set_itself [] i x at = absurd cc
set_itself {A} (y ∷ xs) zero x at = let e : x ≡ y = cc in ap (λ (z : A). z ∷ xs) e
set_itself {A} (y ∷ xs) (suc i) x at = ap (λ (ys : List A). y ∷ ys) (set_itself xs i x at)

-- ---- the place of it

-- the connection at this place is the first
pub is_first : {L : Type 0} (hs : List (HeldBy L)) (tunnel i : ℕ) (held : HeldBy L) (live : Bool) → slice_get hs i ≡ Some held → IsLive held.conn tunnel live → live ≡ true
    → ((j : ℕ) → j < i → (h : HeldBy L) → slice_get hs j ≡ Some h → IsLive h.conn tunnel false) → IsPlaceWith hs tunnel (Some i)
is_first hs tunnel i held live at is so before =
    let P : Bool → Type 0 = λ b. IsLive held.conn tunnel b in
    (held, record { at = at; has = subst P so is; first = before })

-- it isn't, and none before it
pub one_more : {L : Type 0} (hs : List (HeldBy L)) (tunnel i : ℕ) (held : HeldBy L) (live : Bool) → slice_get hs i ≡ Some held → IsLive held.conn tunnel live → live ≡ false
    → ((j : ℕ) → j < i → (h : HeldBy L) → slice_get hs j ≡ Some h → IsLive h.conn tunnel false)
    → (j : ℕ) → j < i + 1 → (h : HeldBy L) → slice_get hs j ≡ Some h → IsLive h.conn tunnel false
one_more {L} hs tunnel i held live at is so before =
    below_more (λ j. (h : HeldBy L) → slice_get hs j ≡ Some h → IsLive h.conn tunnel false) i before
    (λ h at_h.
    let both : Some held ≡ Some h = sym at ∙ at_h in
    let e : held ≡ h = cc in
    let P : Bool → Type 0 = λ b. IsLive held.conn tunnel b in
    let H : HeldBy L → Type 0 = λ x. IsLive x.conn tunnel false in
    subst H e (subst P so is))

-- none is
pub none_has : {L : Type 0} (hs : List (HeldBy L)) (tunnel i : ℕ) → length hs ≤ i
    → ((j : ℕ) → j < i → (h : HeldBy L) → slice_get hs j ≡ Some h → IsLive h.conn tunnel false) → IsPlaceWith hs tunnel None
none_has hs tunnel i past before = λ j h at. let less = within hs j h at in before j (omega (arith, less, past)) h at

-- what a core was given, it was given there
pub comes_at : {L : Type 0} (place tunnel : ℕ) (parcel : Parcel) (hs : List (HeldBy L)) (held : HeldBy L) (core : Core) (said : Note) (from : From) → from ≡ source_of parcel.from
    → slice_get hs place ≡ Some held → Delivers held.conn core from parcel.n tunnel parcel.packet said
    → ComesAt place tunnel parcel hs (slice_set hs place (record held { conn = core })) said
comes_at {L} place tunnel parcel hs held core said from from_is at delivers was at_was =
    let both : Some held ≡ Some was = sym at ∙ at_was in
    let e : held ≡ was = cc in
    let F : From → Type 0 = λ x. Delivers held.conn core x parcel.n tunnel parcel.packet said in
    let P : HeldBy L → Type 0 = λ h. Delivers h.conn core (source_of parcel.from) parcel.n tunnel parcel.packet said in (
      record was { conn = core },
      subst P e (subst F from_is delivers),
      refl,
      ap (λ (h : HeldBy L). slice_set hs place (record h { conn = core })) e,
    )

-- what became of a packet for a tunnel that none has
pub misses : {L : Type 0} (parcel : Parcel) (tunnel actor : ℕ) (hs : List (HeldBy L)) (said : Note) (from : From) → parcel.to ≡ place.Tunnel tunnel actor
    → from ≡ source_of parcel.from → NoneHas hs tunnel → said ≡ note.Dropped from parcel.n cause.Gone → ComesTo parcel.to parcel hs hs said
misses {L} parcel tunnel actor hs said from to from_is none said_is =
    let P : Place → Type 0 = λ p. ComesTo p parcel hs hs said in
    subst P (sym to) (inl (none, record { said_is = said_is ∙ ap (λ (f : From). note.Dropped f parcel.n cause.Gone) from_is; conns = refl }))

-- and of one for a tunnel that some have
pub comes_first : {L : Type 0} (parcel : Parcel) (tunnel actor i : ℕ) (hs gs : List (HeldBy L)) (said : Note) → parcel.to ≡ place.Tunnel tunnel actor
    → IsPlaceWith hs tunnel (Some i) → ComesAt i tunnel parcel hs gs said → ComesTo parcel.to parcel hs gs said
comes_first {L} parcel tunnel actor i hs gs said to first comes =
    let P : Place → Type 0 = λ p. ComesTo p parcel hs gs said in
    let c = comes first.0 first.1.at in
    subst P (sym to) (inr (record { place = i; was = first.0; now = c.0; first = first.1; delivers = c.1; rest = c.2; conns = c.3 }))

-- ---- none has it

-- where no connection has a tunnel that it may come to, the packet is dropped
pub popped_none : (w : Worker) (parcel : Parcel) → tunnel_in w parcel.to ≡ None
    → popped w parcel ≡ (note.Dropped (source_of parcel.from) parcel.n cause.Gone, record w { next_seat = 2 })
popped_none w parcel is = rw is refl

pub popped_net : (w : Worker) (parcel : Parcel) → parcel.to ≡ place.Net
    → popped w parcel ≡ (note.Dropped (source_of parcel.from) parcel.n cause.Gone, record w { next_seat = 2 })
popped_net w parcel to = popped_none w parcel (ap (tunnel_in w) to)

pub popped_missed : (w : Worker) (parcel : Parcel) (tunnel actor : ℕ) → parcel.to ≡ place.Tunnel tunnel actor → find (has_tunnel tunnel) w.conns ≡ None
    → popped w parcel ≡ (note.Dropped (source_of parcel.from) parcel.n cause.Gone, record w { next_seat = 2 })
popped_missed w parcel tunnel actor to none = popped_none w parcel (ap (tunnel_in w) to ∙ missed) where
  missed : tunnel_in w (place.Tunnel tunnel actor) ≡ None
  missed = rw none refl

-- ---- one has it

-- it is no datagram of a port
comes_from : (s : Conn) (t : Tunnel) (from : Origin) (n : ℕ) (packet : List ℕ) → comes s t (source_of from) n packet ≡ comes_in s (kind_of t.goal) t (source_of from) n packet
comes_from s t (origin.Tunnel tunnel) n packet = refl
comes_from s t origin.Net n packet = refl

came_is : (h : Held) (t : Tunnel) (parcel : Parcel)
    → came_to h t parcel
    ≡ ((passed_on h.conn t (source_of parcel.from) parcel.n (onward parcel.packet)).0, record h { conn = (passed_on h.conn t (source_of parcel.from) parcel.n (onward parcel.packet)).1 })
came_is h t parcel = by_packet (onward parcel.packet) refl where
  by_packet : (o : Option (List ℕ)) → onward parcel.packet ≡ o
      → came_to h t parcel
      ≡ ((passed_on h.conn t (source_of parcel.from) parcel.n (onward parcel.packet)).0, record h { conn = (passed_on h.conn t (source_of parcel.from) parcel.n (onward parcel.packet)).1 })
  by_packet None is = rw is refl
  by_packet (Some packet) is = rw is refl

-- the connection and its tunnel are found
pub popped_found : (w : Worker) (parcel : Parcel) (h : Held) (t : Tunnel) → tunnel_in w parcel.to ≡ Some (h, t)
    → popped w parcel ≡ ((came_to h t parcel).0, record w { conns = replace h.conn.number (Some (came_to h t parcel).1) w.conns; next_seat = 2 })
popped_found w parcel h t found = rw found refl

-- its ports stay
pub came_ports : (h : Held) (t : Tunnel) (parcel : Parcel) → (came_to h t parcel).1.ports ≡ h.ports
came_ports h t parcel = ap (λ (d : Note × Held). d.1.ports) (came_is h t parcel)

abbrev held_or : Held → Option (Held × Tunnel) → Held
held_or h None = h
held_or h (Some found) = found.0

-- it is the first with that tunnel
pub found_with : (w : Worker) (to : Place) (h : Held) (t : Tunnel) → tunnel_in w to ≡ Some (h, t) → (tunnel : ℕ) × (find (has_tunnel tunnel) w.conns ≡ Some h)
found_with w place.Net h t is = absurd cc
found_with w (place.Tunnel tunnel actor) h t is = (tunnel, by_found (find (has_tunnel tunnel) w.conns) refl) where
  never : tunnel_in w (place.Tunnel tunnel actor) ≡ None → ⊥
  never none = let e : ◌≡◌ {A = Option (Held × Tunnel)} None (Some (h, t)) = sym none ∙ is in cc

  by_kind : (g : Held) (u : Tunnel) (k : Kind) → find (has_tunnel tunnel) w.conns ≡ Some g → tunnel_of g.conn tunnel ≡ Some u → kind_of u.goal ≡ k → Some g ≡ Some h
  by_kind g u kind.Udp found live kind_is = absurd (never (rw (found, live, kind_is) refl))
  by_kind g u kind.Ip found live kind_is =
      let one : tunnel_in w (place.Tunnel tunnel actor) ≡ Some (g, u) = rw (found, live, kind_is) refl in
      ap (λ (o : Option (Held × Tunnel)). Some (held_or g o)) (sym one ∙ is)

  by_tunnel : (g : Held) (o : Option Tunnel) → find (has_tunnel tunnel) w.conns ≡ Some g → tunnel_of g.conn tunnel ≡ o → Some g ≡ Some h
  by_tunnel g None found live = absurd (never (rw (found, live) refl))
  by_tunnel g (Some u) found live = by_kind g u (kind_of u.goal) found live refl

  by_found : (o : Option Held) → find (has_tunnel tunnel) w.conns ≡ o → find (has_tunnel tunnel) w.conns ≡ Some h
  by_found None found = absurd (never (rw found refl))
  by_found (Some g) found = found ∙ by_tunnel g (tunnel_of g.conn tunnel) found refl

-- what the connection becomes
abbrev pub brought : Held → Note × Conn → Held
brought h d = record h { conn = d.1 }

-- and its worker
abbrev pub popped_to : Worker → ℕ → Held → Note × Conn → Note × Worker
popped_to w i h d = (d.0, record w { conns = slice_set w.conns i (brought h d); next_seat = 2 })

-- The packet comes to the first connection that has its tunnel.
pub popped_comes : (w : Worker) (parcel : Parcel) (tunnel actor i : ℕ) (h : Held) (t : Tunnel) → AreApart w.conns → parcel.to ≡ place.Tunnel tunnel actor
    → slice_get w.conns i ≡ Some h → find (has_tunnel tunnel) w.conns ≡ Some h → tunnel_of h.conn tunnel ≡ Some t
    → popped w parcel ≡ popped_to w i h (comes h.conn t (source_of parcel.from) parcel.n parcel.packet)
popped_comes w parcel tunnel actor i h t apart to at found live =
    by_kind (kind_of t.goal) refl ∙ ap (popped_to w i h) (sym (comes_from h.conn t parcel.from parcel.n parcel.packet)) where
      by_kind : (k : Kind) → kind_of t.goal ≡ k
          → popped w parcel ≡ popped_to w i h (comes_in h.conn (kind_of t.goal) t (source_of parcel.from) parcel.n parcel.packet)
      by_kind kind.Udp is =
          let none : tunnel_in w (place.Tunnel tunnel actor) ≡ None = rw (found, live, is) refl in
          popped_none w parcel (ap (tunnel_in w) to ∙ none)
          ∙ ap (λ (hs : List Held). (note.Dropped (source_of parcel.from) parcel.n cause.Gone, record w { conns = hs; next_seat = 2 })) (sym (set_itself w.conns i h at))
          ∙ ap (λ (k : Kind). popped_to w i h (comes_in h.conn k t (source_of parcel.from) parcel.n parcel.packet)) (sym is)
      by_kind kind.Ip is =
          let one : tunnel_in w (place.Tunnel tunnel actor) ≡ Some (h, t) = rw (found, live, is) refl in
          let d : Note × Conn = passed_on h.conn t (source_of parcel.from) parcel.n (onward parcel.packet) in
          popped_found w parcel h t (ap (tunnel_in w) to ∙ one)
          ∙ ap (λ (c : Note × Held). (c.0, record w { conns = replace h.conn.number (Some c.1) w.conns; next_seat = 2 })) (came_is h t parcel)
          ∙ ap (λ (hs : List Held). (d.0, record w { conns = hs; next_seat = 2 })) (replace_sets w.conns i h (brought h d) apart at)
          ∙ ap (λ (k : Kind). popped_to w i h (comes_in h.conn k t (source_of parcel.from) parcel.n parcel.packet)) (sym is)

-- ---- what its worker becomes

tunnel_some : (o : Option Tunnel) → true ≡ is_some o → (t : Tunnel) × (o ≡ Some t)
tunnel_some None live = absurd cc
tunnel_some (Some t) live = (t, refl)

module _ {L Q : Type 0} (most : Q → ℕ) (table : Slab Q) (hs gs : List (HeldBy L)) (w : Worker) (held : AreHeld most table hs w.conns) (apart : AreApart w.conns) where
  -- one of the connections became another, whose core alone changed
  pub record One (us : List Held) : Type 0 where
    pub place : ℕ
    pub was : HeldBy L
    pub now : HeldBy L
    pub h : Held
    pub c : Conn
    pub at_was : slice_get hs place ≡ Some was
    pub at_is : slice_get w.conns place ≡ Some h
    pub rest : now ≡ record was { conn = now.conn }
    pub brings : Brought h.conn c
    pub stands : IsHeld most table now (record h { conn = c })
    pub items : gs ≡ slice_set hs place now
    pub conns : us ≡ slice_set w.conns place (record h { conn = c })

  abbrev pub Becomes : List Held → Type 0
  Becomes us = ((gs ≡ hs) × (us ≡ w.conns)) ⊎ One us

  -- the packet came to its tunnel, or was dropped: that, and what became of the connections
  pub record Came (parcel : Parcel) (said : Note) : Type 0 where
    pub us : List Held
    pub popped_is : popped w parcel ≡ (said, record w { conns = us; next_seat = 2 })
    pub becomes : Becomes us

  missed : (parcel : Parcel) (said : Note) → popped w parcel ≡ (note.Dropped (source_of parcel.from) parcel.n cause.Gone, record w { next_seat = 2 }) → Misses parcel hs gs said
      → Came parcel said
  missed parcel said is m = record {
    us = w.conns;
    popped_is = is ∙ ap (λ (k : Note). (k, record w { next_seat = 2 })) (sym m.said_is);
    becomes = inl (m.conns, refl);
  }

  -- a connection of the worker has the tunnel where the one that stands for it has
  has_it : (tunnel : ℕ) (live : Bool) (i : ℕ) (u : Held) → slice_get w.conns i ≡ Some u → ((h : HeldBy L) → slice_get hs i ≡ Some h → IsLive h.conn tunnel live)
      → has_tunnel tunnel u ≡ live
  has_it tunnel live i u at is = let h = at_held most table hs w.conns i u held at in sym (is h.0 h.1 u.conn h.2.conn)

  came_first : (parcel : Parcel) (tunnel actor : ℕ) (said : Note) → parcel.to ≡ place.Tunnel tunnel actor → Comes tunnel parcel hs gs said → Came parcel said
  came_first parcel tunnel actor said to x =
      let u = held_at most table hs w.conns x.place x.was held x.first.at in
      let live = tunnel_some (tunnel_of u.0.conn tunnel) (x.first.has u.0.conn u.2.conn) in
      let d : Note × Conn = comes u.0.conn live.0 (source_of parcel.from) parcel.n parcel.packet in
      let D : Option Tunnel → Type 0 = λ o. (said ≡ (delivered u.0.conn o (source_of parcel.from) parcel.n parcel.packet).0)
      × IsConn x.now.conn (delivered u.0.conn o (source_of parcel.from) parcel.n parcel.packet).1 in
      let gave : (said ≡ d.0) × IsConn x.now.conn d.1 = subst D live.1 (x.delivers u.0.conn u.2.conn) in
      let found : find (has_tunnel tunnel) w.conns ≡ Some u.0 =
      find_first (has_tunnel tunnel) w.conns x.place u.0 u.1 (sym (x.first.has u.0.conn u.2.conn))
      (λ j less v at_v. has_it tunnel false j v at_v (λ h at_h. x.first.first j less h at_h)) in
      let brings = comes_brings u.0.conn live.0 (source_of parcel.from) parcel.n parcel.packet u.2.conn.lawful.settled in
      let H : HeldBy L → Type 0 = λ h. IsHeld most table h (record u.0 { conn = d.1 }) in
      record {
        us = slice_set w.conns x.place (record u.0 { conn = d.1 });
        popped_is = popped_comes w parcel tunnel actor x.place u.0 live.0 apart to u.1 found live.1
            ∙ ap (λ (k : Note). (k, record w { conns = slice_set w.conns x.place (record u.0 { conn = d.1 }); next_seat = 2 })) (sym gave.0);
        becomes = inr (record {
          place = x.place;
          was = x.was;
          now = x.now;
          h = u.0;
          c = d.1;
          at_was = x.first.at;
          at_is = u.1;
          rest = x.rest;
          brings = brings;
          stands = subst H (sym x.rest) (held_brought most table x.was x.now.conn u.0 d.1 u.2 gave.1 brings);
          items = x.conns;
          conns = refl;
        });
      }

  came_to_place : (to : Place) (parcel : Parcel) (said : Note) → parcel.to ≡ to → ComesTo to parcel hs gs said → Came parcel said
  came_to_place place.Net parcel said to misses = missed parcel said (popped_net w parcel to) misses
  came_to_place (place.Tunnel tunnel actor) parcel said to (inl (none, misses)) =
      missed parcel said
      (popped_missed w parcel tunnel actor to (find_none (has_tunnel tunnel) w.conns (λ i u at. has_it tunnel false i u at (λ h at_h. none i h at_h)))) misses
  came_to_place (place.Tunnel tunnel actor) parcel said to (inr comes) = came_first parcel tunnel actor said to comes

  pub came : (parcel : Parcel) (said : Note) → ComesTo parcel.to parcel hs gs said → Came parcel said
  came parcel said comes = came_to_place parcel.to parcel said refl comes

-- ---- where the connection at a place became one whose core alone changed

module _ {L : Type 0} (hs : List (HeldBy L)) (place : ℕ) (was now : HeldBy L) (at : slice_get hs place ≡ Some was) (rest : now ≡ record was { conn = now.conn }) where
  abbrev pub Like : HeldBy L → HeldBy L → Type 0
  Like a b = a ≡ record b { conn = a.conn }

  -- what stands there then is one that stood there, but for its core
  pub was_at : (i : ℕ) (a : HeldBy L) → slice_get (slice_set hs place now) i ≡ Some a → (b : HeldBy L) × (slice_get hs i ≡ Some b) × Like a b
  was_at i a at_a = by_place (cases_eq place i) where
    by_place : (place ≡ i) ⊎ (place ≡ i → ⊥) → (b : HeldBy L) × (slice_get hs i ≡ Some b) × Like a b
    by_place (inl here) =
        let set : slice_get (slice_set hs place now) i ≡ Some now = subst (λ (k : ℕ). slice_get (slice_set hs place now) k ≡ Some now) here (get_set_same hs place was now at) in
        let both : Some now ≡ Some a = sym set ∙ at_a in
        let e : now ≡ a = cc in
        let P : HeldBy L → Type 0 = λ x. Like x was in
        (was, subst (λ (k : ℕ). slice_get hs k ≡ Some was) here at, subst P e rest)
    by_place (inr ne) = (a, sym (get_set_other hs place i now ne) ∙ at_a, refl)

  -- and the other way round
  pub now_at : (i : ℕ) (b : HeldBy L) → slice_get hs i ≡ Some b → (a : HeldBy L) × (slice_get (slice_set hs place now) i ≡ Some a) × Like a b
  now_at i b at_b = by_place (cases_eq place i) where
    by_place : (place ≡ i) ⊎ (place ≡ i → ⊥) → (a : HeldBy L) × (slice_get (slice_set hs place now) i ≡ Some a) × Like a b
    by_place (inl here) =
        let set : slice_get (slice_set hs place now) i ≡ Some now = subst (λ (k : ℕ). slice_get (slice_set hs place now) k ≡ Some now) here (get_set_same hs place was now at) in
        let both : Some was ≡ Some b = sym (subst (λ (k : ℕ). slice_get hs k ≡ Some was) here at) ∙ at_b in
        let e : was ≡ b = cc in
        let P : HeldBy L → Type 0 = λ x. Like now x in
        (now, set, subst P e rest)
    by_place (inr ne) = (b, get_set_other hs place i now ne ∙ at_b, refl)

  -- they have ports of their own
  pub own_ports_like : HaveOwnPorts hs → HaveOwnPorts (slice_set hs place now)
  own_ports_like own = λ i j a b ne at_a at_b. by_like i j a b ne (was_at i a at_a) (was_at j b at_b) where
    Was : ℕ → HeldBy L → Type 0
    Was i a = (b : HeldBy L) × (slice_get hs i ≡ Some b) × Like a b

    by_like : (i j : ℕ) (a b : HeldBy L) → i ≢ j → Was i a → Was j b → AreOthers a b
    by_like i j a b ne (x, at_x, a_is) (y, at_y, b_is) =
        let o = own i j x y ne at_x at_y in
        let A : HeldBy L → Type 0 = λ z. AreOthers z b in
        let B : HeldBy L → Type 0 = λ z. AreOthers (record x { conn = a.conn }) z in
        subst A (sym a_is) (subst B (sym b_is) (record { seats = o.seats; bound = o.bound }))

  -- tunnels of their own
  pub own_tunnels_like : HaveOwnTunnels hs → HaveOwnTunnels (slice_set hs place now)
  own_tunnels_like own = λ i j a b g h x y at_g at_h at_x at_y same.
      let u = was_at i g at_g in
      let v = was_at j h at_h in
      let X : HeldBy L → Type 0 = λ z. slice_get z.ports.items a ≡ Some x in
      let Y : HeldBy L → Type 0 = λ z. slice_get z.ports.items b ≡ Some y in
      own i j a b u.0 v.0 x y u.1 v.1 (subst X u.2 at_x) (subst Y v.2 at_y) same

  pub number_like : now.number ≡ was.number
  number_like = ap (λ (z : HeldBy L). z.number) rest

-- who sees the one sees the other
pub seen_like : {L Q : Type 0} (words : Words L Q) (table : Slab Q) (o : Outside) (a b : HeldBy L) → a ≡ record b { conn = a.conn } → SeesConn words table a o → SeesConn words table b o
seen_like {L} words table o a b like sees =
    let P : HeldBy L → Type 0 = λ z. SeesConn words table z o in
    let s = subst P like sees in
    record { of_link = record { link_is = s.of_link.link_is; counts_are = s.of_link.counts_are }; of_ports = s.of_ports }
