-- What a receive of a connection meets: the port of a live tunnel.
use Rattle.std.proofs.Common.{◌≡◌, ◌≢◌, ◌⊎◌, inl, inr, ℕ, ◌<◌, ◌≤◌, Bool, true, false, ◌&&◌, ◌==◌, List, [], ◌∷◌, length, slice_get, slice_index_or, Option, Some, None, MatchOption, Bor, refl, sym, ap, subst, ◌∙◌}
use Rattle.std.specs.Prelude.{◌||◌, if◌then◌else◌}
use Rattle.std.specs.Option.{is_some, option_copied, IfSome}
use Rattle.std.specs.List.{HoldsAt}
use Rattle.std.proofs.lemmas.Option.{slice_get_read}
use Rattle.slab.specs.Slab.{Slab}
use Rattle.mq_outside.specs.Counts.{LinkCounts, PortCounts}
use Rattle.mq_outside.specs.Ports.{PortHolds}
use Rattle.mq_talk.specs.declared.book.Call.TheVariants as call
use Rattle.mq_talk.specs.declared.goal.Goal.{Goal}
use Rattle.mq_talk.specs.declared.goal.Goal.TheVariants as goal
use Rattle.mq_talk.specs.declared.note.End.{End}
use Rattle.mq_talk.specs.Mails.{IsTold}
use Rattle.mq_machine.specs.State.{Conn, Tunnel, Link, Held, Port, tunnel_of}
use Rattle.mq_machine.specs.Want.{Want, Nothing, Say, Bind, Ask, Judge, Push, Send, Over, want_of, want_by, ending_want, may_wait}
use Rattle.mq_machine.specs.Shared.{port_of}
use Rattle.mq_machine.specs.Turn.{Try, Receive, can_try, can_receive_on}
use Rattle.mq_machine.specs.Acting.{Outside, Rose, holding}
use Rattle.mq_conn.specs.Conns.{IsConn}
use Rattle.mq_conn.specs.declared.conn.Conn.{Conn as Core}
use Rattle.mq_held.specs.Ready.{may_give}
use Rattle.mq_held.specs.declared.held.Held.{Held as HeldBy}
use Rattle.mq_held.specs.declared.held.PortSeat.{PortSeat}
use Rattle.mq_step.specs.Holds.{IsPort, AreServed, IsApartFrom, IsBound, IsHeld}
use Rattle.mq_step.specs.Sights.{Found, SeesPorts, port_if, filled_port, idle, idle_link, idle_port, LinkGrows}
use Rattle.mq_step.specs.Whole.{SeesLink, link_if, filled, FaultsFit}
use Rattle.mq_step.specs.Gives.{ReceivesWait, first_of, receive_alone}
use Rattle.mq_step.proofs.Counting.{link_same}
use Rattle.mq_step.proofs.Filling.{FailsNot, none_fails, served_none, alive_served}
use Rattle.mq_step.proofs.Places.{seat_port, live_of, mine_or, port_first}
use Rattle.mq_step.proofs.Keeping.{NoOpens}
use Rattle.mq_step.proofs.Cores.{none_opens}
use Rattle.mq_step.proofs.Sending.{mine_seen, mine_filled, found_at, found_other}

-- ---- the seat at a place

pub copied_at : (r : Option (Bor PortSeat)) (y : PortSeat) (xs : List PortSeat) (place : ℕ) → Some y ≡ option_copied r → IfSome r (λ x. x.now ≡ slice_index_or xs place x.now)
    → MatchOption r (length xs ≤ place) (λ x. (place < length xs) × HoldsAt (λ z. x.now ≡ z) xs place) → slice_get xs place ≡ Some y
copied_at None y xs place e is m = absurd cc
copied_at (Some x) y xs place e is m = let same : y ≡ x.now = cc in slice_get_read xs (length xs) place x.now refl m.0 is ∙ ap {B = Option PortSeat} (λ (z : PortSeat). Some z) (sym same)

pub same_seat : (xs : List PortSeat) (place : ℕ) (a b : PortSeat) → slice_get xs place ≡ Some a → slice_get xs place ≡ Some b → a ≡ b
same_seat xs place a b x y = let e : Some a ≡ Some b = sym x ∙ y in cc

-- ---- a connection that waits

-- it opens nothing
waits_opens_not : (w : Want) → may_wait w ≡ true → (conn id actor : ℕ) (goal : Goal) → w ≡ Ask (call.Open conn id actor goal) → ⊥
waits_opens_not w wait conn id actor goal is = let e : true ≡ false = sym wait ∙ ap may_wait is in cc

pub waits_opens : (c : Core) (s : Conn) → IsConn c s → may_wait (want_of s) ≡ true → NoOpens s.due
waits_opens c s is wait = none_opens c s is (λ conn id actor addr port want. waits_opens_not (want_of s) wait conn id actor (goal.Udp addr port) want)

-- so no port is bound
pub waits_bound : {Q : Type 0} (most : Q → ℕ) (table : Slab Q) (seats : List PortSeat) (w : Want) (bound : Option ℕ) → may_wait w ≡ true → IsBound most table seats w bound → bound ≡ None
waits_bound most table seats Nothing bound wait is = is
waits_bound most table seats Say bound wait is = absurd cc
waits_bound most table seats (Bind id goal) bound wait is = absurd cc
waits_bound most table seats (Ask asked) bound wait is = absurd cc
waits_bound most table seats (Judge tunnel n flow) bound wait is = absurd cc
waits_bound most table seats (Push parcel) bound wait is = absurd cc
waits_bound most table seats (Send tunnel n payload) bound wait is = is
waits_bound most table seats (Over why) bound wait is = absurd cc

-- with a port it isn't ending
ending_by : (s : Conn) (why : End) (ts : List Tunnel) → s.tunnels ≡ ts → may_wait (ending_want s why ts) ≡ true → s.tunnels ≡ []
ending_by s why [] is wait = is
ending_by s why (t ∷ ts) is wait = absurd cc

pub alive_by : (s : Conn) (e : Option End) → s.ending ≡ e → may_wait (want_by s e) ≡ true → (s.ending ≡ None) ⊎ (s.tunnels ≡ [])
alive_by s None is wait = inl is
alive_by s (Some why) is wait = inr (ending_by s why s.tunnels refl wait)

pub alive_with : (s : Held) (place : ℕ) (p : Port) → AreServed s.conn.ending s.conn.tunnels s.ports → slice_get s.ports place ≡ Some p → may_wait (want_of s.conn) ≡ true → s.conn.ending ≡ None
alive_with s place p served at wait = by_case (alive_by s.conn s.conn.ending refl wait) where
  by_case : (s.conn.ending ≡ None) ⊎ (s.conn.tunnels ≡ []) → s.conn.ending ≡ None
  by_case (inl alive) = alive
  by_case (inr none) =
      let P : List Port → Type 0 = λ ps. slice_get ps place ≡ Some p in
      let there : slice_get [] place ≡ Some p = subst P (served_none s.conn.ending s.conn.tunnels s.ports none served) at in absurd cc

-- ---- the port of a seat

-- the seat has a port, and that a live tunnel
pub record Live {L Q : Type 0} (most : Q → ℕ) (holds : Q → Option PortHolds) (counts : Q → PortCounts) (table : Slab Q) (h : HeldBy L) (o : Outside) (s : Held) (seat : PortSeat) : Type 0 where
  pub held : IsHeld most table h s
  pub wait : may_wait (want_of s.conn) ≡ true
  pub place : ℕ
  pub here : slice_get h.ports.items place ≡ Some seat
  pub t : Tunnel
  pub found : tunnel_of s.conn seat.tunnel ≡ Some t
  pub id : t.id ≡ seat.tunnel
  pub alive : s.conn.ending ≡ None
  pub p : Port
  pub at_port : slice_get s.ports place ≡ Some p
  pub of_port : p.tunnel ≡ seat.tunnel
  pub is : IsPort most table seat p
  pub sees : (o.port seat.tunnel ≡ holds is.port) × (o.port_counts seat.tunnel ≡ counts is.port)

pub live : {L Q : Type 0} (most : Q → ℕ) (holds : Q → Option PortHolds) (counts : Q → PortCounts) (table : Slab Q) (h : HeldBy L) (o : Outside) (s : Held) (seat : PortSeat) (place : ℕ)
    → IsHeld most table h s → may_wait (want_of s.conn) ≡ true → SeesPorts holds counts table o h.ports.items → slice_get h.ports.items place ≡ Some seat
    → Live most holds counts table h o s seat
live {L} {Q} most holds counts table h o s seat place held wait so at =
    let p = seat_port most table h.ports.items s.ports held.ports place seat at in
    let alive = alive_with s place p.0 held.served p.1 wait in
    let t = live_of s.ports s.conn.tunnels place p.0 (alive_served s.conn.ending s.conn.tunnels s.ports alive held.served) p.1 in
    let P : ℕ → Type 0 = λ i. tunnel_of s.conn i ≡ Some t.0 in
    record {
      held = held;
      wait = wait;
      place = place;
      here = at;
      t = t.0;
      found = subst P p.2.tunnel t.1;
      id = t.2 ∙ p.2.tunnel;
      alive = alive;
      p = p.0;
      at_port = p.1;
      of_port = p.2.tunnel;
      is = p.2;
      sees = mine_seen holds counts table o h.ports.items place seat seat.tunnel p.2.port at refl p.2.at so;
    }

-- ---- what was found

-- where nothing is told, nothing was sent, and nothing read or written, and no other port gives something
pub receives_wait : (tunnel : ℕ) (holds : PortHolds) → holds.send_fails ≡ false → holds.send_waits ≡ true → ReceivesWait tunnel (found_at tunnel holds)
receives_wait tunnel holds works full = record {
  reads = record { writes = record { sends = sends; works = refl; room = refl }; works = refl; pieces = refl; not_ended = refl };
  others = λ other ne. let e = found_other tunnel other holds ne in (ap (λ (x : PortHolds). x.receive_fails) e, ap (λ (x : PortHolds). x.arrived) e);
} where
  sends : (other : ℕ) → (((found_at tunnel holds).port other).send_fails ≡ false) × (((found_at tunnel holds).port other).send_waits ≡ true)
  sends other = by_case (other == tunnel) where
    by_case : (b : Bool) → ((if b then holds else idle_port).send_fails ≡ false) × ((if b then holds else idle_port).send_waits ≡ true)
    by_case true = (works, full)
    by_case false = (refl, refl)

-- nothing of it fails
pub found_works : (tunnel : ℕ) (holds : PortHolds) → holds.send_fails ≡ false → holds.receive_fails ≡ false → FailsNot (found_at tunnel holds)
found_works tunnel holds sends receives = record { sends = sent; receives = received } where
  sent : (other : ℕ) → ((found_at tunnel holds).port other).send_fails ≡ false
  sent other = by_case (other == tunnel) where
    by_case : (b : Bool) → (if b then holds else idle_port).send_fails ≡ false
    by_case true = sends
    by_case false = refl

  received : (other : ℕ) → ((found_at tunnel holds).port other).receive_fails ≡ false
  received other = by_case (other == tunnel) where
    by_case : (b : Bool) → (if b then holds else idle_port).receive_fails ≡ false
    by_case true = receives
    by_case false = refl

module _ {L Q : Type 0} (most : Q → ℕ) (holds : Q → Option PortHolds) (counts : Q → PortCounts) (table : Slab Q) (h : HeldBy L) (o : Outside) (s : Held) (seat : PortSeat) where
  -- what its port holds, with this where nothing is told
  abbrev pub held_then : Live most holds counts table h o s seat → PortHolds → PortHolds
  held_then x found = port_if (holds x.is.port) found

  pub filled_one : (x : Live most holds counts table h o s seat) (f : Found) → filled_port o f x.p ≡ holding (held_then x (f.port seat.tunnel)) x.p
  filled_one x f = mine_filled o f x.p seat.tunnel (holds x.is.port) (f.port seat.tunnel) x.of_port x.sees.0 refl

  pub port_is : (x : Live most holds counts table h o s seat) (f : Found) → port_of (filled o f s).ports seat.tunnel ≡ Some (holding (held_then x (f.port seat.tunnel)) x.p)
  port_is x f =
      ap (λ (i : ℕ). port_of (filled o f s).ports i) (sym x.of_port)
      ∙ port_first most table (filled_port o f) h.ports.items s.ports x.place seat x.p (λ q. refl) x.held.apart x.held.ports x.here x.at_port
      ∙ ap {B = Option Port} (λ (q : Port). Some q) (filled_one x f)

  pub tunnel_is : (x : Live most holds counts table h o s seat) → tunnel_of s.conn seat.tunnel ≡ Some x.t
  tunnel_is x = x.found

  -- each port of the connection is that of the seat, or another
  pub which : (x : Live most holds counts table h o s seat) (i : ℕ) (y : PortSeat) (q : Port) → slice_get h.ports.items i ≡ Some y → slice_get s.ports i ≡ Some q → IsPort most table y q
      → ((i ≡ x.place) × (y ≡ seat) × (q ≡ x.p)) ⊎ (IsApartFrom seat y × (q.tunnel ≢ seat.tunnel))
  which x i y q at_y at_q is =
      mine_or most table h.ports.items s.ports seat.tunnel
      (record { place = x.place; seat = seat; p = x.p; at_seat = x.here; at_port = x.at_port; of_seat = refl; of_port = x.of_port; is = x.is }) x.held.apart i y q at_y at_q is

  -- it can be received on exactly where that gives a datagram, or fails
  pub can_is : (x : Live most holds counts table h o s seat) (f : Found) → can_try (filled o f s) (Receive seat.tunnel) ≡ may_give (held_then x (f.port seat.tunnel))
  can_is x f =
      let g : Bool = may_give (held_then x (f.port seat.tunnel)) in
      ap (λ (p : Option Port). can_receive_on s.conn p) (port_is x f)
      ∙ ap (λ (i : ℕ). is_some (tunnel_of s.conn i) && g) x.of_port
      ∙ ap (λ (t : Option Tunnel). is_some t && g) (tunnel_is x)

  pub first_is : (x : Live most holds counts table h o s seat) (f : Found) (b : Bool) → may_give (held_then x (f.port seat.tunnel)) ≡ b
      → first_of (receive_alone seat.tunnel) (filled o f s) ≡ (if b then Some (Receive seat.tunnel) else None)
  first_is x f b is = ap {B = Option Try} (λ (c : Bool). if c then Some (Receive seat.tunnel) else None) (can_is x f ∙ is)

-- ---- its link

-- the outside tells of its link what it told
pub record LinkStays (o n : Outside) (number : ℕ) : Type 0 where
  pub link : n.link number ≡ o.link number
  pub counts : n.link_counts number ≡ o.link_counts number

pub link_stays : {L : Type 0} (holds : L → Option Link) (counts : L → LinkCounts) (h g : HeldBy L) (o n : Outside) → g.number ≡ h.number → g.link ≡ h.link → SeesLink holds counts h o → SeesLink holds counts g n
    → LinkStays o n h.number
link_stays holds counts h g o n number link so sn = record {
  link = ap n.link (sym number) ∙ sn.link_is ∙ ap holds link ∙ sym so.link_is;
  counts = ap n.link_counts (sym number) ∙ sn.counts_are ∙ ap counts link ∙ sym so.counts_are;
}

link_told_if : (told : Option Link) (found : Link) → IsTold told (link_if told found)
link_told_if None found = tt
link_told_if (Some link) found = refl

-- it holds what is told of it, behind a step that leaves it as it was found
pub link_told : (o n : Outside) (number was is : ℕ) → LinkStays o n number → was ≡ number → is ≡ number → IsTold (n.link is) (link_if (o.link was) idle_link)
link_told o n number was is stays before after =
    let P : Option Link → Type 0 = λ told. IsTold told (link_if (o.link was) idle_link) in
    subst P (sym (ap n.link after ∙ stays.link ∙ ap o.link (sym before))) (link_told_if (o.link was) idle_link)

pub link_grows : (o n : Outside) (number was : ℕ) → LinkStays o n number → was ≡ number → LinkGrows (o.link_counts was) (n.link_counts was)
link_grows o n number was stays before =
    let P : ℕ → Type 0 = λ i. LinkGrows (o.link_counts i) (n.link_counts i) in
    subst P (sym before) (link_same (o.link_counts number) (n.link_counts number) stays.counts)

-- where nothing is told of it, it doesn't fail
pub link_fits : (told : Option Link) (F : Type 0) → told ≡ None → (link_if told idle_link).read_fails || (link_if told idle_link).write_fails ≡ true → F
link_fits None F none fails = absurd cc
link_fits (Some link) F none fails = absurd cc

-- neither do ports that were found so
pub none_faults : (o n : Outside) (s : Held) (tunnel : ℕ) (holds : PortHolds) → holds.send_fails ≡ false → holds.receive_fails ≡ false → FaultsFit o n (filled o (found_at tunnel holds) s)
none_faults o n s tunnel holds sends receives = record {
  link = link_fits (o.link s.conn.number) (Rose (o.link_counts s.conn.number).faults (n.link_counts s.conn.number).faults);
  ports = none_fails o n (found_at tunnel holds) s.ports (found_works tunnel holds sends receives);
}

pub idle_faults : (o n : Outside) (s : Held) → FaultsFit o n (filled o idle s)
idle_faults o n s = record {
  link = link_fits (o.link s.conn.number) (Rose (o.link_counts s.conn.number).faults (n.link_counts s.conn.number).faults);
  ports = none_fails o n idle s.ports (record { sends = λ tunnel. refl; receives = λ tunnel. refl });
}
