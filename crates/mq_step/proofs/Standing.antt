-- For which state a connection stands behind an answer.
use Rattle.std.proofs.Common.{◌≡◌, ◌≢◌, ℕ, ◌<◌, List, [], Option, None, MatchOption, refl, sym, ap, subst}
use Rattle.std.specs.Prelude.{⊤}
use Rattle.std.specs.Vec.{vec_len, vec_capacity}
use Rattle.slab.specs.Slab.{Slab}
use Rattle.mq_talk.specs.declared.book.Call.{Call}
use Rattle.mq_talk.specs.declared.book.Call.TheVariants as call
use Rattle.mq_talk.specs.declared.goal.Goal.TheVariants as goal
use Rattle.mq_addr.specs.declared.addr.Addr.{Addr}
use Rattle.std.proofs.lemmas.List.Elements.{All-nil}
use Rattle.mq_talk.specs.Offices.{IsSound, Seen}
use Rattle.mq_machine.specs.Acting.{IsOpen}
use Rattle.mq_machine.specs.State.{Conn, Tunnel, Held, new_conn, new_link}
use Rattle.mq_machine.specs.Want.{Want, Nothing, Say, Bind, Ask, Judge, Push, Send, Over, want_of}
use Rattle.mq_conn.specs.Conns.{IsConn}
use Rattle.mq_held.specs.declared.held.Held.{Held as HeldBy}
use Rattle.mq_held.specs.declared.held.PortSeat.{PortSeat}
use Rattle.mq_step.specs.Holds.{ArePorts, AreServed, SeatsApart, IsBound, HasRoom, IsHeld, IsKnown}
use Rattle.mq_step.proofs.Keeping.{NoOpens, no_open, no_opens_nil}

-- a call that opens nothing
abbrev pub IsNoOpening : Call → Type 0
IsNoOpening (call.Open conn stream actor goal) = ⊥
IsNoOpening (call.Assign tunnel asked) = ⊤
IsNoOpening (call.Advertise tunnel ranges) = ⊤
IsNoOpening (call.Close tunnel) = ⊤

-- where no opening of a tunnel for UDP is wanted, no port is bound
none_asked : {Q : Type 0} (most : Q → ℕ) (table : Slab Q) (seats : List PortSeat) (c : Call) → ((conn id actor : ℕ) (addr : Addr) (port : ℕ) → c ≢ call.Open conn id actor (goal.Udp addr port))
    → IsBound most table seats (Ask c) None
none_asked most table seats (call.Open conn id actor (goal.Udp addr port)) not = absurd (not conn id actor addr port refl)
none_asked most table seats (call.Open conn id actor (goal.Ip area protocol)) not = refl
none_asked most table seats (call.Assign tunnel asked) not = refl
none_asked most table seats (call.Advertise tunnel ranges) not = refl
none_asked most table seats (call.Close tunnel) not = refl

none_wanted : {Q : Type 0} (most : Q → ℕ) (table : Slab Q) (seats : List PortSeat) (w : Want) → ((conn id actor : ℕ) (addr : Addr) (port : ℕ) → w ≢ Ask (call.Open conn id actor (goal.Udp addr port)))
    → IsBound most table seats w None
none_wanted most table seats Nothing not = refl
none_wanted most table seats Say not = refl
none_wanted most table seats (Bind stream goal) not = refl
none_wanted most table seats (Ask c) not = none_asked most table seats c (λ conn id actor addr port is. not conn id actor addr port (ap Ask is))
none_wanted most table seats (Judge tunnel n flow) not = refl
none_wanted most table seats (Push parcel) not = refl
none_wanted most table seats (Send tunnel n payload) not = refl
none_wanted most table seats (Over why) not = refl

pub unbound : {Q : Type 0} (most : Q → ℕ) (table : Slab Q) (seats : List PortSeat) (c : Conn) (bound : Option ℕ) → NoOpens c.due → bound ≡ None → IsBound most table seats (want_of c) bound
unbound most table seats c bound none is =
    let P : Option ℕ → Type 0 = λ b. IsBound most table seats (want_of c) b in
    subst P (sym is) (none_wanted most table seats (want_of c) (λ conn id actor addr port want. no_open c conn id actor addr port none want))

none_room : {L : Type 0} (h : HeldBy L) → h.bound ≡ None → HasRoom h
none_room h is = let P : Option ℕ → Type 0 = λ b. MatchOption b ⊤ (λ key. vec_len h.ports < vec_capacity h.ports) in subst P (sym is) tt

-- the same seats are apart
pub same_apart : (seats after : List PortSeat) → after ≡ seats → SeatsApart seats → SeatsApart after
same_apart seats after is apart = subst SeatsApart (sym is) apart

-- it stands for a state in which no such opening is due
pub stands : {L Q : Type 0} (most : Q → ℕ) (table : Slab Q) (h : HeldBy L) (t : Held) → IsConn h.conn t.conn → t.conn.number ≡ h.number → ArePorts most table h.ports.items t.ports
    → SeatsApart h.ports.items → AreServed t.conn.ending t.conn.tunnels t.ports → NoOpens t.conn.due → h.bound ≡ None → IsHeld most table h t
stands most table h t conn number ports apart served opens bound = record {
  conn = conn;
  number = number;
  ports = ports;
  apart = apart;
  served = served;
  bound = unbound most table h.ports.items t.conn h.bound opens bound;
  room = none_room h bound;
}

-- ---- which port is bound, by what is wanted

pub bound_none : {Q : Type 0} (most : Q → ℕ) (table : Slab Q) (seats : List PortSeat) (w v : Want) (bound : Option ℕ) → IsBound most table seats w bound → w ≡ v
    → IsBound most table seats v bound
bound_none most table seats w v bound is same = let P : Want → Type 0 = λ x. IsBound most table seats x bound in subst P same is

-- ---- a connection of which nothing was read

pub new_stands : {L Q : Type 0} (most : Q → ℕ) (table : Slab Q) (h : HeldBy L) (number actor : ℕ) → IsConn h.conn (new_conn number actor) → h.number ≡ number → h.ports.items ≡ [] → h.bound ≡ None
    → IsHeld most table h (record { conn = new_conn number actor; link = new_link; ports = [] })
new_stands most table h number actor conn same seats bound =
    let A : List PortSeat → Type 0 = λ xs. ArePorts most table xs [] in
    stands most table h (record { conn = new_conn number actor; link = new_link; ports = [] }) conn (sym same) (subst A (sym seats) tt) (same_apart [] h.ports.items seats tt) refl no_opens_nil bound

pub new_known : (seen : Seen) (actor number : ℕ) → IsSound seen → actor < seen.config.workers → IsKnown seen actor (record { conn = new_conn number actor; link = new_link; ports = [] })
new_known seen actor number sound worker = record {
  sound = sound;
  worker = worker;
  actor_is = refl;
  tunnels = All-nil (λ (t : Tunnel). IsOpen seen.entries actor t.id number t.stream t.goal);
  places = tt;
}
