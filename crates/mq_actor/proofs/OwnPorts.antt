-- The ports of a ring's connections, behind the step of one of them.
use Rattle.std.proofs.Common.{◌≡◌, ◌≢◌, ◌⊎◌, inl, inr, ℕ, zero, suc, ◌<◌, ◌≤◌, List, [], ◌∷◌, length, remove, get_or, slice_get, slice_set}
use Rattle.std.proofs.Common.{Option, Some, None, MatchOption, refl, sym, ap, subst, ◌∙◌, arith}
use Rattle.std.specs.Prelude.{⊤}
use Rattle.std.proofs.lemmas.Bool.{cases_eq}
use Rattle.slab.specs.Slab.{Slab, get}
use Rattle.mq_outside.specs.Ports.{limit_of}
use Rattle.mq_talk.specs.declared.book.Call.{Call}
use Rattle.mq_talk.specs.declared.book.Call.TheVariants as call
use Rattle.mq_talk.specs.declared.goal.Goal.TheVariants as goal
use Rattle.mq_machine.specs.State.{Port, Held}
use Rattle.mq_machine.specs.Acting.{Outside}
use Rattle.mq_machine.specs.Want.{Want, Nothing, Say, Bind, Ask, Judge, Push, Send, Over, want_of}
use Rattle.mq_held.specs.declared.held.Held.{Held as HeldBy}
use Rattle.mq_held.specs.declared.held.PortSeat.{PortSeat}
use Rattle.mq_step.specs.Holds.{ArePorts, IsReady, IsBound, IsHeld, KeepsOthers, IsOther}
use Rattle.mq_step.specs.Sights.{SeesPort}
use Rattle.mq_actor.specs.Holds.{AreHeld, AreOthers, HaveOwnPorts}
use Rattle.mq_actor.specs.Seen.{Words, SeesConn}
use Rattle.mq_actor.specs.Passing.{PortsStay}
use Rattle.mq_actor.proofs.Helds.{held_at}
use Rattle.mq_actor.proofs.InRing.{all_at, at_all}
use Rattle.mq_actor.proofs.Lists.{get_set_same, get_set_other, get_removed}

-- ---- by places

-- what indexing gave stands at the place
pub at_index : {A : Type 0} (xs : List A) (i : ℕ) (x : A) → i < length xs → x ≡ get_or xs i x → slice_get xs i ≡ Some x
at_index [] i x less is = absurd (omega (arith, less))
at_index {A} (y ∷ xs) zero x less is = ap {B = Option A} (λ (z : A). Some z) (sym is)
at_index (y ∷ xs) (suc i) x less is = let below : i < length xs = omega (arith, less) in at_index xs i x below is

-- ---- the keys of a connection

matched : (bound : Option ℕ) (F : ℕ → Type 0) → ((key : ℕ) → bound ≡ Some key → F key) → MatchOption bound ⊤ F
matched None F each = tt
matched (Some key) F each = each key refl

of_match : (bound : Option ℕ) (F : ℕ → Type 0) → MatchOption bound ⊤ F → (key : ℕ) → bound ≡ Some key → F key
of_match bound F is key same = let P : Option ℕ → Type 0 = λ o. MatchOption o ⊤ F in subst P same is

-- one of its seats has this key
abbrev pub HasSeat : {L : Type 0} → HeldBy L → ℕ → Type 0
HasSeat h key = (i : ℕ) × (seat : PortSeat) × (slice_get h.ports.items i ≡ Some seat) × (seat.key ≡ key)

-- this is a key of the connection
abbrev pub IsKey : {L : Type 0} → HeldBy L → ℕ → Type 0
IsKey h key = HasSeat h key ⊎ (h.bound ≡ Some key)

other_not : {L : Type 0} (h : HeldBy L) (key : ℕ) → IsOther h.ports.items h.bound key → IsKey h key → ⊥
other_not h key is (inl (i, seat, at, same)) = at_all (λ (x : PortSeat). x.key ≢ key) h.ports.items is.seats_are i seat at same
other_not h key is (inr bound) = is.bound_is bound

not_other : {L : Type 0} (h : HeldBy L) (key : ℕ) → (IsKey h key → ⊥) → IsOther h.ports.items h.bound key
not_other h key not_so = record {
  seats_are = all_at (λ (x : PortSeat). x.key ≢ key) h.ports.items (λ i seat at same. not_so (inl (i, seat, at, same)));
  bound_is = λ bound. not_so (inr bound);
}

-- no key of b is one of a's
pub others_key : {L : Type 0} (a b : HeldBy L) → AreOthers a b → (key : ℕ) → IsKey b key → IsOther a.ports.items a.bound key
others_key {L} a b are key (inl (i, seat, at, same)) =
    let P : ℕ → Type 0 = λ k. IsOther a.ports.items a.bound k in
    subst P same (at_all (λ (x : PortSeat). IsOther a.ports.items a.bound x.key) b.ports.items are.seats i seat at)
others_key a b are key (inr bound) = of_match b.bound (λ k. IsOther a.ports.items a.bound k) are.bound key bound

-- and the other way round
pub key_others : {L : Type 0} (a b : HeldBy L) → ((key : ℕ) → IsKey b key → IsOther a.ports.items a.bound key) → AreOthers a b
key_others a b each = record {
  seats = all_at (λ (x : PortSeat). IsOther a.ports.items a.bound x.key) b.ports.items (λ i seat at. each seat.key (inl (i, seat, at, refl)));
  bound = matched b.bound (λ k. IsOther a.ports.items a.bound k) (λ key bound. each key (inr bound));
}

-- no key of one is a key of the other
pub others_swap : {L : Type 0} (a b : HeldBy L) → AreOthers a b → AreOthers b a
others_swap a b are = key_others b a (λ key of_a. not_other b key (λ of_b. other_not a key (others_key a b are key of_b) of_a))

-- ---- the ports of a connection stand

abbrev Stands : {Q : Type 0} → Slab Q → ℕ → Type 0
Stands {Q} table key = (port : Q) × (get table key ≡ Some port)

seat_stands : {Q : Type 0} (most : Q → ℕ) (table : Slab Q) (seats : List PortSeat) (ports : List Port) → ArePorts most table seats ports
    → (i : ℕ) (seat : PortSeat) → slice_get seats i ≡ Some seat → Stands table seat.key
seat_stands most table [] ports are i seat at = absurd cc
seat_stands most table (x ∷ seats) [] are i seat at = absurd are
seat_stands most table (x ∷ seats) (p ∷ ports) are zero seat at =
    let e : x ≡ seat = cc in
    let P : PortSeat → Type 0 = λ y. Stands table y.key in
    subst P e (are.0.port, are.0.at)
seat_stands most table (x ∷ seats) (p ∷ ports) are (suc i) seat at = seat_stands most table seats ports are.1 i seat at

bound_asked : {Q : Type 0} (most : Q → ℕ) (table : Slab Q) (seats : List PortSeat) (asked : Call) (key : ℕ)
    → IsBound most table seats (Ask asked) (Some key) → Stands table key
bound_asked most table seats (call.Open conn stream actor (goal.Udp addr number)) key is = (is.port, is.at)
bound_asked most table seats (call.Open conn stream actor (goal.Ip area protocol)) key is = absurd cc
bound_asked most table seats (call.Assign tunnel asked) key is = absurd cc
bound_asked most table seats (call.Advertise tunnel ranges) key is = absurd cc
bound_asked most table seats (call.Close tunnel) key is = absurd cc

bound_stands : {Q : Type 0} (most : Q → ℕ) (table : Slab Q) (seats : List PortSeat) (w : Want) (key : ℕ)
    → IsBound most table seats w (Some key) → Stands table key
bound_stands most table seats Nothing key is = absurd cc
bound_stands most table seats Say key is = absurd cc
bound_stands most table seats (Bind stream goal) key is = absurd cc
bound_stands most table seats (Ask asked) key is = bound_asked most table seats asked key is
bound_stands most table seats (Judge tunnel n flow) key is = absurd cc
bound_stands most table seats (Push parcel) key is = absurd cc
bound_stands most table seats (Send tunnel n payload) key is = absurd cc
bound_stands most table seats (Over why) key is = absurd cc

-- under each of its keys stands a port
pub key_stands : {L Q : Type 0} (most : Q → ℕ) (table : Slab Q) (h : HeldBy L) (s : Held) → IsHeld most table h s → (key : ℕ) → IsKey h key
    → (port : Q) × (get table key ≡ Some port)
key_stands {L} {Q} most table h s held key (inl (i, seat, at, same)) =
    let P : ℕ → Type 0 = λ k. Stands table k in
    subst P same (seat_stands most table h.ports.items s.ports held.ports i seat at)
key_stands most table h s held key (inr bound) =
    let P : Option ℕ → Type 0 = λ o. IsBound most table h.ports.items (want_of s.conn) o in
    bound_stands most table h.ports.items (want_of s.conn) key (subst P bound held.bound)

-- ---- ports that stay

-- under each of its keys stands what stood there
pub keys_stay : {L Q : Type 0} (table after : Slab Q) (h : HeldBy L) → ((key : ℕ) → IsKey h key → get after key ≡ get table key) → PortsStay table after h
keys_stay table after h each = record {
  seats = all_at (λ (seat : PortSeat). get after seat.key ≡ get table seat.key) h.ports.items (λ i seat at. each seat.key (inl (i, seat, at, refl)));
  bound = matched h.bound (λ key. get after key ≡ get table key) (λ key bound. each key (inr bound));
}

-- and the other way round
pub stay_keys : {L Q : Type 0} (table after : Slab Q) (h : HeldBy L) → PortsStay table after h → (key : ℕ) → IsKey h key → get after key ≡ get table key
stay_keys {L} {Q} table after h stay key (inl (i, seat, at, same)) =
    let P : ℕ → Type 0 = λ k. get after k ≡ get table k in
    subst P same (at_all (λ (x : PortSeat). get after x.key ≡ get table x.key) h.ports.items stay.seats i seat at)
stay_keys table after h stay key (inr bound) = of_match h.bound (λ k. get after k ≡ get table k) stay.bound key bound

-- nothing changed
pub all_stay : {L Q : Type 0} (table : Slab Q) (h : HeldBy L) → PortsStay table table h
all_stay table h = keys_stay table table h (λ key is. refl)

-- they stay twice
pub stay_twice : {L Q : Type 0} (table mid after : Slab Q) (h : HeldBy L) → PortsStay table mid h → PortsStay mid after h → PortsStay table after h
stay_twice table mid after h one two = keys_stay table after h (λ key is. stay_keys mid after h two key is ∙ stay_keys table mid h one key is)

-- seen from behind
pub stay_back : {L Q : Type 0} (table after : Slab Q) (h : HeldBy L) → PortsStay table after h → PortsStay after table h
stay_back table after h stay = keys_stay after table h (λ key is. sym (stay_keys table after h stay key is))

seats_held : {Q : Type 0} (most : Q → ℕ) (table after : Slab Q) (seats : List PortSeat) (ports : List Port)
    → ((i : ℕ) (seat : PortSeat) → slice_get seats i ≡ Some seat → get after seat.key ≡ get table seat.key) → ArePorts most table seats ports
    → ArePorts most after seats ports
seats_held most table after [] [] each are = tt
seats_held most table after [] (p ∷ ports) each are = absurd are
seats_held most table after (x ∷ seats) [] each are = absurd are
seats_held most table after (x ∷ seats) (p ∷ ports) each are = (
  record {
    tunnel = are.0.tunnel;
    received = are.0.received;
    port = are.0.port;
    at = each 0 x refl ∙ are.0.at;
    limit = are.0.limit;
    small = are.0.small;
  },
  seats_held most table after seats ports (λ i seat at. each (suc i) seat at) are.1,
)

ready_stays : {Q : Type 0} (most : Q → ℕ) (table after : Slab Q) (limit key : ℕ) (seats : List PortSeat) → get after key ≡ get table key
    → IsReady most table limit key seats → IsReady most after limit key seats
ready_stays most table after limit key seats same is = record { port = is.port; at = same ∙ is.at; limit_is = is.limit_is; apart = is.apart }

asked_stays : {Q : Type 0} (most : Q → ℕ) (table after : Slab Q) (seats : List PortSeat) (asked : Call) (bound : Option ℕ)
    → ((key : ℕ) → bound ≡ Some key → get after key ≡ get table key) → IsBound most table seats (Ask asked) bound → IsBound most after seats (Ask asked) bound
asked_stays most table after seats (call.Open conn stream actor (goal.Udp addr number)) (Some key) each is =
    ready_stays most table after (limit_of addr) key seats (each key refl) is
asked_stays most table after seats (call.Open conn stream actor (goal.Udp addr number)) None each is = absurd is
asked_stays most table after seats (call.Open conn stream actor (goal.Ip area protocol)) bound each is = is
asked_stays most table after seats (call.Assign tunnel asked) bound each is = is
asked_stays most table after seats (call.Advertise tunnel ranges) bound each is = is
asked_stays most table after seats (call.Close tunnel) bound each is = is

bound_stays : {Q : Type 0} (most : Q → ℕ) (table after : Slab Q) (seats : List PortSeat) (w : Want) (bound : Option ℕ)
    → ((key : ℕ) → bound ≡ Some key → get after key ≡ get table key) → IsBound most table seats w bound → IsBound most after seats w bound
bound_stays most table after seats Nothing bound each is = is
bound_stays most table after seats Say bound each is = is
bound_stays most table after seats (Bind stream goal) bound each is = is
bound_stays most table after seats (Ask asked) bound each is = asked_stays most table after seats asked bound each is
bound_stays most table after seats (Judge tunnel n flow) bound each is = is
bound_stays most table after seats (Push parcel) bound each is = is
bound_stays most table after seats (Send tunnel n payload) bound each is = is
bound_stays most table after seats (Over why) bound each is = is

-- a connection whose ports stay stands for what it stood for
pub stay_held : {L Q : Type 0} (most : Q → ℕ) (table after : Slab Q) (h : HeldBy L) (s : Held) → PortsStay table after h → IsHeld most table h s
    → IsHeld most after h s
stay_held most table after h s stay held = record {
  conn = held.conn;
  number = held.number;
  ports = seats_held most table after h.ports.items s.ports (λ i seat at. stay_keys table after h stay seat.key (inl (i, seat, at, refl))) held.ports;
  apart = held.apart;
  served = held.served;
  bound = bound_stays most table after h.ports.items (want_of s.conn) h.bound (λ key bound. stay_keys table after h stay key (inr bound)) held.bound;
  room = held.room;
}

-- and who sees it sees it
pub stay_seen : {L Q : Type 0} (words : Words L Q) (table after : Slab Q) (h : HeldBy L) (o : Outside) → PortsStay table after h → SeesConn words table h o
    → SeesConn words after h o
stay_seen words table after h o stay sees = record {
  of_link = sees.of_link;
  of_ports = all_at (SeesPort words.port words.port_counts after o) h.ports.items
      (λ i seat at port there. at_all (SeesPort words.port words.port_counts table o) h.ports.items sees.of_ports i seat at port
      (sym (stay_keys table after h stay seat.key (inl (i, seat, at, refl))) ∙ there));
}

-- ---- behind the step of another

module _ {L Q : Type 0} (most : Q → ℕ) (table after : Slab Q) (was now h : HeldBy L) (s : Held) where
  key_kept : KeepsOthers was now table after → AreOthers was h → IsHeld most table h s → (key : ℕ) → IsKey h key
      → (get after key ≡ get table key) × IsOther now.ports.items now.bound key
  key_kept keeps are held key is =
      let there = key_stands most table h s held key is in
      let kept = keeps key there.0 there.1 (others_key was h are key is) in
      (kept.0 ∙ sym there.1, kept.1)

  -- the ports of this connection stay
  pub ports_stay : KeepsOthers was now table after → AreOthers was h → IsHeld most table h s → PortsStay table after h
  ports_stay keeps are held = keys_stay table after h (λ key is. (key_kept keeps are held key is).0)

  -- it stands for what it stood for
  pub held_stays : KeepsOthers was now table after → AreOthers was h → IsHeld most table h s → IsHeld most after h s
  held_stays keeps are held = stay_held most table after h s (ports_stay keeps are held) held

  -- and none of its ports is one of the other's
  pub others_stay : KeepsOthers was now table after → AreOthers was h → IsHeld most table h s → AreOthers now h
  others_stay keeps are held = key_others now h (λ key is. (key_kept keeps are held key is).1)

-- Where the connection at a place became another, the connections have ports of their own.
pub own_ports_set : {L Q : Type 0} (most : Q → ℕ) (table after : Slab Q) (hs : List (HeldBy L)) (ss : List Held) (place : ℕ) (was now : HeldBy L)
    → AreHeld most table hs ss → HaveOwnPorts hs → slice_get hs place ≡ Some was → KeepsOthers was now table after → HaveOwnPorts (slice_set hs place now)
own_ports_set {L} most table after hs ss place was now held own at_was keeps = λ i j a b ne at_a at_b.
    by_cases i j a b ne (stood i a at_a) (stood j b at_b) where
      Stood : ℕ → HeldBy L → Type 0
      Stood i a = ((i ≡ place) × (a ≡ now)) ⊎ ((place ≢ i) × (slice_get hs i ≡ Some a))

      stood : (i : ℕ) (a : HeldBy L) → slice_get (slice_set hs place now) i ≡ Some a → Stood i a
      stood i a at = by_place (cases_eq place i) where
        by_place : (place ≡ i) ⊎ (place ≡ i → ⊥) → Stood i a
        by_place (inl here) =
            let P : ℕ → Type 0 = λ k. slice_get (slice_set hs place now) k ≡ Some a in
            let both : Some now ≡ Some a = sym (get_set_same hs place was now at_was) ∙ subst P (sym here) at in
            let e : a ≡ now = cc in
            inl (sym here, e)
        by_place (inr ne) = inr (ne, sym (get_set_other hs place i now ne) ∙ at)

      beside : (j : ℕ) (b : HeldBy L) → place ≢ j → slice_get hs j ≡ Some b → AreOthers now b
      beside j b ne at =
          let s = held_at most table hs ss j b held at in
          others_stay most table after was now b s.0 keeps (own place j was b ne at_was at) s.2

      by_cases : (i j : ℕ) (a b : HeldBy L) → i ≢ j → Stood i a → Stood j b → AreOthers a b
      by_cases i j a b ne (inl (here, e)) (inl (there, f)) = absurd (ne (here ∙ sym there))
      by_cases i j a b ne (inl (here, e)) (inr (apart, at_b)) = let P : HeldBy L → Type 0 = λ x. AreOthers x b in subst P (sym e) (beside j b apart at_b)
      by_cases i j a b ne (inr (apart, at_a)) (inl (there, f)) =
          let P : HeldBy L → Type 0 = λ x. AreOthers a x in
          subst P (sym f) (others_swap now a (beside i a apart at_a))
      by_cases i j a b ne (inr (apart, at_a)) (inr (far, at_b)) = own i j a b ne at_a at_b

-- Where one is gone, the others have ports of their own.
pub own_ports_removed : {L : Type 0} (hs : List (HeldBy L)) (place : ℕ) → HaveOwnPorts hs → HaveOwnPorts (remove hs place)
own_ports_removed {L} hs place own = λ i j a b ne at_a at_b. by_cases i j a b ne (get_removed hs place i a at_a) (get_removed hs place j b at_b) where
  Stood : ℕ → HeldBy L → Type 0
  Stood i a = ((i < place) × (slice_get hs i ≡ Some a)) ⊎ ((place ≤ i) × (slice_get hs (suc i) ≡ Some a))

  by_cases : (i j : ℕ) (a b : HeldBy L) → i ≢ j → Stood i a → Stood j b → AreOthers a b
  by_cases i j a b ne (inl (less, at_a)) (inl (low, at_b)) = own i j a b ne at_a at_b
  by_cases i j a b ne (inl (less, at_a)) (inr (high, at_b)) = own i (suc j) a b (λ same. omega (arith, same, less, high)) at_a at_b
  by_cases i j a b ne (inr (more, at_a)) (inl (low, at_b)) = own (suc i) j a b (λ same. omega (arith, same, low, more)) at_a at_b
  by_cases i j a b ne (inr (more, at_a)) (inr (high, at_b)) = own (suc i) (suc j) a b (λ same. ne (omega (arith, same))) at_a at_b
