-- Ports that are filled with what was told or found, and the tables that they stand in.
use Rattle.std.proofs.Common.{◌≡◌, ◌⊎◌, inl, inr, ℕ, ◌==◌, Bool, true, false, not, List, [], ◌∷◌, ◌++◌, map, All, slice_get, Option, Some, None, refl, sym, ap, subst, ◌∙◌}
use Rattle.std.specs.Prelude.{◌||◌, filter, is_some}
use Rattle.std.proofs.lemmas.List.{append-nil}
use Rattle.std.proofs.lemmas.List.Concat.{flat_map-append}
use Rattle.std.proofs.lemmas.List.Elements.{All-cons, All-head, All-tail, All-nil}
use Rattle.slab.specs.Slab.{Slab, get}
use Rattle.mq_outside.specs.Counts.{PortCounts}
use Rattle.mq_outside.specs.Ports.{PortHolds}
use Rattle.mq_talk.specs.declared.goal.Goal.{Goal}
use Rattle.mq_talk.specs.declared.goal.Goal.TheVariants as goal
use Rattle.mq_talk.specs.declared.note.End.{End}
use Rattle.mq_talk.specs.Mails.{IsTold}
use Rattle.mq_machine.specs.State.{Port, Tunnel}
use Rattle.mq_machine.specs.Shared.{without_port}
use Rattle.mq_machine.specs.Acting.{Outside, PortsTold, PortFailed, holds_of, holding}
use Rattle.mq_held.specs.declared.held.PortSeat.{PortSeat}
use Rattle.mq_held.specs.Answers.{KeepsPorts}
use Rattle.mq_step.proofs.Counting.{port_same}
use Rattle.mq_step.proofs.Places.{at_all, others_of, left_ports, left_numbers, others_last}
use Rattle.mq_step.specs.Holds.{IsPort, ArePorts, AreServed, port_number, tunnels_of, numbers_of}
use Rattle.mq_step.specs.Sights.{Found, PortGrows, SeesPort, SeesPorts, port_if, filled_port, PortFits, PortsFit}

-- ---- what a seat and a port have in common

pub are_filled : {Q : Type 0} (most : Q → ℕ) (table : Slab Q) (o : Outside) (f : Found) (seats : List PortSeat) (ports : List Port) → ArePorts most table seats ports
    → ArePorts most table seats (map (filled_port o f) ports)
are_filled most table o f [] [] are = tt
are_filled most table o f [] (p ∷ ports) are = absurd are
are_filled most table o f (seat ∷ seats) [] are = absurd are
are_filled most table o f (seat ∷ seats) (p ∷ ports) are = (
  record { tunnel = are.0.tunnel; received = are.0.received; port = are.0.port; at = are.0.at; limit = are.0.limit; small = are.0.small },
  are_filled most table o f seats ports are.1,
)

pub tunnels_filled : (o : Outside) (f : Found) (ports : List Port) → tunnels_of (map (filled_port o f) ports) ≡ tunnels_of ports
tunnels_filled o f [] = refl
tunnels_filled o f (p ∷ ports) = ap (λ (xs : List ℕ). p.tunnel ∷ xs) (tunnels_filled o f ports)

-- the ports of these seats stay under their keys
abbrev pub KeepsSeats : {Q : Type 0} → Slab Q → Slab Q → List PortSeat → Type 0
KeepsSeats {Q} table after seats = All (λ (seat : PortSeat). (port : Q) → get table seat.key ≡ Some port → get after seat.key ≡ Some port) seats

pub all_kept : {Q : Type 0} (table after : Slab Q) (seats : List PortSeat) → KeepsPorts table after → KeepsSeats table after seats
all_kept {Q} table after [] keeps = All-nil (λ (seat : PortSeat). (port : Q) → get table seat.key ≡ Some port → get after seat.key ≡ Some port)
all_kept {Q} table after (seat ∷ seats) keeps =
    All-cons (λ (x : PortSeat). (port : Q) → get table x.key ≡ Some port → get after x.key ≡ Some port) seat seats (λ port at. keeps seat.key port at) (all_kept table after seats keeps)

pub seats_kept : {Q : Type 0} (most : Q → ℕ) (table after : Slab Q) (seats : List PortSeat) (ports : List Port) → KeepsSeats table after seats → ArePorts most table seats ports
    → ArePorts most after seats ports
seats_kept most table after [] [] keeps are = tt
seats_kept most table after [] (p ∷ ports) keeps are = absurd are
seats_kept most table after (seat ∷ seats) [] keeps are = absurd are
seats_kept {Q} most table after (seat ∷ seats) (p ∷ ports) keeps are =
    let K : PortSeat → Type 0 = λ x. (port : Q) → get table x.key ≡ Some port → get after x.key ≡ Some port in (
      record {
        tunnel = are.0.tunnel;
        received = are.0.received;
        port = are.0.port;
        at = All-head K seat seats keeps are.0.port are.0.at;
        limit = are.0.limit;
        small = are.0.small;
      },
      seats_kept most table after seats ports (All-tail K seat seats keeps) are.1,
    )

-- the ports stay under their keys
pub are_kept : {Q : Type 0} (most : Q → ℕ) (table after : Slab Q) (seats : List PortSeat) (ports : List Port) → KeepsPorts table after → ArePorts most table seats ports → ArePorts most after seats ports
are_kept most table after seats ports keeps are = seats_kept most table after seats ports (all_kept table after seats keeps) are

pub none_changed : {Q : Type 0} (table : Slab Q) → KeepsPorts table table
none_changed table key port at = at

pub same_table : {Q : Type 0} (table after : Slab Q) → after ≡ table → KeepsPorts table after
same_table table after is = let P : Slab _ → Type 0 = λ x. KeepsPorts table x in subst P (sym is) (none_changed table)

-- ---- what is told of ports that stay

-- the outside tells of these ports what it told
pub record StaysTold (o n : Outside) (p : Port) : Type 0 where
  pub port : n.port p.tunnel ≡ o.port p.tunnel
  pub counts : n.port_counts p.tunnel ≡ o.port_counts p.tunnel

pub seats_told : {Q : Type 0} (most : Q → ℕ) (holds : Q → Option PortHolds) (counts : Q → PortCounts) (table after : Slab Q) (o n : Outside) (seats : List PortSeat) (ports : List Port)
    → KeepsSeats table after seats → SeesPorts holds counts table o seats → SeesPorts holds counts after n seats → ArePorts most table seats ports → All (StaysTold o n) ports
seats_told most holds counts table after o n [] [] keeps so sn are = All-nil (StaysTold o n)
seats_told most holds counts table after o n [] (p ∷ ports) keeps so sn are = absurd are
seats_told most holds counts table after o n (seat ∷ seats) [] keeps so sn are = absurd are
seats_told {Q} most holds counts table after o n (seat ∷ seats) (p ∷ ports) keeps so sn are =
    let K : PortSeat → Type 0 = λ x. (port : Q) → get table x.key ≡ Some port → get after x.key ≡ Some port in
    let a = All-head (SeesPort holds counts table o) seat seats so are.0.port are.0.at in
    let b = All-head (SeesPort holds counts after n) seat seats sn are.0.port (All-head K seat seats keeps are.0.port are.0.at) in
    All-cons (StaysTold o n) p ports
    (record {
      port = ap n.port are.0.tunnel ∙ b.0 ∙ sym a.0 ∙ ap o.port (sym are.0.tunnel);
      counts = ap n.port_counts are.0.tunnel ∙ b.1 ∙ sym a.1 ∙ ap o.port_counts (sym are.0.tunnel);
    })
    (seats_told most holds counts table after o n seats ports (All-tail K seat seats keeps) (All-tail (SeesPort holds counts table o) seat seats so) (All-tail (SeesPort holds counts after n) seat seats sn) are.1)

pub stay_told : {Q : Type 0} (most : Q → ℕ) (holds : Q → Option PortHolds) (counts : Q → PortCounts) (table after : Slab Q) (o n : Outside) (seats : List PortSeat) (ports : List Port)
    → KeepsPorts table after → SeesPorts holds counts table o seats → SeesPorts holds counts after n seats → ArePorts most table seats ports → All (StaysTold o n) ports
stay_told most holds counts table after o n seats ports keeps so sn are = seats_told most holds counts table after o n seats ports (all_kept table after seats keeps) so sn are

pub told_if : (told : Option PortHolds) (found : PortHolds) (p : Port) → IsTold told (holds_of (holding (port_if told found) p))
told_if None found p = tt
told_if (Some holds) found p = refl

-- of one port, under whose key nothing changed
pub stays_at : {Q : Type 0} (most : Q → ℕ) (holds : Q → Option PortHolds) (counts : Q → PortCounts) (table after : Slab Q) (o n : Outside) (seats : List PortSeat) (i : ℕ) (x : PortSeat) (q : Port)
    → SeesPorts holds counts table o seats → SeesPorts holds counts after n seats → slice_get seats i ≡ Some x → IsPort most table x q → get after x.key ≡ get table x.key → StaysTold o n q
stays_at most holds counts table after o n seats i x q so sn at is same =
    let a = at_all (SeesPort holds counts table o) seats so i x at is.port is.at in
    let b = at_all (SeesPort holds counts after n) seats sn i x at is.port (same ∙ is.at) in
    record {
      port = ap n.port is.tunnel ∙ b.0 ∙ sym a.0 ∙ ap o.port (sym is.tunnel);
      counts = ap n.port_counts is.tunnel ∙ b.1 ∙ sym a.1 ∙ ap o.port_counts (sym is.tunnel);
    }

-- it stands in the table behind, with what is told or found
pub is_moved : {Q : Type 0} (most : Q → ℕ) (table after : Slab Q) (x : PortSeat) (q : Port) (holds : PortHolds) → get after x.key ≡ get table x.key → IsPort most table x q
    → IsPort most after x (holding holds q)
is_moved most table after x q holds same is = record { tunnel = is.tunnel; received = is.received; port = is.port; at = same ∙ is.at; limit = is.limit; small = is.small }

-- what is told of it then
pub told_filled : (o n : Outside) (f : Found) (q : Port) → n.port q.tunnel ≡ o.port q.tunnel → IsTold (n.port q.tunnel) (holds_of (filled_port o f q))
told_filled o n f q same =
    let P : Option PortHolds → Type 0 = λ told. IsTold told (holds_of (filled_port o f q)) in
    subst P (sym same) (told_if (o.port q.tunnel) (f.port q.tunnel) q)

pub stays_filled : (o n : Outside) (f : Found) (q : Port) → StaysTold o n q → IsTold (n.port q.tunnel) (holds_of (filled_port o f q))
stays_filled o n f q stay = told_filled o n f q stay.port

pub filled_told : (o n : Outside) (f : Found) (ports : List Port) → All (StaysTold o n) ports → PortsTold n (map (filled_port o f) ports)
filled_told o n f [] stay = tt
filled_told o n f (p ∷ ports) stay =
    let P : Option PortHolds → Type 0 = λ told. IsTold told (holds_of (filled_port o f p)) in (
      subst P (sym (All-head (StaysTold o n) p ports stay).port) (told_if (o.port p.tunnel) (f.port p.tunnel) p),
      filled_told o n f ports (All-tail (StaysTold o n) p ports stay),
    )

-- ---- failures

-- nothing of what was found fails
pub record FailsNot (f : Found) : Type 0 where
  pub sends : (tunnel : ℕ) → (f.port tunnel).send_fails ≡ false
  pub receives : (tunnel : ℕ) → (f.port tunnel).receive_fails ≡ false

or_false : (a b : Bool) → a ≡ false → b ≡ false → a || b ≡ true → ⊥
or_false false false p q is = cc
or_false true b p q is = cc
or_false false true p q is = cc

pub fits_if : (told : Option PortHolds) (found : PortHolds) (p : Port) (F : Type 0) → found.send_fails ≡ false → found.receive_fails ≡ false
    → told ≡ None → (holding (port_if told found) p).send_fails || (holding (port_if told found) p).receive_fails ≡ true → F
fits_if None found p F sends receives none fails = absurd (or_false found.send_fails found.receive_fails sends receives fails)
fits_if (Some holds) found p F sends receives none fails = absurd cc

pub none_fails : (o n : Outside) (f : Found) (ports : List Port) → FailsNot f → PortsFit o n (map (filled_port o f) ports)
none_fails o n f [] fails = All-nil (PortFits o n)
none_fails o n f (p ∷ ports) fails =
    All-cons (PortFits o n) (filled_port o f p) (map (filled_port o f) ports)
    (λ none is. fits_if (o.port p.tunnel) (f.port p.tunnel) p (PortFailed o n p.tunnel) (fails.sends p.tunnel) (fails.receives p.tunnel) none is)
    (none_fails o n f ports fails)

-- ---- which ports are there

pub served_any : (e : Option End) (tunnels : List Tunnel) (ports : List Port) → tunnels_of ports ≡ numbers_of tunnels → AreServed e tunnels ports
served_any None tunnels ports is = is
served_any (Some why) tunnels ports is = inl is

pub served_ending : (e : Option End) (why : End) (tunnels : List Tunnel) (ports : List Port) → AreServed e tunnels ports → AreServed (Some why) tunnels ports
served_ending None why tunnels ports is = inl is
served_ending (Some reason) why tunnels ports is = is

pub no_ports : (ports : List Port) → tunnels_of ports ≡ [] → ports ≡ []
no_ports [] is = refl
no_ports (p ∷ ports) is = absurd cc

-- an ending or living connection without tunnels has no ports
pub served_none : (e : Option End) (tunnels : List Tunnel) (ports : List Port) → tunnels ≡ [] → AreServed e tunnels ports → ports ≡ []
served_none None tunnels ports none served = no_ports ports (served ∙ ap (λ (ts : List Tunnel). numbers_of ts) none)
served_none (Some why) tunnels ports none (inl is) = no_ports ports (is ∙ ap (λ (ts : List Tunnel). numbers_of ts) none)
served_none (Some why) tunnels ports none (inr (last, is)) = absurd (no_last (tunnels_of ports) (sym (ap (λ (ts : List Tunnel). numbers_of ts) none) ∙ is)) where
  no_last : (ns : List ℕ) → [] ≡ ns ++ last ∷ [] → ⊥
  no_last [] e = cc
  no_last (n ∷ ns) e = cc

pub alive_served : (e : Option End) (tunnels : List Tunnel) (ports : List Port) → e ≡ None → AreServed e tunnels ports → tunnels_of ports ≡ numbers_of tunnels
alive_served None tunnels ports alive served = served
alive_served (Some why) tunnels ports alive served = absurd cc

-- other ports of the same tunnels
pub served_same : (e : Option End) (tunnels : List Tunnel) (ports others : List Port) → tunnels_of others ≡ tunnels_of ports → AreServed e tunnels ports → AreServed e tunnels others
served_same None tunnels ports others same served = same ∙ served
served_same (Some why) tunnels ports others same (inl is) = inl (same ∙ is)
served_same (Some why) tunnels ports others same (inr (last, is)) = inr (last, is ∙ ap (λ (ns : List ℕ). ns ++ last ∷ []) (sym same))

pub served_filled : (o : Outside) (f : Found) (e : Option End) (tunnels : List Tunnel) (ports : List Port) → AreServed e tunnels ports → AreServed e tunnels (map (filled_port o f) ports)
served_filled o f e tunnels ports served = served_same e tunnels ports (map (filled_port o f) ports) (tunnels_filled o f ports) served

-- a tunnel opened, and there was no memory to say so
pub served_last : (why : End) (tunnels : List Tunnel) (t : Tunnel) (ports : List Port) → tunnels_of ports ≡ numbers_of tunnels → AreServed (Some why) (tunnels ++ t ∷ []) ports
served_last why tunnels t ports is = by_goal t.goal (flat_map-append (λ (u : Tunnel). port_number u.goal u.id) tunnels (t ∷ [])) where
  by_goal : (g : Goal) → numbers_of (tunnels ++ t ∷ []) ≡ numbers_of tunnels ++ (port_number g t.id ++ []) → AreServed (Some why) (tunnels ++ t ∷ []) ports
  by_goal (goal.Udp addr port) all = inr (t.id, all ∙ ap (λ (ns : List ℕ). ns ++ t.id ∷ []) (sym is))
  by_goal (goal.Ip area protocol) all = inl (is ∙ sym (all ∙ append-nil (numbers_of tunnels)))

-- a tunnel closed, and its port is gone
pub served_without : (e d : Option End) (tunnel : ℕ) (tunnels left : List Tunnel) (ports : List Port) → left ≡ filter (λ (u : Tunnel). not (u.id == tunnel)) tunnels
    → (is_some e ≡ true → is_some d ≡ true) → AreServed e tunnels ports → AreServed d left (without_port tunnel ports)
served_without e d tunnel tunnels left ports left_is still served = by_ending e d still served where
  numbers : numbers_of left ≡ others_of tunnel (numbers_of tunnels)
  numbers = ap (λ (ts : List Tunnel). numbers_of ts) left_is ∙ left_numbers tunnel tunnels

  all : tunnels_of ports ≡ numbers_of tunnels → tunnels_of (without_port tunnel ports) ≡ numbers_of left
  all is = left_ports tunnel ports ∙ ap (λ (ns : List ℕ). others_of tunnel ns) is ∙ sym numbers

  by_last : (why : End) (last : ℕ) → numbers_of tunnels ≡ tunnels_of ports ++ last ∷ []
      → (others_of tunnel (tunnels_of ports ++ last ∷ []) ≡ others_of tunnel (tunnels_of ports)) ⊎ (others_of tunnel (tunnels_of ports ++ last ∷ []) ≡ others_of tunnel (tunnels_of ports) ++ last ∷ [])
      → AreServed (Some why) left (without_port tunnel ports)
  by_last why last is (inl gone) = inl (left_ports tunnel ports ∙ sym (numbers ∙ ap (λ (ns : List ℕ). others_of tunnel ns) is ∙ gone))
  by_last why last is (inr stays) =
      inr (last, numbers ∙ ap (λ (ns : List ℕ). others_of tunnel ns) is ∙ stays ∙ ap (λ (ns : List ℕ). ns ++ last ∷ []) (sym (left_ports tunnel ports)))

  by_ending : (e d : Option End) → (is_some e ≡ true → is_some d ≡ true) → AreServed e tunnels ports → AreServed d left (without_port tunnel ports)
  by_ending None d still is = served_any d left (without_port tunnel ports) (all is)
  by_ending (Some why) None still is = let e : false ≡ true = still refl in absurd cc
  by_ending (Some why) (Some later) still (inl is) = inl (all is)
  by_ending (Some why) (Some later) still (inr (last, is)) = by_last later last is (others_last tunnel last (tunnels_of ports))

-- what is told of ports that stay, by its parts
pub stays_grow : (o n : Outside) (ports : List Port) → All (StaysTold o n) ports → All (λ (p : Port). PortGrows (o.port_counts p.tunnel) (n.port_counts p.tunnel)) ports
stays_grow o n [] stay = All-nil (λ (p : Port). PortGrows (o.port_counts p.tunnel) (n.port_counts p.tunnel))
stays_grow o n (p ∷ ports) stay =
    All-cons (λ (q : Port). PortGrows (o.port_counts q.tunnel) (n.port_counts q.tunnel)) p ports
    (port_same (o.port_counts p.tunnel) (n.port_counts p.tunnel) (All-head (StaysTold o n) p ports stay).counts)
    (stays_grow o n ports (All-tail (StaysTold o n) p ports stay))

pub stays_port : (o n : Outside) (ports : List Port) → All (StaysTold o n) ports → All (λ (p : Port). n.port p.tunnel ≡ o.port p.tunnel) ports
stays_port o n [] stay = All-nil (λ (p : Port). n.port p.tunnel ≡ o.port p.tunnel)
stays_port o n (p ∷ ports) stay =
    All-cons (λ (q : Port). n.port q.tunnel ≡ o.port q.tunnel) p ports (All-head (StaysTold o n) p ports stay).port (stays_port o n ports (All-tail (StaysTold o n) p ports stay))

pub stays_work : (o n : Outside) (ports : List Port) → All (StaysTold o n) ports → All (λ (p : Port). (n.port_counts p.tunnel).faults ≡ (o.port_counts p.tunnel).faults) ports
stays_work o n [] stay = All-nil (λ (p : Port). (n.port_counts p.tunnel).faults ≡ (o.port_counts p.tunnel).faults)
stays_work o n (p ∷ ports) stay =
    All-cons (λ (q : Port). (n.port_counts q.tunnel).faults ≡ (o.port_counts q.tunnel).faults) p ports
    (ap (λ (c : PortCounts). c.faults) (All-head (StaysTold o n) p ports stay).counts)
    (stays_work o n ports (All-tail (StaysTold o n) p ports stay))
