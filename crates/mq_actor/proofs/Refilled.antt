-- A worker with what is told of links and ports, or else what was found there.
use Rattle.std.proofs.Common.{◌≡◌, ◌≢◌, ℕ, zero, suc, ◌==◌, Bool, true, false, List, [], ◌∷◌, map, All, Contains, slice_get}
use Rattle.std.proofs.Common.{Option, Some, None, refl, sym, ap, subst, ◌∙◌}
use Rattle.std.specs.Prelude.{◌||◌, if◌then◌else◌}
use Rattle.std.proofs.lemmas.Bool.{eq-eqb, ne_eqb, eqb-true}
use Rattle.std.proofs.lemmas.List.Elements.{All-cons, All-head, All-tail, All-nil, All-map, All-weaker, All-contains_itself}
use Rattle.slab.specs.Slab.{Slab}
use Rattle.mq_outside.specs.Ports.{PortHolds}
use Rattle.mq_talk.specs.declared.book.Reply.TheVariants as reply
use Rattle.mq_talk.specs.declared.note.End.{End}
use Rattle.mq_talk.specs.Mails.{IsTold}
use Rattle.mq_machine.specs.State.{Link, new_link, Port, Tunnel, Offer, Held, Worker}
use Rattle.mq_machine.specs.Want.{Answer, Said, Bound, Replied, Judged, Pushed, Put}
use Rattle.mq_machine.specs.Shared.{at_port}
use Rattle.mq_machine.specs.Acting.{Outside, PortsTold, ConnsTold, OffersTold, Refills, Rose, ConnWaited, FaultsFit}
use Rattle.mq_machine.specs.Acting.{holds_of, holding, bare_port, bare_held, bare, prepared, with_prepared as worker_prepared}
use Rattle.mq_held.specs.declared.held.Held.{Held as HeldBy}
use Rattle.mq_held.specs.declared.held.PortSeat.{PortSeat}
use Rattle.mq_step.specs.Sights.{Found, PortsFit, idle, port_if, filled_port}
use Rattle.mq_step.specs.Whole.{link_if, filled}
use Rattle.mq_step.specs.Whole.{FaultsFit as HeldFits}
use Rattle.mq_step.specs.Holds.{IsHeld, IsPort, ArePorts, AreServed, tunnels_of}
use Rattle.mq_step.specs.Wanted.{with_prepared}
use Rattle.mq_step.proofs.Filling.{are_filled, served_same, served_filled}
use Rattle.mq_step.proofs.Receiving.{idle_faults}
use Rattle.mq_actor.specs.Passing.{TellsSame}

-- what was found of the connection with this number, where nothing is told of it; nothing was found of others
abbrev pub found_for : ℕ → Found → ℕ → Found
found_for number found other = if other == number then found else idle

abbrev pub refilled : Outside → ℕ → Found → Held → Held
refilled o number found h = filled o (found_for number found h.conn.number) h

abbrev pub reoffered : Outside → Offer → Offer
reoffered o f = record f { link = link_if (o.link f.number) f.link }

abbrev pub refill : Outside → ℕ → Found → Worker → Worker
refill o number found w = record w { offered = map (reoffered o) w.offered; conns = map (refilled o number found) w.conns }

-- ---- what was found of a connection

-- what was found is of the connection with this number
pub found_here : (number : ℕ) (found : Found) → found_for number found number ≡ found
found_here number found = ap {B = Found} (λ (b : Bool). if b then found else idle) (eq-eqb number number refl)

-- nothing was found of another
pub found_else : (number other : ℕ) (found : Found) → other ≢ number → found_for number found other ≡ idle
found_else number other found ne = ap {B = Found} (λ (b : Bool). if b then found else idle) (ne_eqb other number ne)

-- ---- what the outside holds is all that differs

bare_ports : (o : Outside) (f : Found) (ports : List Port) → map bare_port (map (filled_port o f) ports) ≡ map bare_port ports
bare_ports o f [] = refl
bare_ports o f (p ∷ ports) = ap (λ (ps : List Port). bare_port p ∷ ps) (bare_ports o f ports)

bare_filled : (o : Outside) (f : Found) (h : Held) → bare_held (filled o f h) ≡ bare_held h
bare_filled o f h = ap (λ (ps : List Port). record h { link = new_link; ports = ps }) (bare_ports o f h.ports)

bare_conns : (o : Outside) (number : ℕ) (found : Found) (hs : List Held) → map bare_held (map (refilled o number found) hs) ≡ map bare_held hs
bare_conns o number found [] = refl
bare_conns o number found (h ∷ hs) =
    ap (λ (x : Held). x ∷ map bare_held (map (refilled o number found) hs)) (bare_filled o (found_for number found h.conn.number) h)
    ∙ ap (λ (xs : List Held). bare_held h ∷ xs) (bare_conns o number found hs)

abbrev bare_offer : Offer → Offer
bare_offer f = record f { link = new_link }

bare_offers : (o : Outside) (fs : List Offer) → map bare_offer (map (reoffered o) fs) ≡ map bare_offer fs
bare_offers o [] = refl
bare_offers o (f ∷ fs) = ap (λ (xs : List Offer). bare_offer f ∷ xs) (bare_offers o fs)

bare_refill : (o : Outside) (number : ℕ) (found : Found) (w : Worker) → bare (refill o number found w) ≡ bare w
bare_refill o number found w =
    ap (λ (fs : List Offer). record w { offered = fs; conns = map bare_held (map (refilled o number found) w.conns) }) (bare_offers o w.offered)
    ∙ ap (λ (hs : List Held). record w { offered = map bare_offer w.offered; conns = hs }) (bare_conns o number found w.conns)

-- ---- what is told is held

link_told_if : (told : Option Link) (found : Link) → IsTold told (link_if told found)
link_told_if None found = tt
link_told_if (Some link) found = refl

link_still_told : (told was : Option Link) (found : Link) → told ≡ was → IsTold told (link_if was found)
link_still_told told was found is = let P : Option Link → Type 0 = λ x. IsTold x (link_if was found) in subst P (sym is) (link_told_if was found)

port_told_if : (told : Option PortHolds) (found : PortHolds) (p : Port) → IsTold told (holds_of (holding (port_if told found) p))
port_told_if None found p = tt
port_told_if (Some holds) found p = refl

-- what is told of this port stays
abbrev PortStays : Outside → Outside → Port → Type 0
PortStays o n p = n.port p.tunnel ≡ o.port p.tunnel

ports_told_if : (o n : Outside) (f : Found) (ports : List Port) → All (PortStays o n) ports → PortsTold n (map (filled_port o f) ports)
ports_told_if o n f [] stay = tt
ports_told_if o n f (p ∷ ports) stay =
    let P : Option PortHolds → Type 0 = λ told. IsTold told (holds_of (filled_port o f p)) in (
      subst P (sym (All-head (PortStays o n) p ports stay)) (port_told_if (o.port p.tunnel) (f.port p.tunnel) p),
      ports_told_if o n f ports (All-tail (PortStays o n) p ports stay),
    )

ports_stay : (o : Outside) (ports : List Port) → All (PortStays o o) ports
ports_stay o [] = All-nil (PortStays o o)
ports_stay o (p ∷ ports) = All-cons (PortStays o o) p ports refl (ports_stay o ports)

conns_refilled : (o : Outside) (number : ℕ) (found : Found) (hs : List Held) → ConnsTold o (map (refilled o number found) hs)
conns_refilled o number found [] = tt
conns_refilled o number found (h ∷ hs) =
    let f : Found = found_for number found h.conn.number in
    (link_told_if (o.link h.conn.number) f.link, ports_told_if o o f h.ports (ports_stay o h.ports), conns_refilled o number found hs)

offers_refilled : (o : Outside) (fs : List Offer) → OffersTold o (map (reoffered o) fs)
offers_refilled o [] = tt
offers_refilled o (f ∷ fs) = (link_told_if (o.link f.number) f.link, offers_refilled o fs)

-- it differs in what the outside holds alone
pub refills : (o : Outside) (number : ℕ) (found : Found) (w : Worker) → Refills o w (refill o number found w)
refills o number found w =
    record { same = bare_refill o number found w; told = (conns_refilled o number found w.conns, offers_refilled o w.offered) }

-- ---- what a connection stands for

-- what a connection stands for doesn't depend on what its link and ports hold
pub held_filled : {L Q : Type 0} (most : Q → ℕ) (table : Slab Q) (h : HeldBy L) (o : Outside) (f : Found) (s : Held) → IsHeld most table h s
    → IsHeld most table h (filled o f s)
held_filled most table h o f s is = record {
  conn = is.conn;
  number = is.number;
  ports = are_filled most table o f h.ports.items s.ports is.ports;
  apart = is.apart;
  served = served_filled o f s.conn.ending s.conn.tunnels s.ports is.served;
  bound = is.bound;
  room = is.room;
}

-- the ports with the one of this tunnel prepared
abbrev ports_prepared : ℕ → Option PortHolds → List Port → List Port
ports_prepared tunnel told ports = at_port tunnel (prepared told) ports

port_prepared : {Q : Type 0} (most : Q → ℕ) (table : Slab Q) (seat : PortSeat) (told : Option PortHolds) (p : Port) → IsPort most table seat p
    → IsPort most table seat (prepared told p)
port_prepared most table seat None p is = is
port_prepared most table seat (Some holds) p is =
    record { tunnel = is.tunnel; received = is.received; port = is.port; at = is.at; limit = is.limit; small = is.small }

port_chosen : {Q : Type 0} (most : Q → ℕ) (table : Slab Q) (seat : PortSeat) (told : Option PortHolds) (p : Port) (b : Bool) → IsPort most table seat p
    → IsPort most table seat (if b then prepared told p else p)
port_chosen most table seat told p true is = port_prepared most table seat told p is
port_chosen most table seat told p false is = is

are_prepared : {Q : Type 0} (most : Q → ℕ) (table : Slab Q) (tunnel : ℕ) (told : Option PortHolds) (seats : List PortSeat) (ports : List Port)
    → ArePorts most table seats ports → ArePorts most table seats (ports_prepared tunnel told ports)
are_prepared most table tunnel told [] [] are = tt
are_prepared most table tunnel told [] (p ∷ ports) are = absurd are
are_prepared most table tunnel told (seat ∷ seats) [] are = absurd are
are_prepared most table tunnel told (seat ∷ seats) (p ∷ ports) are =
    (port_chosen most table seat told p (p.tunnel == tunnel) are.0, are_prepared most table tunnel told seats ports are.1)

tunnel_prepared : (told : Option PortHolds) (p : Port) → (prepared told p).tunnel ≡ p.tunnel
tunnel_prepared None p = refl
tunnel_prepared (Some holds) p = refl

tunnel_chosen : (told : Option PortHolds) (p : Port) (b : Bool) → (if b then prepared told p else p).tunnel ≡ p.tunnel
tunnel_chosen told p true = tunnel_prepared told p
tunnel_chosen told p false = refl

tunnels_prepared : (tunnel : ℕ) (told : Option PortHolds) (ports : List Port) → tunnels_of (ports_prepared tunnel told ports) ≡ tunnels_of ports
tunnels_prepared tunnel told [] = refl
tunnels_prepared tunnel told (p ∷ ports) =
    ap (λ (k : ℕ). k ∷ tunnels_of (ports_prepared tunnel told ports)) (tunnel_chosen told p (p.tunnel == tunnel))
    ∙ ap (λ (ks : List ℕ). p.tunnel ∷ ks) (tunnels_prepared tunnel told ports)

served_prepared : (tunnel : ℕ) (told : Option PortHolds) (e : Option End) (tunnels : List Tunnel) (ports : List Port) → AreServed e tunnels ports
    → AreServed e tunnels (ports_prepared tunnel told ports)
served_prepared tunnel told e tunnels ports served = served_same e tunnels ports (ports_prepared tunnel told ports) (tunnels_prepared tunnel told ports) served

-- nor does it depend on whether a port is prepared
pub held_prepared : {L Q : Type 0} (most : Q → ℕ) (table : Slab Q) (h : HeldBy L) (n : Outside) (answer : Answer) (s : Held) → IsHeld most table h s
    → IsHeld most table h (with_prepared n answer s)
held_prepared most table h n (Replied (reply.Opened tunnel routes)) s is = record {
  conn = is.conn;
  number = is.number;
  ports = are_prepared most table tunnel (n.port tunnel) h.ports.items s.ports is.ports;
  apart = is.apart;
  served = served_prepared tunnel (n.port tunnel) s.conn.ending s.conn.tunnels s.ports is.served;
  bound = is.bound;
  room = is.room;
}
held_prepared most table h n (Replied (reply.HistoryFull entries live)) s is = is
held_prepared most table h n (Replied (reply.Assigned list at)) s is = is
held_prepared most table h n (Replied (reply.Accepted accepts at)) s is = is
held_prepared most table h n (Replied reply.Closed) s is = is
held_prepared most table h n Said s is = is
held_prepared most table h n (Bound done) s is = is
held_prepared most table h n (Judged verdict at) s is = is
held_prepared most table h n (Pushed done) s is = is
held_prepared most table h n (Put put limit) s is = is

-- nor what it asked in vain
pub waited_filled : (o n : Outside) (f : Found) (s : Held) → ConnWaited o n s → ConnWaited o n (filled o f s)
waited_filled o n f s waited =
    let P : Port → Type 0 = λ p. Rose (o.port_counts p.tunnel).receive_waits (n.port_counts p.tunnel).receive_waits in
    record { want = waited.want; frame = waited.frame; write = waited.write; read = waited.read; ports = All-map P (filled_port o f) s.ports waited.ports }

-- ---- ports are prepared

map_same : (f : Held → Held) (hs : List Held) → ((h : Held) → f h ≡ h) → map f hs ≡ hs
map_same f [] same = refl
map_same f (h ∷ hs) same = ap (λ (x : Held). x ∷ map f hs) (same h) ∙ ap (λ (xs : List Held). h ∷ xs) (map_same f hs same)

unprepared : (f : Held → Held) (w : Worker) → ((h : Held) → f h ≡ h) → w ≡ record w { conns = map f w.conns }
unprepared f w same = ap (λ (hs : List Held). record w { conns = hs }) (sym (map_same f w.conns same))

-- a worker's ports are prepared connection by connection
pub prepared_worker : (n : Outside) (answer : Answer) (w : Worker) → worker_prepared n answer w ≡ record w { conns = map (with_prepared n answer) w.conns }
prepared_worker n (Replied (reply.Opened tunnel routes)) w = refl
prepared_worker n (Replied (reply.HistoryFull entries live)) w =
    unprepared (with_prepared n (Replied (reply.HistoryFull entries live))) w (λ h. refl)
prepared_worker n (Replied (reply.Assigned list at)) w = unprepared (with_prepared n (Replied (reply.Assigned list at))) w (λ h. refl)
prepared_worker n (Replied (reply.Accepted accepts at)) w = unprepared (with_prepared n (Replied (reply.Accepted accepts at))) w (λ h. refl)
prepared_worker n (Replied reply.Closed) w = unprepared (with_prepared n (Replied reply.Closed)) w (λ h. refl)
prepared_worker n Said w = unprepared (with_prepared n Said) w (λ h. refl)
prepared_worker n (Bound done) w = unprepared (with_prepared n (Bound done)) w (λ h. refl)
prepared_worker n (Judged verdict at) w = unprepared (with_prepared n (Judged verdict at)) w (λ h. refl)
prepared_worker n (Pushed done) w = unprepared (with_prepared n (Pushed done)) w (λ h. refl)
prepared_worker n (Put put limit) w = unprepared (with_prepared n (Put put limit)) w (λ h. refl)

-- and its core stays
pub prepared_core : (n : Outside) (answer : Answer) (h : Held) → (with_prepared n answer h).conn ≡ h.conn
prepared_core n (Replied (reply.Opened tunnel routes)) h = refl
prepared_core n (Replied (reply.HistoryFull entries live)) h = refl
prepared_core n (Replied (reply.Assigned list at)) h = refl
prepared_core n (Replied (reply.Accepted accepts at)) h = refl
prepared_core n (Replied reply.Closed) h = refl
prepared_core n Said h = refl
prepared_core n (Bound done) h = refl
prepared_core n (Judged verdict at) h = refl
prepared_core n (Pushed done) h = refl
prepared_core n (Put put limit) h = refl

-- and its link
pub prepared_link : (n : Outside) (answer : Answer) (h : Held) → (with_prepared n answer h).link ≡ h.link
prepared_link n (Replied (reply.Opened tunnel routes)) h = refl
prepared_link n (Replied (reply.HistoryFull entries live)) h = refl
prepared_link n (Replied (reply.Assigned list at)) h = refl
prepared_link n (Replied (reply.Accepted accepts at)) h = refl
prepared_link n (Replied reply.Closed) h = refl
prepared_link n Said h = refl
prepared_link n (Bound done) h = refl
prepared_link n (Judged verdict at) h = refl
prepared_link n (Pushed done) h = refl
prepared_link n (Put put limit) h = refl

-- ---- what is told afterwards

-- what is told of a connection that was passed over is told of it afterwards
pub told_idle : (o n : Outside) (s : Held) → TellsSame o n s
    → IsTold (n.link s.conn.number) (filled o idle s).link × PortsTold n (filled o idle s).ports
told_idle o n s tells =
    (link_still_told (n.link s.conn.number) (o.link s.conn.number) idle.link tells.link, ports_told_if o n idle s.ports tells.ports)

-- this port holds what is told of it
abbrev PortTold : Outside → Port → Type 0
PortTold n p = IsTold (n.port p.tunnel) (holds_of p)

port_tells : (n : Outside) (told : Option PortHolds) (p : Port) → n.port p.tunnel ≡ told → PortTold n (prepared told p)
port_tells n None p is = let P : Option PortHolds → Type 0 = λ x. IsTold x (holds_of p) in subst P (sym is) tt
port_tells n (Some holds) p is = let P : Option PortHolds → Type 0 = λ x. IsTold x holds in subst P (sym is) refl

chosen_told : (n : Outside) (tunnel : ℕ) (p : Port) (b : Bool) → (p.tunnel == tunnel) ≡ b → PortTold n p
    → PortTold n (if b then prepared (n.port tunnel) p else p)
chosen_told n tunnel p true same told = port_tells n (n.port tunnel) p (ap n.port (eqb-true p.tunnel tunnel same))
chosen_told n tunnel p false other told = told

ports_prepared_told : (n : Outside) (tunnel : ℕ) (ports : List Port) → PortsTold n ports → PortsTold n (ports_prepared tunnel (n.port tunnel) ports)
ports_prepared_told n tunnel [] told = tt
ports_prepared_told n tunnel (p ∷ ports) told =
    (chosen_told n tunnel p (p.tunnel == tunnel) refl told.0, ports_prepared_told n tunnel ports told.1)

-- a prepared port holds what is told of it
pub told_prepared : (n : Outside) (answer : Answer) (h : Held) → PortsTold n h.ports → PortsTold n (with_prepared n answer h).ports
told_prepared n (Replied (reply.Opened tunnel routes)) h told = ports_prepared_told n tunnel h.ports told
told_prepared n (Replied (reply.HistoryFull entries live)) h told = told
told_prepared n (Replied (reply.Assigned list at)) h told = told
told_prepared n (Replied (reply.Accepted accepts at)) h told = told
told_prepared n (Replied reply.Closed) h told = told
told_prepared n Said h told = told
told_prepared n (Bound done) h told = told
told_prepared n (Judged verdict at) h told = told
told_prepared n (Pushed done) h told = told
told_prepared n (Put put limit) h told = told

-- ---- failures

fits_by : (o n : Outside) (number : ℕ) (found : Found) (h : Held) (b : Bool) → (h.conn.number == number) ≡ b
    → (h.conn.number ≡ number → HeldFits o n (filled o found h)) → HeldFits o n (filled o (if b then found else idle) h)
fits_by o n number found h true same fits = fits (eqb-true h.conn.number number same)
fits_by o n number found h false other fits = idle_faults o n h

-- a link or port of which nothing is told doesn't fail, but where that of the connection with this number did
pub faults_refilled : (o n : Outside) (number : ℕ) (found : Found) (w : Worker)
    → ((h : Held) → Contains w.conns h → h.conn.number ≡ number → HeldFits o n (filled o found h)) → FaultsFit o n (refill o number found w)
faults_refilled o n number found w fits = record {
  links = All-weaker (HeldFits o n) LinkFits (λ h is. is.link) (refill o number found w).conns each;
  ports = All-weaker (HeldFits o n) (λ (h : Held). PortsFit o n h.ports) (λ h is. is.ports) (refill o number found w).conns each;
} where
  LinkFits : Held → Type 0
  LinkFits h = o.link h.conn.number ≡ None → h.link.read_fails || h.link.write_fails ≡ true
      → Rose (o.link_counts h.conn.number).faults (n.link_counts h.conn.number).faults

  one : (h : Held) → Contains w.conns h → HeldFits o n (refilled o number found h)
  one h has = fits_by o n number found h (h.conn.number == number) refl (fits h has)

  each : All (HeldFits o n) (map (refilled o number found) w.conns)
  each =
      let P : Held → Type 0 = λ h. HeldFits o n (refilled o number found h) in
      All-map (HeldFits o n) (refilled o number found) w.conns (All-weaker (Contains w.conns) P one w.conns (All-contains_itself w.conns))

-- ---- from each place

-- the connections hold what is told of them where the one at each place does
pub conns_told : (n : Outside) (hs : List Held)
    → ((i : ℕ) (h : Held) → slice_get hs i ≡ Some h → IsTold (n.link h.conn.number) h.link × PortsTold n h.ports) → ConnsTold n hs
conns_told n [] each = tt
conns_told n (h ∷ hs) each =
    let first = each zero h refl in
    (first.0, first.1, conns_told n hs (λ i x at. each (suc i) x at))

-- the offers hold what is told of them where what is told of the one at each place stays
pub offers_told : (o n : Outside) (fs : List Offer) → ((i : ℕ) (f : Offer) → slice_get fs i ≡ Some f → n.link f.number ≡ o.link f.number)
    → OffersTold n (map (reoffered o) fs)
offers_told o n [] each = tt
offers_told o n (f ∷ fs) each =
    (link_still_told (n.link f.number) (o.link f.number) f.link (each zero f refl), offers_told o n fs (λ i x at. each (suc i) x at))
