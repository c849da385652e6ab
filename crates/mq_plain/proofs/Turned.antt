-- Behind each turn of a worker the port of the next number holds nothing, once what it was prepared to hold is gone.
use Rattle.std.proofs.Common.{◌≡◌, ◌≢◌, inl, inr, ℕ, zero, suc, Bool, true, false, List, [], ◌∷◌, ◌++◌, length, Contains, slice_get, Option, Some, None, refl, sym, ap, subst, ◌∙◌, arith}
use Rattle.std.specs.Prelude.{⊤}
use Rattle.std.proofs.lemmas.List.{append-nil}
use Rattle.std.proofs.lemmas.List.Elements.{All-contains_itself}
use Rattle.slab.specs.Slab.{Slab}
use Rattle.mq_outside.specs.Ports.{empty_port}
use Rattle.mq_talk.specs.declared.book.Call.{Call}
use Rattle.mq_talk.specs.declared.book.Call.TheVariants as call
use Rattle.mq_talk.specs.declared.book.Config.{Config}
use Rattle.mq_talk.specs.declared.book.Entry.{Entry}
use Rattle.mq_talk.specs.declared.book.Reply.{Reply}
use Rattle.mq_talk.specs.declared.book.Reply.TheVariants as reply
use Rattle.mq_talk.specs.declared.goal.Goal.{Goal}
use Rattle.mq_talk.specs.declared.goal.Goal.TheVariants as goal
use Rattle.mq_talk.specs.declared.note.Note.{Note}
use Rattle.mq_talk.specs.declared.note.End.{End}
use Rattle.mq_talk.specs.declared.place.Parcel.{Parcel}
use Rattle.mq_talk.specs.Answers.{IsAnswer}
use Rattle.mq_talk.specs.Mails.{Inboxes}
use Rattle.mq_talk.specs.Offices.{Seen}
use Rattle.mq_machine.specs.declared.setup.Setup.{Setup}
use Rattle.mq_machine.specs.State.{Tunnel, Port, Held, Offer, Worker, Shared}
use Rattle.mq_machine.specs.Want.{Want, Nothing, Say, Bind, Ask, Judge, Push, Send, Over, Answer, Said, Bound, Replied, Judged, Pushed, Put, want_of}
use Rattle.mq_machine.specs.Shared.{Answers, Asks, asked_by, port_of}
use Rattle.mq_machine.specs.Silent.{Reached, WorkerStarves, SeatStarves}
use Rattle.mq_machine.specs.Turn.{Try, Act, Frame, Write, Read, Receive, ActNext, TryNext, WriteNext, ReadNext, PortNext, ReceiveNext, Seat, Offers, Inbox, Of, SeatNext, WorkerTurn, accepted, came_to, has_tunnel, popped, replace, tunnel_in}
use Rattle.mq_machine.specs.Acting.{Outside, Known, IsOpen, holding, with_prepared}
use Rattle.mq_actor.specs.declared.ring.Ring.{Ring}
use Rattle.mq_actor.specs.Holds.{IsWorker}
use Rattle.mq_actor.specs.Steps.{sight}
use Rattle.mq_actor.proofs.Between.{apart_of}
use Rattle.mq_actor.proofs.Books.{open_within}
use Rattle.mq_actor.proofs.Helds.{at_held}
use Rattle.mq_actor.proofs.InRing.{at_all}
use Rattle.mq_actor.proofs.Lists.{found_at}
use Rattle.mq_actor.proofs.Parcels.{came_ports, found_with, popped_found, popped_none}
use Rattle.mq_step.specs.Holds.{AreServed, tunnels_of, numbers_of, port_number}
use Rattle.mq_play.specs.Events.{with_held_ports}
use Rattle.mq_plain.proofs.Emptied.{PortsApart, PortsFine, ConnsApart, ConnsFine, AreOpened, conns_fine, fine_pushed, fine_replaced, apart_any, apart_found, apart_fine, try_fine, worker_clear, prepared_emptied}

-- ---- a seat

abbrev conns_or : Option (Note × Worker) → List Held
conns_or None = []
conns_or (Some (n, w)) = w.conns

offers_fine : (t : ℕ) (old new : Worker) (fs : List Offer) (said : Note) → ConnsApart t old.conns → accepted old fs ≡ Some (said, new) → ConnsFine t new.conns
offers_fine t old new [] said apart is = absurd cc
offers_fine t old new (f ∷ fs) said apart is =
    let P : List Held → Type 0 = λ hs. ConnsFine t hs in
    subst P (ap conns_or is) (fine_pushed t old.conns _ apart tt)

-- a packet that came through the inbox leaves the ports of the connection that it came to
inbox_fine : (t : ℕ) (old new : Worker) (parcel : Parcel) (said : Note) → ConnsApart t old.conns → popped old parcel ≡ (said, new) → ConnsFine t new.conns
inbox_fine t old new parcel said apart is = by_found (tunnel_in old parcel.to) refl where
  P : List Held → Type 0
  P hs = ConnsFine t hs

  by_found : (found : Option (Held × Tunnel)) → tunnel_in old parcel.to ≡ found → P new.conns
  by_found None none =
      let same : old.conns ≡ new.conns = ap (λ (d : Note × Worker). d.1.conns) (sym (popped_none old parcel none) ∙ is) in
      subst P same (conns_fine t old.conns apart)
  by_found (Some (h, u)) found =
      let g : Held = (came_to h u parcel).1 in
      let there = found_with old parcel.to h u found in
      let fine : PortsFine t h.ports = apart_fine t h.ports (apart_any t (has_tunnel there.0) old.conns h apart there.1) in
      let same : replace h.conn.number (Some g) old.conns ≡ new.conns = ap (λ (d : Note × Worker). d.1.conns) (sym (popped_found old parcel h u found) ∙ is) in
      let F : List Port → Type 0 = λ ports. PortsFine t ports in
      let G : Held → Type 0 = λ x. PortsFine t x.ports in
      subst P same (fine_replaced t h.conn.number (Some g) old.conns apart (λ x some. let e : g ≡ x = cc in subst G e (subst F (sym (came_ports h u parcel)) fine)))

pub seat_fine : (t : ℕ) (old : Worker) (sh : Shared) (seat : Seat) (answer : Answer) (said : Note) (new : Worker) (after : Shared) → ConnsApart t old.conns
    → SeatNext old sh seat answer said new after → ConnsFine t new.conns
seat_fine t old sh Offers answer said new after apart next = offers_fine t old new old.offered said apart next.1
seat_fine t old sh Inbox answer said new after apart next = inbox_fine t old new next.1.parcel said apart next.1.is
seat_fine t old sh (Of conn) answer said new after apart next =
    let P : Worker → Type 0 = λ w. ConnsFine t w.conns in
    subst P (sym next.new_is) (fine_replaced t conn next.became old.conns apart (λ g is. by_one g is)) where
      by_one : (g : Held) → next.became ≡ Some g → PortsFine t g.ports
      by_one g is =
          let N : Option Held → Type 0 = λ o. TryNext old.setup next.held sh next.try answer said o after in
          try_fine t old.setup sh after answer said next.try next.held g (apart_found t conn old.conns next.held apart next.has) (subst N is next.next)

-- ---- which tunnel opened

asked_opened : (config : Config) (book : List Entry) (actor : ℕ) (asked : Call) (said : Reply) → IsAnswer config book asked said → AreOpened (length book) (Replied (asked_by book actor asked said).reply)
asked_opened config book actor (call.Open conn stream by goal) (reply.Opened tunnel routes) is = is.1
asked_opened config book actor (call.Assign t asked) (reply.Opened tunnel routes) is = absurd is
asked_opened config book actor (call.Advertise t ranges) (reply.Opened tunnel routes) is = absurd is
asked_opened config book actor (call.Close t) (reply.Opened tunnel routes) is = absurd is
asked_opened config book actor (call.Open conn stream by goal) (reply.HistoryFull entries live) is = tt
asked_opened config book actor (call.Assign t asked) (reply.HistoryFull entries live) is = tt
asked_opened config book actor (call.Advertise t ranges) (reply.HistoryFull entries live) is = tt
asked_opened config book actor (call.Close t) (reply.HistoryFull entries live) is = tt
asked_opened config book actor asked (reply.Assigned list at) is = tt
asked_opened config book actor asked (reply.Accepted accepts at) is = tt
asked_opened config book actor asked reply.Closed is = tt

replied_opened : (sh : Shared) (actor : ℕ) (asked : Call) (said : Reply) (after : Shared) → Asks sh actor asked said after → AreOpened (length sh.book) (Replied said)
replied_opened sh actor asked said after asks =
    let P : Reply → Type 0 = λ r. AreOpened (length sh.book) (Replied r) in
    subst P (sym asks.reply_is) (asked_opened sh.config sh.book actor asked asks.said asks.is)

-- an answer that isn't a reply opened nothing
answers_opened : (actor : ℕ) (sh : Shared) (w : Want) (a : Answer) (after : Shared) → Answers actor sh w a after → AreOpened (length sh.book) a
answers_opened actor sh w Said after is = tt
answers_opened actor sh w (Bound did) after is = tt
answers_opened actor sh w (Judged v at) after is = tt
answers_opened actor sh w (Pushed did) after is = tt
answers_opened actor sh w (Put port limit) after is = tt
answers_opened actor sh (Ask asked) (Replied said) after is = replied_opened sh actor asked said after is
answers_opened actor sh Nothing (Replied said) after is = absurd is
answers_opened actor sh Say (Replied said) after is = absurd is
answers_opened actor sh (Bind stream goal) (Replied said) after is = absurd is
answers_opened actor sh (Judge tunnel n flow) (Replied said) after is = absurd is
answers_opened actor sh (Push parcel) (Replied said) after is = absurd is
answers_opened actor sh (Send tunnel n payload) (Replied said) after is = absurd is
answers_opened actor sh (Over why) (Replied said) after is = absurd is

module _ (setup : Setup) (sh after : Shared) (answer : Answer) (said : Note) (new : Option Held) where
  said_opened : answer ≡ Said → AreOpened (length sh.book) answer
  said_opened is = let P : Answer → Type 0 = λ a. AreOpened (length sh.book) a in subst P (sym is) tt

  act_opened : (h : Held) → ActNext h sh answer said new after → AreOpened (length sh.book) answer
  act_opened h next = answers_opened h.conn.actor sh (want_of h.conn) answer after next.answers

  write_opened : (b : Bool) (h : Held) → WriteNext b h sh answer said new after → AreOpened (length sh.book) answer
  write_opened true h next = act_opened _ next
  write_opened false h next = said_opened next.said

  read_opened : (b : Bool) (h : Held) → ReadNext b setup h sh answer said new after → AreOpened (length sh.book) answer
  read_opened true h next = act_opened _ next
  read_opened false h next = said_opened next.0

  port_opened : (b : Bool) (h : Held) (p : Port) → PortNext b h p sh answer said new after → AreOpened (length sh.book) answer
  port_opened true h p next = act_opened _ next
  port_opened false h p next = said_opened next.said

  receive_opened : (o : Option Port) (h : Held) → ReceiveNext o h sh answer said new after → AreOpened (length sh.book) answer
  receive_opened None h next = absurd next
  receive_opened (Some p) h next = port_opened p.receive_fails h p next

  try_opened : (try : Try) (h : Held) → TryNext setup h sh try answer said new after → AreOpened (length sh.book) answer
  try_opened Act h next = act_opened h next
  try_opened Frame h next = said_opened next.said
  try_opened Write h next = write_opened h.link.write_fails h next
  try_opened Read h next = read_opened h.link.read_fails h next
  try_opened (Receive tunnel) h next = receive_opened (port_of h.ports tunnel) h next

pub seat_opened : (old : Worker) (sh : Shared) (seat : Seat) (answer : Answer) (said : Note) (new : Worker) (after : Shared) → SeatNext old sh seat answer said new after
    → AreOpened (length sh.book) answer
seat_opened old sh Offers answer said new after next = said_opened old.setup sh after answer said None next.0
seat_opened old sh Inbox answer said new after next = said_opened old.setup sh after answer said None next.0
seat_opened old sh (Of conn) answer said new after next = try_opened old.setup sh after answer said next.became next.try next.held next.next

-- ---- before the turn

-- no tunnel has this number
abbrev TunnelsApart : ℕ → List Tunnel → Type 0
TunnelsApart t [] = ⊤
TunnelsApart t (u ∷ us) = (u.id ≢ t) × TunnelsApart t us

tunnels_apart : (t : ℕ) (us : List Tunnel) → ((j : ℕ) (u : Tunnel) → slice_get us j ≡ Some u → u.id ≢ t) → TunnelsApart t us
tunnels_apart t [] each = tt
tunnels_apart t (u ∷ us) each = (each zero u refl, tunnels_apart t us (λ j v at. each (suc j) v at))

-- no number is this one
abbrev NumbersApart : ℕ → List ℕ → Type 0
NumbersApart t [] = ⊤
NumbersApart t (n ∷ ns) = (n ≢ t) × NumbersApart t ns

one_apart : (t : ℕ) (g : Goal) (id : ℕ) (ns : List ℕ) → id ≢ t → NumbersApart t ns → NumbersApart t (port_number g id ++ ns)
one_apart t (goal.Udp addr port) id ns ne apart = (ne, apart)
one_apart t (goal.Ip area protocol) id ns ne apart = apart

numbers_apart : (t : ℕ) (us : List Tunnel) → TunnelsApart t us → NumbersApart t (numbers_of us)
numbers_apart t [] apart = tt
numbers_apart t (u ∷ us) apart = one_apart t u.goal u.id (numbers_of us) apart.0 (numbers_apart t us apart.1)

listed_apart : (more : List ℕ) (t : ℕ) (ns : List ℕ) (ports : List Port) → NumbersApart t ns → ns ≡ tunnels_of ports ++ more → PortsApart t ports
listed_apart more t ns [] apart same = tt
listed_apart more t [] (p ∷ ports) apart same = absurd cc
listed_apart more t (n ∷ ns) (p ∷ ports) apart same =
    let first : n ≡ p.tunnel = cc in
    let rest : ns ≡ tunnels_of ports ++ more = cc in
    (λ e. apart.0 (first ∙ e), listed_apart more t ns ports apart.1 rest)

ports_apart : (more : List ℕ) (t : ℕ) (us : List Tunnel) (ports : List Port) → TunnelsApart t us → numbers_of us ≡ tunnels_of ports ++ more → PortsApart t ports
ports_apart more t us ports apart same = listed_apart more t (numbers_of us) ports (numbers_apart t us apart) same

all_apart : (t : ℕ) (us : List Tunnel) (ports : List Port) → TunnelsApart t us → tunnels_of ports ≡ numbers_of us → PortsApart t ports
all_apart t us ports apart same = ports_apart [] t us ports apart (sym same ∙ sym (append-nil (tunnels_of ports)))

served_apart : (t : ℕ) (why : Option End) (us : List Tunnel) (ports : List Port) → TunnelsApart t us → AreServed why us ports → PortsApart t ports
served_apart t None us ports apart served = all_apart t us ports apart served
served_apart t (Some why) us ports apart (inl same) = all_apart t us ports apart same
served_apart t (Some why) us ports apart (inr (last, is)) = ports_apart (last ∷ []) t us ports apart is

apart_all : (t : ℕ) (hs : List Held) → ((i : ℕ) (h : Held) → slice_get hs i ≡ Some h → PortsApart t h.ports) → ConnsApart t hs
apart_all t [] each = tt
apart_all t (h ∷ hs) each = (each zero h refl, apart_all t hs (λ i g at. each (suc i) g at))

module _ {L Q : Type 0} (most : Q → ℕ) (table : Slab Q) (r : Ring L) (w : Worker) (is : IsWorker most table r w) where
  -- a tunnel of a connection is one that its office knows as live
  open_tunnel : (o : Outside) (seen : Seen) (boxes : Inboxes) → Known (sight o seen boxes) w → (i : ℕ) (h : Held) → slice_get w.conns i ≡ Some h → (j : ℕ) (u : Tunnel) → slice_get h.conn.tunnels j ≡ Some u
      → IsOpen seen.entries w.id u.id h.conn.number u.stream u.goal
  open_tunnel o seen boxes known i h at j u at_u =
      let C : Tunnel → Type 0 = λ v. Contains h.conn.tunnels v in
      (known.tunnels u.id h.conn.number u.stream u.goal).0 (record {
        held = h;
        t = u;
        at = found_at w.conns i h (apart_of most table r w is) at;
        has = at_all C h.conn.tunnels (All-contains_itself h.conn.tunnels) j u at_u;
        id = refl;
        on = refl;
        leads = refl;
      })

  -- no port is of a tunnel that no connection has
  conns_apart : (t : ℕ) → ((i : ℕ) (h : Held) → slice_get w.conns i ≡ Some h → (j : ℕ) (u : Tunnel) → slice_get h.conn.tunnels j ≡ Some u → u.id ≢ t) → ConnsApart t w.conns
  conns_apart t none = apart_all t w.conns each where
    each : (i : ℕ) (h : Held) → slice_get w.conns i ≡ Some h → PortsApart t h.ports
    each i h at =
        let found = at_held most table r.conns.items w.conns i h is.conns at in
        served_apart t h.conn.ending h.conn.tunnels h.ports (tunnels_apart t h.conn.tunnels (λ j u at_u. none i h at j u at_u)) found.2.served

  -- its ports are those of tunnels that its office has seen
  pub apart_before : (o : Outside) (seen : Seen) (boxes : Inboxes) → Known (sight o seen boxes) w → ConnsApart (length seen.entries) w.conns
  apart_before o seen boxes known = conns_apart (length seen.entries) (λ i h at j u at_u e.
      let less = open_within seen.entries w.id u.id h.conn.number u.stream u.goal (open_tunnel o seen boxes known i h at j u at_u) in
      omega (arith, less, e))

  -- and that it opened
  pub apart_other : (o : Outside) (seen : Seen) (boxes : Inboxes) (t : ℕ) (e : Entry) → Known (sight o seen boxes) w → slice_get seen.entries t ≡ Some e → e.actor ≢ w.id → ConnsApart t w.conns
  apart_other o seen boxes t e known at_e ne = conns_apart t (λ i h at j u at_u same.
      let live = open_tunnel o seen boxes known i h at j u at_u in
      let both : Some live.entry ≡ Some e = sym live.at ∙ ap (λ (n : ℕ). slice_get seen.entries n) same ∙ at_e in
      let one : live.entry ≡ e = cc in
      ne (ap (λ (x : Entry). x.actor) (sym one) ∙ live.by))

  -- ---- behind it

  pub turn_emptied : (o n : Outside) (seen : Seen) (boxes : Inboxes) (box : List Parcel) (sh : Shared) (answer : Answer) (said : Note) (became : Worker) (after : Shared)
      → Known (sight o seen boxes) w → sh.book ≡ seen.entries → WorkerTurn w box sh answer said became after
      → with_held_ports (length seen.entries) (holding empty_port) (with_prepared n answer became) ≡ became
  turn_emptied o n seen boxes box sh answer said became after known book turn =
      let T : List Entry → Type 0 = λ es. AreOpened (length es) answer in
      prepared_emptied (length seen.entries) n answer became (subst T book (seat_opened w sh turn.seat answer said became after turn.next))
      (seat_fine (length seen.entries) w sh turn.seat answer said became after (apart_before o seen boxes known) turn.next)

  pub still_emptied : (o : Outside) (seen : Seen) (boxes : Inboxes) → Known (sight o seen boxes) w → with_held_ports (length seen.entries) (holding empty_port) w ≡ w
  still_emptied o seen boxes known = worker_clear (length seen.entries) w (conns_fine (length seen.entries) w.conns (apart_before o seen boxes known))

  pub starved_emptied : (o : Outside) (seen : Seen) (boxes : Inboxes) (box : List Parcel) (sh : Shared) (reached : Reached) (answer : Answer) (t : Worker) (after : Shared)
      → Known (sight o seen boxes) w → WorkerStarves w box sh reached answer t after → with_held_ports (length seen.entries) (holding empty_port) t ≡ t
  starved_emptied o seen boxes box sh reached answer t after known starves = worker_clear k t (by_seat starves.seat starves.starves) where
    k : ℕ
    k = length seen.entries

    apart : ConnsApart (length seen.entries) w.conns
    apart = apart_before o seen boxes known

    Fine : Worker → Type 0
    Fine x = ConnsFine (length seen.entries) x.conns

    by_seat : (seat : Seat) → SeatStarves w sh seat reached answer t after → ConnsFine (length seen.entries) t.conns
    by_seat Offers x = let P : Worker → Type 0 = λ y. ConnsFine (length seen.entries) y.conns in subst P (sym x.2) (conns_fine (length seen.entries) w.conns apart)
    by_seat Inbox x = absurd x
    by_seat (Of number) x =
        let P : Worker → Type 0 = λ y. ConnsFine (length seen.entries) y.conns in
        let here = apart_fine (length seen.entries) x.held.ports (apart_found (length seen.entries) number w.conns x.held apart x.has) in
        subst P (sym x.new_is) (fine_replaced (length seen.entries) number _ w.conns apart (λ g same. one g same here)) where
          one : {h : Held} → (g : Held) → Some h ≡ Some g → PortsFine (length seen.entries) h.ports → PortsFine (length seen.entries) g.ports
          one {h} g same fine = let e : h ≡ g = cc in let P : Held → Type 0 = λ y. PortsFine (length seen.entries) y.ports in subst P e fine
