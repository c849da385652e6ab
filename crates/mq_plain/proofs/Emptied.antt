-- The port of a tunnel that opens holds nothing: behind a turn no port of the next number holds anything.
use Rattle.std.proofs.Common.{◌≡◌, ◌≢◌, ◌⊎◌, inl, inr, ℕ, ◌==◌, nat_lt, Bool, true, false, not, cond, List, [], ◌∷◌, ◌++◌, length, map, find, Option, Some, None, refl, sym, ap, subst, ◌∙◌}
use Rattle.std.specs.Prelude.{⊤, option_map, if◌then◌else◌}
use Rattle.std.proofs.lemmas.Bool.{ne_eqb}
use Rattle.mq_outside.specs.Ports.{PortHolds, empty_port}
use Rattle.mq_talk.specs.declared.book.Call.{Call}
use Rattle.mq_talk.specs.declared.book.Call.TheVariants as call
use Rattle.mq_talk.specs.declared.book.Reply.{Reply}
use Rattle.mq_talk.specs.declared.book.Reply.TheVariants as reply
use Rattle.mq_talk.specs.declared.goal.Goal.TheVariants as goal
use Rattle.mq_talk.specs.declared.note.Note.{Note}
use Rattle.mq_machine.specs.declared.setup.Setup.{Setup}
use Rattle.mq_machine.specs.State.{Conn, Tunnel, tunnel_of, Port, Held, Worker, Shared}
use Rattle.mq_machine.specs.Want.{Want, Nothing, Say, Bind, Ask, Judge, Push, Send, Over, Answer, Said, Bound, Replied, Judged, Pushed, Put, want_of}
use Rattle.mq_machine.specs.Shared.{at_port, without_port, ports_after, port_sent, port_of}
use Rattle.mq_machine.specs.Done.{done}
use Rattle.mq_machine.specs.Steps.{framed, received, port_received}
use Rattle.mq_machine.specs.Acting.{Outside, holds_of, holding, prepared, with_prepared}
use Rattle.mq_machine.specs.Turn.{Try, Act, Frame, Write, Read, Receive, with_conn, over_or, ActNext, TakesNext, WriteNext, ReadNext, PortNext, ReceiveNext, TryNext, write_failed, read_failed, receive_failed, HeldDone, received_from, replace}
use Rattle.mq_play.specs.Events.{with_ports, with_held_ports}

-- ---- ports

-- its tunnel is another
abbrev pub PortsApart : ℕ → List Port → Type 0
PortsApart t [] = ⊤
PortsApart t (p ∷ ports) = (p.tunnel ≢ t) × PortsApart t ports

-- or it holds nothing
abbrev pub IsFine : ℕ → Port → Type 0
IsFine t p = (p.tunnel ≢ t) ⊎ (holds_of p ≡ empty_port)

abbrev pub PortsFine : ℕ → List Port → Type 0
PortsFine t [] = ⊤
PortsFine t (p ∷ ports) = IsFine t p × PortsFine t ports

pub apart_fine : (t : ℕ) (ports : List Port) → PortsApart t ports → PortsFine t ports
apart_fine t [] apart = tt
apart_fine t (p ∷ ports) apart = (inl apart.0, apart_fine t ports apart.1)

fine_more : (t : ℕ) (ports : List Port) (q : Port) → PortsApart t ports → IsFine t q → PortsFine t (ports ++ q ∷ [])
fine_more t [] q apart fine = (fine, tt)
fine_more t (p ∷ ports) q apart fine = (inl apart.0, fine_more t ports q apart.1 fine)

apart_at : (t u : ℕ) (change : Port → Port) → ((p : Port) → (change p).tunnel ≡ p.tunnel) → (ports : List Port) → PortsApart t ports → PortsApart t (at_port u change ports)
apart_at t u change keeps [] apart = tt
apart_at t u change keeps (p ∷ ports) apart = (here (p.tunnel == u), apart_at t u change keeps ports apart.1) where
  here : (b : Bool) → (if b then change p else p).tunnel ≢ t
  here true = λ same. apart.0 (sym (keeps p) ∙ same)
  here false = apart.0

apart_without : (t u : ℕ) (ports : List Port) → PortsApart t ports → PortsApart t (without_port u ports)
apart_without t u [] apart = tt
apart_without t u (p ∷ ports) apart = here (not (p.tunnel == u)) (apart_without t u ports apart.1) where
  here : (b : Bool) → PortsApart t (without_port u ports) → PortsApart t (if b then p ∷ without_port u ports else without_port u ports)
  here true rest = (apart.0, rest)
  here false rest = rest

sent_tunnel : (payload : List ℕ) (p : Port) → (port_sent payload p).tunnel ≡ p.tunnel
sent_tunnel payload p = by_case (nat_lt p.limit (length payload)) p.send_fails where
  by_case : (b d : Bool) → (cond b p (cond d (record p { send_fails = false }) (record p { sent = p.sent ++ payload ∷ [] }))).tunnel ≡ p.tunnel
  by_case true d = refl
  by_case false true = refl
  by_case false false = refl

-- ---- an answer

opened_fine : (t conn stream actor : ℕ) (g : _) (r : Reply) (ports : List Port) → PortsApart t ports → PortsFine t (ports_after (Ask (call.Open conn stream actor g)) (Replied r) ports)
opened_fine t conn stream actor (goal.Udp addr number) (reply.Opened tunnel routes) ports apart = fine_more t ports _ apart (inr refl)
opened_fine t conn stream actor (goal.Udp addr number) (reply.HistoryFull entries live) ports apart = apart_fine t ports apart
opened_fine t conn stream actor (goal.Udp addr number) (reply.Assigned list at) ports apart = apart_fine t ports apart
opened_fine t conn stream actor (goal.Udp addr number) (reply.Accepted accepts at) ports apart = apart_fine t ports apart
opened_fine t conn stream actor (goal.Udp addr number) reply.Closed ports apart = apart_fine t ports apart
opened_fine t conn stream actor (goal.Ip area protocol) r ports apart = apart_fine t ports apart

closed_fine : (t tunnel : ℕ) (r : Reply) (ports : List Port) → PortsApart t ports → PortsFine t (ports_after (Ask (call.Close tunnel)) (Replied r) ports)
closed_fine t tunnel (reply.Opened u routes) ports apart = apart_fine t ports apart
closed_fine t tunnel (reply.HistoryFull entries live) ports apart = apart_fine t ports apart
closed_fine t tunnel (reply.Assigned list at) ports apart = apart_fine t ports apart
closed_fine t tunnel (reply.Accepted accepts at) ports apart = apart_fine t ports apart
closed_fine t tunnel reply.Closed ports apart = apart_fine t (without_port tunnel ports) (apart_without t tunnel ports apart)

asked_fine : (t : ℕ) (asked : Call) (a : Answer) (ports : List Port) → PortsApart t ports → PortsFine t (ports_after (Ask asked) a ports)
asked_fine t (call.Open conn stream actor g) (Replied r) ports apart = opened_fine t conn stream actor g r ports apart
asked_fine t (call.Open conn stream actor (goal.Udp addr number)) Said ports apart = apart_fine t ports apart
asked_fine t (call.Open conn stream actor (goal.Udp addr number)) (Bound did) ports apart = apart_fine t ports apart
asked_fine t (call.Open conn stream actor (goal.Udp addr number)) (Judged v at) ports apart = apart_fine t ports apart
asked_fine t (call.Open conn stream actor (goal.Udp addr number)) (Pushed did) ports apart = apart_fine t ports apart
asked_fine t (call.Open conn stream actor (goal.Udp addr number)) (Put port limit) ports apart = apart_fine t ports apart
asked_fine t (call.Open conn stream actor (goal.Ip area protocol)) Said ports apart = apart_fine t ports apart
asked_fine t (call.Open conn stream actor (goal.Ip area protocol)) (Bound did) ports apart = apart_fine t ports apart
asked_fine t (call.Open conn stream actor (goal.Ip area protocol)) (Judged v at) ports apart = apart_fine t ports apart
asked_fine t (call.Open conn stream actor (goal.Ip area protocol)) (Pushed did) ports apart = apart_fine t ports apart
asked_fine t (call.Open conn stream actor (goal.Ip area protocol)) (Put port limit) ports apart = apart_fine t ports apart
asked_fine t (call.Close tunnel) (Replied r) ports apart = closed_fine t tunnel r ports apart
asked_fine t (call.Close tunnel) Said ports apart = apart_fine t ports apart
asked_fine t (call.Close tunnel) (Bound did) ports apart = apart_fine t ports apart
asked_fine t (call.Close tunnel) (Judged v at) ports apart = apart_fine t ports apart
asked_fine t (call.Close tunnel) (Pushed did) ports apart = apart_fine t ports apart
asked_fine t (call.Close tunnel) (Put port limit) ports apart = apart_fine t ports apart
asked_fine t (call.Assign tunnel asked) a ports apart = apart_fine t ports apart
asked_fine t (call.Advertise tunnel ranges) a ports apart = apart_fine t ports apart

-- behind each answer
answered_fine : (t : ℕ) (w : Want) (a : Answer) (ports : List Port) → PortsApart t ports → PortsFine t (ports_after w a ports)
answered_fine t Nothing a ports apart = apart_fine t ports apart
answered_fine t Say a ports apart = apart_fine t ports apart
answered_fine t (Bind stream g) a ports apart = apart_fine t ports apart
answered_fine t (Ask asked) a ports apart = asked_fine t asked a ports apart
answered_fine t (Judge tunnel n flow) a ports apart = apart_fine t ports apart
answered_fine t (Push parcel) a ports apart = apart_fine t ports apart
answered_fine t (Send tunnel n payload) Said ports apart = apart_fine t ports apart
answered_fine t (Send tunnel n payload) (Bound did) ports apart = apart_fine t ports apart
answered_fine t (Send tunnel n payload) (Replied r) ports apart = apart_fine t ports apart
answered_fine t (Send tunnel n payload) (Judged v at) ports apart = apart_fine t ports apart
answered_fine t (Send tunnel n payload) (Pushed did) ports apart = apart_fine t ports apart
answered_fine t (Send tunnel n payload) (Put port limit) ports apart =
    apart_fine t (at_port tunnel (port_sent payload) ports) (apart_at t tunnel (port_sent payload) (sent_tunnel payload) ports apart)
answered_fine t (Over why) a ports apart = apart_fine t ports apart

-- ---- a connection

-- the ports of the connection behind a step, or these
abbrev ports_or : List Port → HeldDone → List Port
ports_or ports None = ports
ports_or ports (Some (n, None)) = ports
ports_or ports (Some (n, Some g)) = g.ports

abbrev goes_on : HeldDone → Bool
goes_on None = false
goes_on (Some (n, None)) = false
goes_on (Some (n, Some g)) = true

mapped_ports : (x g : Held) (o : Option (Note × Conn)) (n : Note) → option_map (with_conn x) o ≡ Some (n, Some g) → g.ports ≡ x.ports
mapped_ports x g None n is = let e : false ≡ true = ap goes_on is in absurd cc
mapped_ports x g (Some d) n is = sym (ap (ports_or []) is)

acted_ports : (h g : Held) (w : Want) (a : Answer) (n : Note) → over_or h w a ≡ Some (n, Some g) → g.ports ≡ ports_after w a h.ports
acted_ports h g Nothing a n is = mapped_ports (record h { ports = ports_after Nothing a h.ports }) g (done h.conn a) n is
acted_ports h g Say a n is = mapped_ports (record h { ports = ports_after Say a h.ports }) g (done h.conn a) n is
acted_ports h g (Bind stream k) a n is = mapped_ports (record h { ports = ports_after (Bind stream k) a h.ports }) g (done h.conn a) n is
acted_ports h g (Ask asked) a n is = mapped_ports (record h { ports = ports_after (Ask asked) a h.ports }) g (done h.conn a) n is
acted_ports h g (Judge tunnel k flow) a n is = mapped_ports (record h { ports = ports_after (Judge tunnel k flow) a h.ports }) g (done h.conn a) n is
acted_ports h g (Push parcel) a n is = mapped_ports (record h { ports = ports_after (Push parcel) a h.ports }) g (done h.conn a) n is
acted_ports h g (Send tunnel k payload) a n is = mapped_ports (record h { ports = ports_after (Send tunnel k payload) a h.ports }) g (done h.conn a) n is
acted_ports h g (Over why) a n is = let e : false ≡ true = ap goes_on is in absurd cc

module _ (t : ℕ) (setup : Setup) (sh after : Shared) (answer : Answer) (said : Note) where
  act_fine : (h g : Held) → PortsApart t h.ports → ActNext h sh answer said (Some g) after → PortsFine t g.ports
  act_fine h g apart next =
      let P : List Port → Type 0 = λ ps. PortsFine t ps in
      subst P (sym (acted_ports h g (want_of h.conn) answer said next.is)) (answered_fine t (want_of h.conn) answer h.ports apart)

  same_fine : (h g : Held) → PortsApart t h.ports → g.ports ≡ h.ports → PortsFine t g.ports
  same_fine h g apart same = let P : List Port → Type 0 = λ ps. PortsFine t ps in subst P (sym same) (apart_fine t h.ports apart)

  write_fine : (b : Bool) (h g : Held) → PortsApart t h.ports → WriteNext b h sh answer said (Some g) after → PortsFine t g.ports
  write_fine true h g apart next = act_fine (write_failed h) g apart next
  write_fine false h g apart next = same_fine h g apart (sym (ap (ports_or []) next.is))

  takes_fine : (pieces : List (List ℕ)) (h g : Held) → PortsApart t h.ports → TakesNext setup h pieces said (Some g) → PortsFine t g.ports
  takes_fine [] h g apart next = same_fine h g apart (sym (ap (ports_or []) next.is))
  takes_fine (first ∷ others) h g apart next = same_fine h g apart (ap (λ (o : Option Held). ports_of o) next.new_is) where
    ports_of : Option Held → List Port
    ports_of None = []
    ports_of (Some x) = x.ports

  read_fine : (b : Bool) (h g : Held) → PortsApart t h.ports → ReadNext b setup h sh answer said (Some g) after → PortsFine t g.ports
  read_fine true h g apart next = act_fine (read_failed h) g apart next
  read_fine false h g apart next = takes_fine h.link.pieces h g apart next.1

  failed_apart : (h : Held) (p : Port) (o : Option Tunnel) → PortsApart t h.ports → PortsApart t (receive_failed h p o).ports
  failed_apart h p None apart = apart
  failed_apart h p (Some u) apart = apart

  from_fine : (h g : Held) (p : Port) (waiting : List (List ℕ)) → PortsApart t h.ports → received_from h p waiting ≡ Some (said, Some g) → PortsFine t g.ports
  from_fine h g p [] apart is = absurd cc
  from_fine h g p (datagram ∷ others) apart is =
      let P : List Port → Type 0 = λ ps. PortsFine t ps in
      let x : Held = record h { ports = at_port p.tunnel port_received h.ports } in
      subst P (sym (mapped_ports x g (received h.conn p datagram) said is)) (apart_fine t x.ports (apart_at t p.tunnel port_received (λ q. refl) h.ports apart))

  port_fine : (b : Bool) (h g : Held) (p : Port) → PortsApart t h.ports → PortNext b h p sh answer said (Some g) after → PortsFine t g.ports
  port_fine true h g p apart next = act_fine (receive_failed h p (tunnel_of h.conn p.tunnel)) g (failed_apart h p (tunnel_of h.conn p.tunnel) apart) next
  port_fine false h g p apart next = from_fine h g p p.arrived apart next.is

  receive_fine : (o : Option Port) (h g : Held) → PortsApart t h.ports → ReceiveNext o h sh answer said (Some g) after → PortsFine t g.ports
  receive_fine None h g apart next = absurd next
  receive_fine (Some p) h g apart next = port_fine p.receive_fails h g p apart next

  pub try_fine : (try : Try) (h g : Held) → PortsApart t h.ports → TryNext setup h sh try answer said (Some g) after → PortsFine t g.ports
  try_fine Act h g apart next = act_fine h g apart next
  try_fine Frame h g apart next = same_fine h g apart (mapped_ports h g (framed h.conn) said next.is)
  try_fine Write h g apart next = write_fine h.link.write_fails h g apart next
  try_fine Read h g apart next = read_fine h.link.read_fails h g apart next
  try_fine (Receive tunnel) h g apart next = receive_fine (port_of h.ports tunnel) h g apart next

-- ---- a port is emptied

-- one that holds nothing stays
fine_clear : (t : ℕ) (ports : List Port) → PortsFine t ports → at_port t (holding empty_port) ports ≡ ports
fine_clear t [] fine = refl
fine_clear t (p ∷ ports) fine = ap (λ (ps : List Port). (if p.tunnel == t then holding empty_port p else p) ∷ ps) (fine_clear t ports fine.1) ∙ ap (λ (q : Port). q ∷ ports) (here fine.0) where
  chosen : (b : Bool) → (b ≡ true → holding empty_port p ≡ p) → (if b then holding empty_port p else p) ≡ p
  chosen true is = is refl
  chosen false is = refl

  here : IsFine t p → (if p.tunnel == t then holding empty_port p else p) ≡ p
  here (inl ne) = ap (λ (b : Bool). if b then holding empty_port p else p) (ne_eqb p.tunnel t ne)
  here (inr empty) = chosen (p.tunnel == t) (λ is. ap (λ (h : PortHolds). holding h p) (sym empty))

-- what it was prepared to hold doesn't matter
one_clear : (t : ℕ) (told : Option PortHolds) (p : Port) (b : Bool) → p.tunnel == t ≡ b
    → (if (if b then prepared told p else p).tunnel == t then holding empty_port (if b then prepared told p else p) else (if b then prepared told p else p)) ≡ (if b then holding empty_port p else p)
one_clear t told p false is = ap (λ (c : Bool). if c then holding empty_port p else p) is
one_clear t None p true is = ap (λ (c : Bool). if c then holding empty_port p else p) is
one_clear t (Some holds) p true is = ap (λ (c : Bool). if c then holding empty_port (holding holds p) else holding holds p) is

prepared_clear : (t : ℕ) (told : Option PortHolds) (ports : List Port) → at_port t (holding empty_port) (at_port t (prepared told) ports) ≡ at_port t (holding empty_port) ports
prepared_clear t told [] = refl
prepared_clear t told (p ∷ ports) =
    let q : Port = if p.tunnel == t then prepared told p else p in
    ap (λ (ps : List Port). (if q.tunnel == t then holding empty_port q else q) ∷ ps) (prepared_clear t told ports)
    ∙ ap (λ (r : Port). r ∷ at_port t (holding empty_port) ports) (one_clear t told p (p.tunnel == t) refl)

-- ---- a worker

abbrev pub ConnsApart : ℕ → List Held → Type 0
ConnsApart t [] = ⊤
ConnsApart t (h ∷ hs) = PortsApart t h.ports × ConnsApart t hs

abbrev pub ConnsFine : ℕ → List Held → Type 0
ConnsFine t [] = ⊤
ConnsFine t (h ∷ hs) = PortsFine t h.ports × ConnsFine t hs

pub conns_fine : (t : ℕ) (hs : List Held) → ConnsApart t hs → ConnsFine t hs
conns_fine t [] apart = tt
conns_fine t (h ∷ hs) apart = (apart_fine t h.ports apart.0, conns_fine t hs apart.1)

pub fine_pushed : (t : ℕ) (hs : List Held) (h : Held) → ConnsApart t hs → PortsFine t h.ports → ConnsFine t (hs ++ h ∷ [])
fine_pushed t [] h apart fine = (fine, tt)
fine_pushed t (g ∷ hs) h apart fine = (apart_fine t g.ports apart.0, fine_pushed t hs h apart.1 fine)

pub fine_replaced : (t number : ℕ) (became : Option Held) (hs : List Held) → ConnsApart t hs → ((g : Held) → became ≡ Some g → PortsFine t g.ports) → ConnsFine t (replace number became hs)
fine_replaced t number None [] apart fine = tt
fine_replaced t number (Some g) [] apart fine = tt
fine_replaced t number None (h ∷ hs) apart fine = here (h.conn.number == number) (fine_replaced t number None hs apart.1 fine) where
  here : (b : Bool) → ConnsFine t (replace number None hs) → ConnsFine t (if b then hs else h ∷ replace number None hs)
  here true rest = conns_fine t hs apart.1
  here false rest = (apart_fine t h.ports apart.0, rest)
fine_replaced t number (Some g) (h ∷ hs) apart fine = here (h.conn.number == number) (fine_replaced t number (Some g) hs apart.1 fine) where
  here : (b : Bool) → ConnsFine t (replace number (Some g) hs) → ConnsFine t (if b then g ∷ hs else h ∷ replace number (Some g) hs)
  here true rest = (fine g refl, conns_fine t hs apart.1)
  here false rest = (apart_fine t h.ports apart.0, rest)

-- a connection that is found is one of them
pub apart_any : (t : ℕ) (test : Held → Bool) (hs : List Held) (h : Held) → ConnsApart t hs → find test hs ≡ Some h → PortsApart t h.ports
apart_any t test [] h apart is = absurd cc
apart_any t test (g ∷ hs) h apart is = here (test g) is (λ later. apart_any t test hs h apart.1 later) where
  here : (b : Bool) → cond b (Some g) (find test hs) ≡ Some h → (find test hs ≡ Some h → PortsApart t h.ports) → PortsApart t h.ports
  here true same later = let e : g ≡ h = cc in let P : Held → Type 0 = λ x. PortsApart t x.ports in subst P e apart.0
  here false same later = later same

-- that of a number, too
pub apart_found : (t number : ℕ) (hs : List Held) (h : Held) → ConnsApart t hs → find (λ (g : Held). g.conn.number == number) hs ≡ Some h → PortsApart t h.ports
apart_found t number hs h apart is = apart_any t (λ (g : Held). g.conn.number == number) hs h apart is

conns_clear : (t : ℕ) (hs : List Held) → ConnsFine t hs → map (with_ports t (holding empty_port)) hs ≡ hs
conns_clear t [] fine = refl
conns_clear t (h ∷ hs) fine =
    ap (λ (xs : List Held). with_ports t (holding empty_port) h ∷ xs) (conns_clear t hs fine.1)
    ∙ ap (λ (ps : List Port). record h { ports = ps } ∷ hs) (fine_clear t h.ports fine.0)

-- a worker whose ports of that number hold nothing stays
pub worker_clear : (t : ℕ) (w : Worker) → ConnsFine t w.conns → with_held_ports t (holding empty_port) w ≡ w
worker_clear t w fine = ap (λ (hs : List Held). record w { conns = hs }) (conns_clear t w.conns fine)

conns_prepared : (t : ℕ) (told : Option PortHolds) (hs : List Held)
    → map (with_ports t (holding empty_port)) (map (λ (h : Held). record h { ports = at_port t (prepared told) h.ports }) hs) ≡ map (with_ports t (holding empty_port)) hs
conns_prepared t told [] = refl
conns_prepared t told (h ∷ hs) =
    ap (λ (xs : List Held). record h { ports = at_port t (holding empty_port) (at_port t (prepared told) h.ports) } ∷ xs) (conns_prepared t told hs)
    ∙ ap (λ (ps : List Port). record h { ports = ps } ∷ map (with_ports t (holding empty_port)) hs) (prepared_clear t told h.ports)

-- ---- a turn

abbrev pub AreOpened : ℕ → Answer → Type 0
AreOpened t (Replied (reply.Opened tunnel routes)) = tunnel ≡ t
AreOpened t (Replied (reply.HistoryFull entries live)) = ⊤
AreOpened t (Replied (reply.Assigned list at)) = ⊤
AreOpened t (Replied (reply.Accepted accepts at)) = ⊤
AreOpened t (Replied reply.Closed) = ⊤
AreOpened t Said = ⊤
AreOpened t (Bound did) = ⊤
AreOpened t (Judged v at) = ⊤
AreOpened t (Pushed did) = ⊤
AreOpened t (Put port limit) = ⊤

-- what was prepared is emptied
pub prepared_emptied : (t : ℕ) (n : Outside) (answer : Answer) (w : Worker) → AreOpened t answer → ConnsFine t w.conns → with_held_ports t (holding empty_port) (with_prepared n answer w) ≡ w
prepared_emptied t n (Replied (reply.Opened tunnel routes)) w same fine =
    let F : ℕ → Worker = λ k. with_held_ports t (holding empty_port) (record w { conns = map (λ (h : Held). record h { ports = at_port k (prepared (n.port k)) h.ports }) w.conns }) in
    ap F same ∙ ap (λ (hs : List Held). record w { conns = hs }) (conns_prepared t (n.port t) w.conns) ∙ worker_clear t w fine
prepared_emptied t n (Replied (reply.HistoryFull entries live)) w same fine = worker_clear t w fine
prepared_emptied t n (Replied (reply.Assigned list at)) w same fine = worker_clear t w fine
prepared_emptied t n (Replied (reply.Accepted accepts at)) w same fine = worker_clear t w fine
prepared_emptied t n (Replied reply.Closed) w same fine = worker_clear t w fine
prepared_emptied t n Said w same fine = worker_clear t w fine
prepared_emptied t n (Bound did) w same fine = worker_clear t w fine
prepared_emptied t n (Judged v at) w same fine = worker_clear t w fine
prepared_emptied t n (Pushed did) w same fine = worker_clear t w fine
prepared_emptied t n (Put port limit) w same fine = worker_clear t w fine
