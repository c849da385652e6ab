-- What is so of each connection stays so where a line happens, and where one connection is put in place of another.
use Rattle.std.proofs.Common.{ℕ, zero, suc, List, [], ◌∷◌, length, map, Option, Some, None}
use Rattle.std.specs.Prelude.{◌==◌}
use Rattle.std.specs.List.{AllByRecursion}
use Rattle.mq_machine.specs.declared.event.Event.{Event}
use Rattle.mq_machine.specs.declared.event.Event.TheVariants as event
use Rattle.mq_machine.specs.declared.setup.Setup.{Setup}
use Rattle.mq_machine.specs.State.{Conn, Link, Port, Held, Worker, State}
use Rattle.mq_machine.specs.Turn.{replace}
use Rattle.mq_play.specs.Events.{at_held, at_worker, with_ports, with_held_ports, offered_to, happen}
use Rattle.mq_play.proofs.Lists.{if_both, each_map}

-- what doesn't ask for the setup
abbrev pub any_setup : (Conn → Type 0) → Setup → Conn → Type 0
any_setup K setup c = K c

module _ (K : Setup → Conn → Type 0) where
  abbrev pub HeldsHave : Setup → List Held → Type 0
  HeldsHave setup hs = AllByRecursion (λ (h : Held). K setup h.conn) hs

  abbrev pub WorkersHave : List Worker → Type 0
  WorkersHave ws = AllByRecursion (λ (w : Worker). HeldsHave w.setup w.conns) ws

  abbrev pub NewHas : Setup → Option Held → Type 0
  NewHas setup None = Unit {0}
  NewHas setup (Some h) = K setup h.conn

  pub replaced_have : (setup : Setup) (k : ℕ) (new : Option Held) (hs : List Held) → NewHas setup new → HeldsHave setup hs → HeldsHave setup (replace k new hs)
  replaced_have setup k new [] b h = tt
  replaced_have setup k None (g ∷ hs) b h = if_both (HeldsHave setup) (g.conn.number == k) hs (g ∷ replace k None hs) h.1 (h.0, replaced_have setup k None hs b h.1)
  replaced_have setup k (Some f) (g ∷ hs) b h = if_both (HeldsHave setup) (g.conn.number == k) (f ∷ hs) (g ∷ replace k (Some f) hs) (b, h.1) (h.0, replaced_have setup k (Some f) hs b h.1)

  link_have : (k : ℕ) (change : Link → Link) (ws : List Worker) → WorkersHave ws → WorkersHave (map (at_worker k change) ws)
  link_have k change ws h =
      each_map (λ (w : Worker). HeldsHave w.setup w.conns) (λ (w : Worker). HeldsHave w.setup w.conns) (at_worker k change) ws
      (λ w p. each_map (λ (g : Held). K w.setup g.conn) (λ (g : Held). K w.setup g.conn) (at_held k change) w.conns (λ g q. if_both (λ (g : Held). K w.setup g.conn) (g.conn.number == k) (record g { link = change g.link }) g q q) p) h

  port_have : (k : ℕ) (change : Port → Port) (ws : List Worker) → WorkersHave ws → WorkersHave (map (with_held_ports k change) ws)
  port_have k change ws h =
      each_map (λ (w : Worker). HeldsHave w.setup w.conns) (λ (w : Worker). HeldsHave w.setup w.conns) (with_held_ports k change) ws
      (λ w p. each_map (λ (g : Held). K w.setup g.conn) (λ (g : Held). K w.setup g.conn) (with_ports k change) w.conns (λ g q. q) p) h

  offered_have : (actor number : ℕ) (ws : List Worker) → WorkersHave ws → WorkersHave (offered_to actor number ws)
  offered_have actor number [] h = tt
  offered_have zero number (w ∷ ws) h = (h.0, h.1)
  offered_have (suc actor) number (w ∷ ws) h = (h.0, offered_have actor number ws h.1)

  pub happen_have : (s : State) (e : Event) → WorkersHave s.workers → WorkersHave (happen s e).workers
  happen_have s (event.Conn actor) h = offered_have actor (length s.links) s.workers h
  happen_have s (event.Piece conn bytes) h = link_have conn _ s.workers h
  happen_have s (event.End conn) h = link_have conn _ s.workers h
  happen_have s (event.Room conn room) h = link_have conn _ s.workers h
  happen_have s (event.FailRead conn) h = link_have conn _ s.workers h
  happen_have s (event.FailWrite conn) h = link_have conn _ s.workers h
  happen_have s (event.Datagram tunnel bytes) h = port_have tunnel _ s.workers h
  happen_have s (event.FailPort tunnel) h = port_have tunnel _ s.workers h
  happen_have s event.FailBind h = h
  happen_have s event.FailNet h = h
  happen_have s (event.Packet count bytes) h = h
  happen_have s (event.Step actor) h = h

helds_more : (K L : Conn → Type 0) → ((c : Conn) → K c → L c) → (setup : Setup) (hs : List Held) → HeldsHave (any_setup K) setup hs → HeldsHave (any_setup L) setup hs
helds_more K L into setup [] h = tt
helds_more K L into setup (g ∷ hs) h = (into g.conn h.0, helds_more K L into setup hs h.1)

pub have_more : (K L : Conn → Type 0) → ((c : Conn) → K c → L c) → (ws : List Worker) → WorkersHave (any_setup K) ws → WorkersHave (any_setup L) ws
have_more K L into [] h = tt
have_more K L into (w ∷ ws) h = (helds_more K L into w.setup w.conns h.0, have_more K L into ws h.1)
