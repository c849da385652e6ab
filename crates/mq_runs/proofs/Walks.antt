-- What is so of each thing that a step does is so of the step: a connection's, a worker's, the pump's.
use Rattle.std.proofs.Common.{◌≡◌, ℕ, Bool, true, false, cond, List, [], ◌∷◌, length, take, drop, Option, Some, None, option_map, refl, sym, subst, ◌&&◌}
use Rattle.std.specs.Prelude.{find, ◌==◌}
use Rattle.std.proofs.lemmas.Bool.{eqb-true}
use Rattle.mq_talk.specs.declared.note.Note.{Note}
use Rattle.mq_talk.specs.declared.note.Note.TheVariants as note
use Rattle.mq_outside.specs.Links.{behind, room_left}
use Rattle.mq_machine.specs.declared.setup.Setup.{Setup}
use Rattle.mq_machine.specs.State.{Conn, Tunnel, Link, Port, Held, Shared, tunnel_of}
use Rattle.mq_machine.specs.Want.{Want, Nothing, Say, Bind, Ask, Judge, Push, Send, Over, Answer, want_of, may_wait}
use Rattle.mq_machine.specs.Done.{Done}
use Rattle.mq_machine.specs.Shared.{at_port, port_of}
use Rattle.mq_machine.specs.Steps.{can_read, framed, wrote, finished, failed, received, port_received, port_failed}
use Rattle.mq_machine.specs.Reading.{TookNext, EndsThere}
use Rattle.mq_machine.specs.Turn.{can_do, can_take, can_try, tries_of, try_of, Try, Act, Frame, Write, Read, Receive, with_conn, ActNext, OwnNext, write_count, most_read, TakesNext, received_from, receive_failed, WriteNext, ReadNext, PortNext, ReceiveNext, TryNext}
use Rattle.mq_play.proofs.Lists.{some_same}

-- ---- options

-- what a mapped option was
pub map_was : {A B : Type 0} (f : A → B) (o : Option A) (y : B) → option_map f o ≡ Some y → (x : A) × (o ≡ Some x) × (f x ≡ y)
map_was f None y e = absurd cc
map_was f (Some x) y e = (x, refl, some_same e)

-- what is found passes
found_by : {A : Type 0} (p : A → Bool) (b : Bool) (x y : A) (o : Option A) → p x ≡ b → cond b (Some x) o ≡ Some y → (o ≡ Some y → p y ≡ true) → p y ≡ true
found_by p true x y o is e h = subst (λ z. p z ≡ true) (some_same e) is
found_by p false x y o is e h = h e

pub found_passes : {A : Type 0} (p : A → Bool) (xs : List A) (y : A) → find p xs ≡ Some y → p y ≡ true
found_passes p [] y e = absurd cc
found_passes p (x ∷ xs) y e = found_by p (p x) x y (find p xs) refl e (found_passes p xs y)

pub left_true : (a b : Bool) → a && b ≡ true → a ≡ true
left_true true b h = refl
left_true false b h = h

-- ---- a connection's step

-- the first try wasn't it
passed_act : (b : Bool) (o : Option Try) (k : ℕ) → cond b (Some Act) o ≡ Some (Receive k) → b ≡ false
passed_act true o k e = absurd cc
passed_act false o k e = refl

waits_so : (ports : List Port) (w : Want) → can_do ports w ≡ false → may_wait w ≡ true
waits_so ports Nothing h = refl
waits_so ports Say h = absurd cc
waits_so ports (Bind stream goal) h = absurd cc
waits_so ports (Ask call) h = absurd cc
waits_so ports (Judge tunnel n flow) h = absurd cc
waits_so ports (Push parcel) h = absurd cc
waits_so ports (Send tunnel n payload) h = refl
waits_so ports (Over reason) h = absurd cc

pub record HandlesHeld (setup : Setup) (old : Held) (sh : Shared) (P : Note → Option Held → Shared → Type 0) : Type 0 where
  pub acts : (answer : Answer) (note : Note) (new : Option Held) (after : Shared) → ActNext old sh answer note new after → P note new after
  pub link_fails : (link : Link) (answer : Answer) (note : Note) (new : Option Held) (after : Shared)
      → ActNext (record old { conn = failed old.conn; link = link }) sh answer note new after → P note new after
  pub port_fails : (p : Port) (t : Tunnel) (answer : Answer) (note : Note) (new : Option Held) (after : Shared) → tunnel_of old.conn p.tunnel ≡ Some t
      → may_wait (want_of old.conn) ≡ true → ActNext (record old { conn = port_failed old.conn t }) sh answer note new after → P note new after
  pub frames : (d : Note × Conn) → framed old.conn ≡ Some d → P d.0 (Some (record old { conn = d.1 })) sh
  pub writes : P (wrote old.conn (write_count old)).0
      (Some (record old { conn = (wrote old.conn (write_count old)).1; link = record old.link { room = room_left old.link.room (write_count old) } })) sh
  pub reads : (first : List ℕ) (conn : Conn) (link : Link) → TookNext setup old.conn (take most_read first) conn
      → P (note.Took old.conn.number (length (take most_read first))) (Some (record old { conn = conn; link = link })) sh
  pub ends : (inside : Bool) → EndsThere old.conn inside → can_read old.conn ≡ true → P (note.Finished old.conn.number) (Some (record old { conn = (finished old.conn inside).1 })) sh
  pub receives : (p : Port) (datagram : List ℕ) (others : List (List ℕ)) (d : Note × Conn) → port_of old.ports p.tunnel ≡ Some p → p.arrived ≡ datagram ∷ others
      → received old.conn p datagram ≡ Some d → P d.0 (Some (record old { conn = d.1; ports = at_port p.tunnel port_received old.ports })) sh

module _ (setup : Setup) (old : Held) (sh : Shared) (P : Note → Option Held → Shared → Type 0) (h : HandlesHeld setup old sh P) where
  with_own : (answer : Answer) (note : Note) (new : Option Held) (after : Shared) (o : Done) (f : Note × Conn → Note × Option Held)
      → ((d : Note × Conn) → o ≡ Some d → P (f d).0 (f d).1 sh) → OwnNext sh answer note new after (option_map f o) → P note new after
  with_own answer note new after o f k x =
      let was = map_was f o (note, new) x.is in
      let Q : Note × Option Held → Type 0 = λ d. P d.0 d.1 sh in
      subst (λ s. P note new s) (sym x.after_is) (subst Q was.2 (k was.0 was.1))

  write_walk : (b : Bool) (answer : Answer) (note : Note) (new : Option Held) (after : Shared) → WriteNext b old sh answer note new after → P note new after
  write_walk true answer note new after x = h.link_fails (record old.link { write_fails = false }) answer note new after x
  write_walk false answer note new after x =
      with_own answer note new after (Some (wrote old.conn (write_count old))) (with_conn (record old { link = record old.link { room = room_left old.link.room (write_count old) } }))
      (λ d e. let Q : Note × Conn → Type 0 = λ d. P d.0 (Some (record old { conn = d.1; link = record old.link { room = room_left old.link.room (write_count old) } })) sh in subst Q (some_same e) h.writes) x

  takes_walk : (pieces : List (List ℕ)) (note : Note) (new : Option Held) → can_read old.conn ≡ true → TakesNext setup old pieces note new → P note new sh
  takes_walk [] note new can x =
      let Q : Note × Option Held → Type 0 = λ d. P d.0 d.1 sh in
      subst Q (some_same x.is) (h.ends x.inside x.ends can)
  takes_walk (first ∷ others) said new can x =
      let took : Note = note.Took old.conn.number (length (take most_read first)) in
      let link : Link = record old.link { pieces = behind (drop most_read first) others } in
      subst (λ m. P m new sh) (sym x.note_is) (subst (λ o. P took o sh) (sym x.new_is) (h.reads first x.conn link x.took))

  read_walk : (b : Bool) (answer : Answer) (note : Note) (new : Option Held) (after : Shared) → can_read old.conn ≡ true → ReadNext b setup old sh answer note new after → P note new after
  read_walk true answer note new after can x = h.link_fails (record old.link { read_fails = false }) answer note new after x
  read_walk false answer note new after can x = subst (λ s. P note new s) (sym x.2) (takes_walk old.link.pieces note new can x.1)

  fails_walk : (p : Port) (o : Option Tunnel) (answer : Answer) (note : Note) (new : Option Held) (after : Shared) → tunnel_of old.conn p.tunnel ≡ o → may_wait (want_of old.conn) ≡ true
      → ActNext (receive_failed old p o) sh answer note new after → P note new after
  fails_walk p None answer note new after is can x = h.acts answer note new after x
  fails_walk p (Some t) answer note new after is can x = h.port_fails p t answer note new after is can x

  arrives_walk : (p : Port) (arrived : List (List ℕ)) (answer : Answer) (note : Note) (new : Option Held) (after : Shared) → port_of old.ports p.tunnel ≡ Some p → p.arrived ≡ arrived
      → OwnNext sh answer note new after (received_from old p arrived) → P note new after
  arrives_walk p [] answer note new after has is x = let e = x.is in absurd cc
  arrives_walk p (datagram ∷ others) answer note new after has is x =
      with_own answer note new after (received old.conn p datagram) (with_conn (record old { ports = at_port p.tunnel port_received old.ports })) (λ d e. h.receives p datagram others d has is e) x

  port_walk : (b : Bool) (p : Port) (answer : Answer) (note : Note) (new : Option Held) (after : Shared) → port_of old.ports p.tunnel ≡ Some p → may_wait (want_of old.conn) ≡ true
      → PortNext b old p sh answer note new after → P note new after
  port_walk true p answer note new after has can x = fails_walk p (tunnel_of old.conn p.tunnel) answer note new after refl can x
  port_walk false p answer note new after has can x = arrives_walk p p.arrived answer note new after has refl x

  receive_walk : (tunnel : ℕ) (o : Option Port) (answer : Answer) (note : Note) (new : Option Held) (after : Shared) → port_of old.ports tunnel ≡ o → may_wait (want_of old.conn) ≡ true
      → ReceiveNext o old sh answer note new after → P note new after
  receive_walk tunnel None answer note new after has can x = absurd x
  receive_walk tunnel (Some p) answer note new after has can x =
      let same : p.tunnel ≡ tunnel = eqb-true p.tunnel tunnel (found_passes (λ (q : Port). q.tunnel == tunnel) old.ports p has) in
      port_walk p.receive_fails p answer note new after (subst (λ k. port_of old.ports k ≡ Some p) (sym same) has) can x

  pub try_walk : (try : Try) (answer : Answer) (note : Note) (new : Option Held) (after : Shared) → try_of old ≡ Some try → TryNext setup old sh try answer note new after → P note new after
  try_walk Act answer note new after tries x = h.acts answer note new after x
  try_walk Frame answer note new after tries x = with_own answer note new after (framed old.conn) (with_conn old) (λ d e. h.frames d e) x
  try_walk Write answer note new after tries x = write_walk old.link.write_fails answer note new after x
  try_walk Read answer note new after tries x =
      read_walk old.link.read_fails answer note new after (left_true (can_read old.conn) (can_take old.link) (found_passes (can_try old) (tries_of old) Read tries)) x
  try_walk (Receive tunnel) answer note new after tries x =
      receive_walk tunnel (port_of old.ports tunnel) answer note new after refl
      (waits_so old.ports (want_of old.conn) (passed_act (can_do old.ports (want_of old.conn)) _ tunnel tries)) x
