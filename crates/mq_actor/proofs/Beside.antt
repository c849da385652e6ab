-- What a connection's frames, writes, reads and receives leave of its number, its actor, its tunnels' shapes and the next tunnel.
use Rattle.std.proofs.Common.{◌≡◌, ℕ, ◌+◌, cond, Bool, true, false, List, [], ◌∷◌, ◌++◌, drop, take, length, nat_le, Option, Some, None, refl, sym, ap, ◌∙◌, subst}
use Rattle.std.specs.Prelude.{option_and_then, Contains}
use Rattle.std.proofs.lemmas.List.Elements.{All-contains_itself}
use Rattle.mq_capsule.specs.Writing.{capsule_text, datagram}
use Rattle.mq_talk.specs.declared.note.From.{From}
use Rattle.mq_talk.specs.declared.note.Note.{Note}
use Rattle.mq_talk.specs.declared.note.Note.TheVariants as note
use Rattle.mq_talk.specs.declared.place.Cause.TheVariants as cause
use Rattle.mq_machine.specs.declared.setup.Setup.{Setup}
use Rattle.mq_machine.specs.Putting.{Putting, putting}
use Rattle.mq_machine.specs.Settle.{settle}
use Rattle.mq_machine.specs.State.{Conn, Tunnel, Waiting, Packet, Front, Head, OverHttp1, OverHttp2}
use Rattle.mq_machine.specs.Done.{Done, with_waiting}
use Rattle.mq_machine.specs.Steps.{framed, framed_by, framed_front, framing, frame_size, next_framed, set_waiting, settled_note, whole_note, finished}
use Rattle.mq_machine.specs.Steps.{finish_by, wrote, queued}
use Rattle.mq_machine.specs.Reading.{TookNext}
use Rattle.mq_actor.specs.Goes.{shapes_of}
use Rattle.mq_actor.proofs.Searches.{Same, settle_same, Each, each_at, each_settled}
use Rattle.mq_actor.proofs.Shapes.{set_shapes, waits_shapes, next_all}

-- ---- frames

-- One of its tunnels was framed: the next is sought behind it.
pub record Framed (c t : Conn) : Type 0 where
  pub tunnel : Tunnel
  pub turn : next_framed c ≡ Some tunnel
  pub number : t.number ≡ c.number
  pub actor : t.actor ≡ c.actor
  pub shapes : shapes_of t.tunnels ≡ shapes_of c.tunnels
  pub next : t.next_tunnel ≡ tunnel.id + 1

framing_leaves : (c : Conn) (u : Tunnel) (put : Putting) (ts : List Tunnel) → next_framed c ≡ Some u → shapes_of ts ≡ shapes_of c.tunnels
    → Framed c (record (putting c put) { tunnels = ts; next_tunnel = u.id + 1 })
framing_leaves c u put ts turn shapes = record { tunnel = u; turn = turn; number = refl; actor = refl; shapes = shapes; next = refl }

framed_by_leaves : (c : Conn) (u : Tunnel) (w : Waiting) (ws : List Waiting) (count : ℕ) → next_framed c ≡ Some u → Framed c (framed_by c u w ws count).1
framed_by_leaves c u w ws count turn = by_whole (nat_le (length w.capsule) (w.framed + count)) where
  put : Putting
  put = framing c.front u.stream (take count (drop w.framed w.capsule))

  left : List Waiting
  left = record w { framed = w.framed + count } ∷ ws

  by_whole : (b : Bool) → Framed c (cond {A = Note × Conn} b
      (whole_note u w w.what, record (putting c put) { tunnels = set_waiting u.stream ws c.tunnels; next_tunnel = u.id + 1 })
      (note.Part u.id count, record (putting c put) { tunnels = set_waiting u.stream left c.tunnels; next_tunnel = u.id + 1 })).1
  by_whole true = framing_leaves c u put (set_waiting u.stream ws c.tunnels) turn (set_shapes u.stream ws c.tunnels)
  by_whole false = framing_leaves c u put (set_waiting u.stream left c.tunnels) turn (set_shapes u.stream left c.tunnels)

front_leaves : (c : Conn) (u : Tunnel) (ws : List Waiting) → next_framed c ≡ Some u → Each (Framed c) (framed_front c u ws)
front_leaves c u [] turn = tt
front_leaves c u (w ∷ ws) turn = framed_by_leaves c u w ws (frame_size c.front u.stream (length (drop w.framed w.capsule))) turn

turn_leaves : (c : Conn) (o : Option Tunnel) → next_framed c ≡ o → Each (Framed c) (option_and_then (λ (u : Tunnel). framed_front c u u.waiting) o)
turn_leaves c None turn = tt
turn_leaves c (Some u) turn = front_leaves c u u.waiting turn

settle_framed : (c x : Conn) → Framed c x → Framed c (settle x)
settle_framed c x f =
    let same = settle_same x in
    record {
      tunnel = f.tunnel;
      turn = f.turn;
      number = same.number ∙ f.number;
      actor = same.actor ∙ f.actor;
      shapes = ap shapes_of same.tunnels ∙ f.shapes;
      next = same.next ∙ f.next;
    }

-- a frame
pub framed_leaves : (c t : Conn) (n : Note) → framed c ≡ Some (n, t) → Framed c t
framed_leaves c t n is =
    let o : Done = option_and_then (λ (u : Tunnel). framed_front c u u.waiting) (next_framed c) in
    each_at (Framed c) (framed c) n t (each_settled (Framed c) o (settle_framed c) (turn_leaves c (next_framed c) refl)) is

-- the tunnel that was framed is one of its tunnels
pub framed_has : (c t : Conn) (f : Framed c t) → Contains c.tunnels f.tunnel
framed_has c t f = next_all (λ (u : Tunnel). Contains c.tunnels u) c f.tunnel (All-contains_itself c.tunnels) f.turn

-- ---- writes and reads

same_settled : (c x : Conn) → Same c x → Same c (settle x)
same_settled c x first =
    let same = settle_same x in
    record { number = same.number ∙ first.number; actor = same.actor ∙ first.actor; tunnels = same.tunnels ∙ first.tunnels; next = same.next ∙ first.next }

-- a write
pub wrote_leaves : (c : Conn) (count : ℕ) → Same c (wrote c count).1
wrote_leaves c count = same_settled c (record c { given = c.given + count }) (record { number = refl; actor = refl; tunnels = refl; next = refl })

finish_leaves : (c : Conn) (f : Front) (inside : Bool) → Same c (finish_by (record c { is_finished = true }) f inside)
finish_leaves c (Head []) inside = record { number = refl; actor = refl; tunnels = refl; next = refl }
finish_leaves c (Head (b ∷ bytes)) inside = record { number = refl; actor = refl; tunnels = refl; next = refl }
finish_leaves c (OverHttp2 h) inside = record { number = refl; actor = refl; tunnels = refl; next = refl }
finish_leaves c OverHttp1 inside = record { number = refl; actor = refl; tunnels = refl; next = refl }

-- the end of its link
pub finished_leaves : (c : Conn) (inside : Bool) → Same c (finished c inside).1
finished_leaves c inside = same_settled c (finish_by (record c { is_finished = true }) c.front inside) (finish_leaves c c.front inside)

-- a piece that is read
pub took_leaves : (setup : Setup) (s t : Conn) (bytes : List ℕ) → TookNext setup s bytes t → Same s t
took_leaves setup s t bytes took =
    let x : Conn = record s { front = took.front; streams = took.streams; due = took.acts; out = s.out ++ took.text } in
    let P : Conn → Type 0 = λ y. Same s y in
    subst P (sym took.new_is) (same_settled s x (record { number = refl; actor = refl; tunnels = refl; next = refl }))

-- ---- packets that come

-- the tunnels keep their shapes
pub record Shaped (c t : Conn) : Type 0 where
  pub number : t.number ≡ c.number
  pub actor : t.actor ≡ c.actor
  pub shapes : shapes_of t.tunnels ≡ shapes_of c.tunnels
  pub next : t.next_tunnel ≡ c.next_tunnel

pub shaped_settled : (c x : Conn) → Shaped c x → Shaped c (settle x)
shaped_settled c x first =
    let same = settle_same x in
    record {
      number =
          same.number ∙ first.number;
      actor = same.actor ∙ first.actor;
      shapes = ap shapes_of same.tunnels ∙ first.shapes;
      next = same.next ∙ first.next;
    }

-- a packet comes to a tunnel
pub queued_leaves : (c : Conn) (t : Tunnel) (from : From) (k : ℕ) (packet : List ℕ) → Shaped c (settled_note (queued c t from k packet)).1
queued_leaves c t from k packet = shaped_settled c (queued c t from k packet).1 (by_room _) where
  by_room : (b : Bool) → Shaped c (cond {A = Note × Conn} b (note.Dropped from k cause.QueueFull, c)
      (note.Queued from k t.id, with_waiting t.id (record { what = Packet from k packet; capsule = capsule_text (datagram packet); framed = 0 }) c)).1
  by_room true = record { number = refl; actor = refl; shapes = refl; next = refl }
  by_room false = record { number = refl; actor = refl; shapes = waits_shapes t.id _ c.tunnels; next = refl }
