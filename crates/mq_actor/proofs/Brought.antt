-- What a packet that came through an inbox leaves of the connection that has its tunnel.
use Rattle.std.proofs.Common.{◌≡◌, inl, inr, ℕ, Bool, true, false, cond, List, [], ◌∷◌, ◌++◌, nat_le, Option, Some, None, refl, sym, ap, subst, ◌∙◌}
use Rattle.std.specs.Prelude.{flat_map}
use Rattle.slab.specs.Slab.{Slab}
use Rattle.mq_addr.specs.declared.kind.Kind.{Kind}
use Rattle.mq_addr.specs.declared.kind.Kind.TheVariants as kind
use Rattle.mq_capsule.specs.Writing.{capsule_text, datagram}
use Rattle.mq_talk.specs.declared.book.Call.TheVariants as call
use Rattle.mq_talk.specs.declared.note.End.{End}
use Rattle.mq_talk.specs.declared.note.From.{From}
use Rattle.mq_talk.specs.declared.note.From.TheVariants as source
use Rattle.mq_talk.specs.declared.note.Note.{Note}
use Rattle.mq_talk.specs.declared.note.Note.TheVariants as note
use Rattle.mq_talk.specs.declared.place.Cause.TheVariants as cause
use Rattle.mq_machine.specs.declared.act.Act.TheVariants as act
use Rattle.mq_machine.specs.declared.act.Due.{Due}
use Rattle.mq_machine.specs.declared.act.Due.TheVariants as due
use Rattle.mq_machine.specs.declared.act.StreamAct.{StreamAct}
use Rattle.mq_machine.specs.declared.act.StreamAct.TheVariants as stream
use Rattle.mq_machine.specs.Laws.{BeginsWithAct}
use Rattle.mq_machine.specs.Settle.{settle, settled, passing, gives_up}
use Rattle.mq_machine.specs.State.{Conn, Tunnel, Packet, Port, Held, owed, kind_of, tunnel_on, values}
use Rattle.mq_machine.specs.Done.{with_waiting}
use Rattle.mq_machine.specs.Steps.{passed_on, queued, settled_note}
use Rattle.mq_machine.specs.Want.{Want, Nothing, Say, Bind, Ask, Judge, Push, Send, Over, want_of, want_by, due_want, tunnel_want, ending_want, over_want, most_values}
use Rattle.mq_machine.specs.Words.{onward}
use Rattle.mq_machine.proofs.Settling.{settled_rests}
use Rattle.mq_conn.specs.declared.conn.Conn.{Conn as Core}
use Rattle.mq_conn.specs.Conns.{IsConn}
use Rattle.mq_conn.specs.Frames.{comes, comes_in}
use Rattle.mq_held.specs.declared.held.Held.{Held as HeldBy}
use Rattle.mq_held.specs.declared.held.PortSeat.{PortSeat}
use Rattle.mq_step.specs.Holds.{AreServed, IsBound, IsHeld, numbers_of as ids_of, port_number}
use Rattle.mq_actor.specs.Goes.{Shape, shapes_of}
use Rattle.mq_actor.proofs.Shapes.{waits_shapes}

-- ---- what changes

-- At most how far the bytes were read, what was put and what waits in tunnels: in HTTP/2 a WINDOW_UPDATE may be put.
pub record Brought (s t : Conn) : Type 0 where
  pub rest : t ≡ record s { front = t.front; out = t.out; tunnels = t.tunnels }
  pub shapes : shapes_of t.tunnels ≡ shapes_of s.tunnels

pub brought_none : (s : Conn) → Brought s s
brought_none s = record { rest = refl; shapes = refl }

-- no mark is in front of what is due
no_mark : (ds : List Due) (x : Conn) → BeginsWithAct ds → passing ds x ≡ record x { due = ds }
no_mark [] x begins = refl
no_mark (due.Do a ∷ rest) x begins = refl
no_mark (due.Spend id size ∷ rest) x begins = absurd begins
no_mark (due.Fault code ∷ rest) x begins = absurd begins

settle_rests : (x : Conn) → BeginsWithAct x.due → settle x ≡ record x { front = (settle x).front; out = (settle x).out }
settle_rests x begins =
    let P : Conn → Type 0 = λ y. y ≡ record x { front = y.front; out = y.out } in
    subst P (sym (ap settled (no_mark x.due x begins))) (settled_rests x)

brought_settled : (s x : Conn) → BeginsWithAct s.due → Brought s x → Brought s (settle x)
brought_settled s x begins b =
    let y : Conn = settle x in
    let same : x.due ≡ s.due = ap (λ (z : Conn). z.due) b.rest in
    let e : y ≡ record x { front = y.front; out = y.out } = settle_rests x (subst BeginsWithAct (sym same) begins) in
    let ts : y.tunnels ≡ x.tunnels = ap (λ (z : Conn). z.tunnels) e in
    record {
      rest = e ∙ ap (λ (z : Conn). record z { front = y.front; out = y.out }) b.rest
          ∙ ap (λ (us : List Tunnel). record s { front = y.front; out = y.out; tunnels = us }) (sym ts);
      shapes = ap shapes_of ts ∙ b.shapes;
    }

queued_brings : (s : Conn) (t : Tunnel) (from : From) (n : ℕ) (packet : List ℕ) → BeginsWithAct s.due → Brought s (settled_note (queued s t from n packet)).1
queued_brings s t from n packet begins = brought_settled s (queued s t from n packet).1 begins (by_room _) where
  by_room : (b : Bool) → Brought s (cond {A = Note × Conn} b (note.Dropped from n cause.QueueFull, s)
      (note.Queued from n t.id, with_waiting t.id (record { what = Packet from n packet; capsule = capsule_text (datagram packet); framed = 0 }) s)).1
  by_room true = brought_none s
  by_room false = record { rest = refl; shapes = waits_shapes t.id _ s.tunnels }

passed_brings : (s : Conn) (t : Tunnel) (from : From) (n : ℕ) (packet : Option (List ℕ)) → BeginsWithAct s.due → Brought s (passed_on s t from n packet).1
passed_brings s t from n None begins = brought_none s
passed_brings s t from n (Some packet) begins = queued_brings s t from n packet begins

in_brings : (s : Conn) (k : Kind) (t : Tunnel) (from : From) (n : ℕ) (packet : List ℕ) → BeginsWithAct s.due → Brought s (comes_in s k t from n packet).1
in_brings s kind.Udp t from n packet begins = brought_none s
in_brings s kind.Ip t from n packet begins = passed_brings s t from n (onward packet) begins

-- a packet that came to a tunnel
pub comes_brings : (s : Conn) (t : Tunnel) (from : From) (n : ℕ) (packet : List ℕ) → BeginsWithAct s.due → Brought s (comes s t from n packet).1
comes_brings s t (source.Port port) n packet begins = queued_brings s t (source.Port port) n packet begins
comes_brings s t (source.Tunnel origin) n packet begins = in_brings s (kind_of t.goal) t (source.Tunnel origin) n packet begins
comes_brings s t source.Net n packet begins = in_brings s (kind_of t.goal) t source.Net n packet begins

-- ---- the port that is bound

-- a want that opens nothing
abbrev OpensNone : Want → Type 0
OpensNone (Ask (call.Open conn id actor goal)) = ⊥
OpensNone (Ask (call.Assign tunnel asked)) = Unit {0}
OpensNone (Ask (call.Advertise tunnel ranges)) = Unit {0}
OpensNone (Ask (call.Close tunnel)) = Unit {0}
OpensNone Nothing = Unit {0}
OpensNone Say = Unit {0}
OpensNone (Bind id goal) = Unit {0}
OpensNone (Judge tunnel n flow) = Unit {0}
OpensNone (Push parcel) = Unit {0}
OpensNone (Send tunnel n payload) = Unit {0}
OpensNone (Over why) = Unit {0}

module _ {Q : Type 0} (most : Q → ℕ) (table : Slab Q) (seats : List PortSeat) (bound : Option ℕ) where
  bound_none : (w : Want) → OpensNone w → IsBound most table seats w bound → bound ≡ None
  bound_none (Ask (call.Open conn id actor goal)) none is = absurd none
  bound_none (Ask (call.Assign tunnel asked)) none is = is
  bound_none (Ask (call.Advertise tunnel ranges)) none is = is
  bound_none (Ask (call.Close tunnel)) none is = is
  bound_none Nothing none is = is
  bound_none Say none is = is
  bound_none (Bind id goal) none is = is
  bound_none (Judge tunnel n flow) none is = is
  bound_none (Push parcel) none is = is
  bound_none (Send tunnel n payload) none is = is
  bound_none (Over why) none is = is

  none_bound : (w : Want) → OpensNone w → bound ≡ None → IsBound most table seats w bound
  none_bound (Ask (call.Open conn id actor goal)) none is = absurd none
  none_bound (Ask (call.Assign tunnel asked)) none is = is
  none_bound (Ask (call.Advertise tunnel ranges)) none is = is
  none_bound (Ask (call.Close tunnel)) none is = is
  none_bound Nothing none is = is
  none_bound Say none is = is
  none_bound (Bind id goal) none is = is
  none_bound (Judge tunnel n flow) none is = is
  none_bound (Push parcel) none is = is
  none_bound (Send tunnel n payload) none is = is
  none_bound (Over why) none is = is

  tunnel_opens : (o : Option Tunnel) (a : StreamAct) → OpensNone (tunnel_want o a)
  tunnel_opens None a = tt
  tunnel_opens (Some t) (stream.Payload n payload) = tt
  tunnel_opens (Some t) (stream.Packet n packet flow) = tt
  tunnel_opens (Some t) (stream.Push n to packet) = tt
  tunnel_opens (Some t) (stream.Drop n cause) = tt
  tunnel_opens (Some t) (stream.Assign asked) = by_full (nat_le most_values (values t)) where
    by_full : (b : Bool) → OpensNone (cond b (Ask (call.Close t.id)) (Ask (call.Assign t.id asked)))
    by_full true = tt
    by_full false = tt
  tunnel_opens (Some t) (stream.Advertise ranges) = tt
  tunnel_opens (Some t) (stream.Close why) = tt

  over_opens : (why : End) (bytes : List ℕ) → OpensNone (over_want why bytes)
  over_opens why [] = tt
  over_opens why (b ∷ bytes) = by_case (gives_up why) where
    by_case : (g : Bool) → OpensNone (cond g (Over why) Nothing)
    by_case true = tt
    by_case false = tt

  ending_opens : (s : Conn) (why : End) (ts : List Tunnel) → OpensNone (ending_want s why ts)
  ending_opens s why [] = over_opens why (owed s)
  ending_opens s why (t ∷ ts) = tt

  due_still : (s t : Conn) (ds : List Due) → t.number ≡ s.number → t.actor ≡ s.actor → IsBound most table seats (due_want s ds) bound
      → IsBound most table seats (due_want t ds) bound
  due_still s t [] number actor is = is
  due_still s t (due.Do (act.Bind id goal) ∷ rest) number actor is = is
  due_still s t (due.Do (act.Open id goal) ∷ rest) number actor is =
      let P : Want → Type 0 = λ w. IsBound most table seats w bound in
      subst P (ap (λ (k : ℕ). Ask (call.Open k id s.actor goal)) (sym number) ∙ ap (λ (k : ℕ). Ask (call.Open t.number id k goal)) (sym actor)) is
  due_still s t (due.Do (act.Refuse id status rule) ∷ rest) number actor is = is
  due_still s t (due.Do (act.Reset id code) ∷ rest) number actor is = is
  due_still s t (due.Do (act.OfStream id a) ∷ rest) number actor is =
      none_bound (tunnel_want (tunnel_on t id) a) (tunnel_opens (tunnel_on t id) a)
      (bound_none (tunnel_want (tunnel_on s id) a) (tunnel_opens (tunnel_on s id) a) is)
  due_still s t (due.Spend id size ∷ rest) number actor is = is
  due_still s t (due.Fault code ∷ rest) number actor is = is

  -- stays the one that is bound, or stays none
  bound_still : (s t : Conn) → Brought s t → IsBound most table seats (want_of s) bound → IsBound most table seats (want_of t) bound
  bound_still s t b is =
      let P : Option End → Type 0 = λ e. IsBound most table seats (want_by t e) bound in
      subst P (sym (ap (λ (z : Conn). z.ending) b.rest)) (by_end s.ending is) where
        by_end : (e : Option End) → IsBound most table seats (want_by s e) bound → IsBound most table seats (want_by t e) bound
        by_end None is_s =
            let D : List Due → Type 0 = λ ds. IsBound most table seats (due_want t ds) bound in
            subst D (sym (ap (λ (z : Conn). z.due) b.rest))
            (due_still s t s.due (ap (λ (z : Conn). z.number) b.rest) (ap (λ (z : Conn). z.actor) b.rest) is_s)
        by_end (Some why) is_s =
            none_bound (ending_want t why t.tunnels) (ending_opens t why t.tunnels)
            (bound_none (ending_want s why s.tunnels) (ending_opens s why s.tunnels) is_s)

-- ---- the connection

-- the numbers of the tunnels for UDP, by their shapes
abbrev ids_in : List Shape → List ℕ
ids_in xs = flat_map (λ (x : Shape). port_number x.goal x.id) xs

ids_shaped : (ts : List Tunnel) → ids_in (shapes_of ts) ≡ ids_of ts
ids_shaped [] = refl
ids_shaped (t ∷ ts) = ap (λ (ids : List ℕ). port_number t.goal t.id ++ ids) (ids_shaped ts)

served_still : (e : Option End) (ts us : List Tunnel) (ports : List Port) → ids_of us ≡ ids_of ts → AreServed e ts ports → AreServed e us ports
served_still None ts us ports same served = served ∙ sym same
served_still (Some why) ts us ports same (inl served) = inl (served ∙ sym same)
served_still (Some why) ts us ports same (inr (last, is)) = inr (last, same ∙ is)

-- it stands for the connection with that core
pub held_brought : {L Q : Type 0} (most : Q → ℕ) (table : Slab Q) (h : HeldBy L) (core : Core) (s : Held) (c : Conn) → IsHeld most table h s → IsConn core c
    → Brought s.conn c → IsHeld most table (record h { conn = core }) (record s { conn = c })
held_brought most table h core s c held conn b =
    let S : Option End → Type 0 = λ e. AreServed e c.tunnels s.ports in
    let ids : ids_of c.tunnels ≡ ids_of s.conn.tunnels =
    sym (ids_shaped c.tunnels) ∙ ap ids_in b.shapes ∙ ids_shaped s.conn.tunnels in
    record {
      conn = conn;
      number = ap (λ (z : Conn). z.number) b.rest ∙ held.number;
      ports = held.ports;
      apart = held.apart;
      served = subst S (sym (ap (λ (z : Conn). z.ending) b.rest)) (served_still s.conn.ending s.conn.tunnels c.tunnels s.ports ids held.served);
      bound = bound_still most table h.ports.items h.bound s.conn c b held.bound;
      room = held.room;
    }
