-- Which act closes a tunnel.
use Rattle.std.specs.Option.{is_some}
use Rattle.std.specs.Prelude.{◌≡◌, ◌≢◌, ℕ, ◌<◌, Bool, true, List, [], ◌∷◌, ◌++◌, Option, Some, None, Result, Ok, Err, vec_len, vec_capacity}
use Rattle.mq_addr.specs.declared.range.Range.{Range}
use Rattle.mq_talk.specs.declared.note.Note.{Note}
use Rattle.mq_talk.specs.declared.note.Why.{Why}
use Rattle.mq_talk.specs.declared.note.Why.TheVariants as why
use Rattle.mq_wire.specs.declared.NoMemory.{NoMemory}
use Rattle.mq_machine.specs.declared.act.Act.{Act}
use Rattle.mq_machine.specs.declared.act.Act.TheVariants as act
use Rattle.mq_machine.specs.declared.act.StreamAct.{StreamAct}
use Rattle.mq_machine.specs.declared.act.StreamAct.TheVariants as stream
use Rattle.mq_machine.specs.declared.act.Due.{Due}
use Rattle.mq_machine.specs.declared.act.Due.TheVariants as due
use Rattle.mq_machine.specs.Done.{closed, closing as puts_closing, is_begun, opened}
use Rattle.mq_machine.specs.Lawful.{IsLoose}
use Rattle.mq_machine.specs.Putting.{putting}
use Rattle.mq_machine.specs.Settle.{settle}
use Rattle.mq_machine.specs.State as machine
use Rattle.mq_machine.specs.State.{Waiting, tunnel_on}
use Rattle.mq_conn.specs.declared.answer.Closing.{Closing}
use Rattle.mq_conn.specs.declared.open.Opening.{Opening}
use Rattle.mq_conn.specs.declared.conn.Conn.{Conn}
use Rattle.mq_conn.specs.declared.conn.First.{First}
use Rattle.mq_conn.specs.declared.conn.First.TheVariants as first
use Rattle.mq_conn.specs.Conns.{IsSpare, Stands, behind, tunnels_of}

abbrev pub closes_first : First → Option Closing
closes_first (first.Open id goal) = None
closes_first (first.Close id reason) = Some (record { stream = id; why = reason })
closes_first (first.Push id n to packet) = None

abbrev pub closes_stream : ℕ → StreamAct → Option Closing
closes_stream id (stream.Close reason) = Some (record { stream = id; why = reason })
closes_stream id (stream.Payload n payload) = None
closes_stream id (stream.Packet n packet flow) = None
closes_stream id (stream.Push n to packet) = None
closes_stream id (stream.Drop n cause) = None
closes_stream id (stream.Assign asked) = Some (record { stream = id; why = why.Full })
closes_stream id (stream.Advertise ranges) = Some (record { stream = id; why = why.Full })

abbrev pub closes_act : Act → Option Closing
closes_act (act.OfStream id a) = closes_stream id a
closes_act (act.Bind id goal) = None
closes_act (act.Open id goal) = None
closes_act (act.Refuse id status rule) = None
closes_act (act.Reset id code) = None

abbrev pub closes_due : Due → Option Closing
closes_due (due.Do a) = closes_act a
closes_due (due.Spend id size) = None
closes_due (due.Fault code) = None

abbrev pub closes_dues : List Due → Option Closing
closes_dues [] = None
closes_dues (d ∷ dues) = closes_due d

-- which tunnel is to close now, as the first act says
abbrev pub closing : Option First → List Due → Option Closing
closing (Some first) dues = closes_first first
closing None dues = closes_dues dues

-- ---- what calls promise, which only the crate's own functions cite

-- the tunnel of this stream closed, where there is one; that of an ending connection closes with it
abbrev pub ClosesAs : Conn → Conn → machine.Conn → ℕ → Why → Option Note → Type 0
ClosesAs old new s id reason None = tunnel_on s id ≡ None
ClosesAs old new s id reason (Some note) = (t : machine.Tunnel) × (tunnel_on s id ≡ Some t) × (note ≡ (closed s t reason).0) × Stands new (closed s t reason).1

abbrev pub ClosesOn : Conn → Conn → ℕ → Why → Option Note → Type 0
ClosesOn old new id reason result =
    (s : machine.Conn) → Stands old s → old.first ≡ None → (s.ending ≢ None → reason ≡ why.Conn) → ClosesAs old new s id reason result

-- what its stream gets was put
abbrev pub ClosesFront : Conn → Conn → ℕ → Bool → Why → Type 0
ClosesFront old new id begun reason =
    (s : machine.Conn) (t : machine.Tunnel) → Stands old s → t.stream ≡ id → is_begun t.waiting ≡ begun → (s.ending ≢ None → reason ≡ why.Conn)
    → Stands new (putting s (puts_closing s.front t reason))

-- and the act ends
abbrev pub ClosesSo : Conn → Conn → ℕ → Why → Note → Type 0
ClosesSo old new id reason note =
    (s : machine.Conn) (t : machine.Tunnel) → Stands old s → old.first ≡ None → (s.ending ≢ None → reason ≡ why.Conn) → tunnel_on s id ≡ Some t
    → (note ≡ (closed s t reason).0) × (IsLoose (closed s t reason).1 → Stands new (settle (closed s t reason).1))

-- ---- which tunnel opens

abbrev pub opens_act : Act → Option Opening
opens_act (act.Open id goal) = Some (record { stream = id; goal = goal })
opens_act (act.Bind id goal) = None
opens_act (act.Refuse id status rule) = None
opens_act (act.Reset id code) = None
opens_act (act.OfStream id a) = None

abbrev pub opens_due : Due → Option Opening
opens_due (due.Do a) = opens_act a
opens_due (due.Spend id size) = None
opens_due (due.Fault code) = None

-- which tunnel is to open now, as the first act says
abbrev pub opening : List Due → Option Opening
opening [] = None
opening (d ∷ dues) = opens_due d

-- that was taken, where one is
abbrev pub TakesOpen : Conn → Conn → Option Opening → Type 0
TakesOpen old new None = opening (behind old.first old.due) ≡ None
TakesOpen old new (Some o) = (behind old.first old.due ≡ due.Do (act.Open o.stream o.goal) ∷ new.due) × (new ≡ record old { first = None; due = new.due })

-- its number, and what waits in it
abbrev pub opened_tunnel : ℕ → Opening → List Waiting → machine.Tunnel
opened_tunnel id o waiting = record { id = id; stream = o.stream; goal = o.goal; waiting = waiting }

-- A tunnel opened, with its routes, or memory was refused for what it gets; then it is live all the same, where there was room for
-- it, and nothing waits in it.
abbrev pub OpensOn : Conn → Conn → ℕ → Opening → List Range → Result Note NoMemory → Type 0
OpensOn old new id o routes (Ok note) =
    (s : machine.Conn) → Stands old s → old.first ≡ None → s.ending ≡ None → is_some old.spare ≡ true → vec_len old.tunnels < vec_capacity old.tunnels
    → (note ≡ (opened s id o.stream o.goal routes).0) × Stands new (opened s id o.stream o.goal routes).1
OpensOn old new id o routes (Err fault) =
    IsSpare old.spare → is_some old.spare ≡ true → vec_len old.tunnels < vec_capacity old.tunnels
    → (new ≡ record old { front = new.front; first = new.first; due = new.due; ending = new.ending; spare = new.spare; pump = new.pump; tunnels = new.tunnels }) × IsSpare new.spare
    × (tunnels_of new.tunnels.items ≡ tunnels_of old.tunnels.items ++ opened_tunnel id o [] ∷ [])
