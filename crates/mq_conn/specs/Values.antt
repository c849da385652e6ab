-- What calls promise that tell a tunnel for IP packets what the book answered. Only the crate's own functions cite these words.
use Rattle.std.specs.Prelude.{◌≡◌, ℕ, List, [], ◌∷◌, ◌++◌, slice_get, slice_set, vec_len, vec_capacity, Some, Result, Ok, Err}
use Rattle.mq_addr.specs.declared.entry.Given.{Given}
use Rattle.mq_talk.specs.declared.note.Note.{Note}
use Rattle.mq_talk.specs.declared.note.Note.TheVariants as note
use Rattle.mq_wire.specs.declared.NoMemory.{NoMemory}
use Rattle.mq_machine.specs.declared.act.StreamAct.{StreamAct}
use Rattle.mq_machine.specs.declared.act.StreamAct.TheVariants as stream
use Rattle.mq_machine.specs.Done.{value, with_waiting}
use Rattle.mq_machine.specs.State as machine
use Rattle.mq_machine.specs.State.{tunnel_on}
use Rattle.mq_machine.specs.Words.{assign_value}
use Rattle.mq_conn.specs.declared.conn.Conn.{Conn}
use Rattle.mq_conn.specs.declared.conn.Tunnel.{Tunnel}
use Rattle.mq_conn.specs.Conns.{Leaves, Stands}
use Rattle.mq_conn.specs.Queues.{a_value}

abbrev pub IsAssign : StreamAct → Type 0
IsAssign (stream.Assign asked) = Unit {0}
IsAssign a = ⊥

abbrev pub IsAdvertise : StreamAct → Type 0
IsAdvertise (stream.Advertise ranges) = Unit {0}
IsAdvertise a = ⊥

-- a control value waits last in the tunnel at this place
pub record Waits (old new : Conn) (place : ℕ) (t : Tunnel) (capsule : List ℕ) : Type 0 where
  pub is : new ≡ record old { tunnels = new.tunnels }
  pub items : new.tunnels.items ≡ slice_set old.tunnels.items place (record t { waiting = t.waiting ++ a_value capsule ∷ [] })
  pub len : vec_len new.tunnels ≡ vec_len old.tunnels
  pub capacity : vec_capacity new.tunnels ≡ vec_capacity old.tunnels

abbrev pub WaitsAt : Conn → Conn → ℕ → List ℕ → Result (Unit {0}) NoMemory → Type 0
WaitsAt old new place capsule (Ok done) = (t : Tunnel) × (slice_get old.tunnels.items place ≡ Some t) × Waits old new place t capsule
WaitsAt old new place capsule (Err fault) = Leaves old new

-- what a tunnel holds and is denied waits in it
abbrev pub AssignsOn : Conn → Conn → ℕ → List Given → ℕ → Result Note NoMemory → Type 0
AssignsOn old new id list at (Ok said) =
    (s : machine.Conn) → Stands old s → (t : machine.Tunnel) × (tunnel_on s id ≡ Some t) × (said ≡ note.Assigned t.id at list)
    × Stands new (with_waiting t.id (value 1 (assign_value list)) s)
AssignsOn old new id list at (Err fault) = Leaves old new
