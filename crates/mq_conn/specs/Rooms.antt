-- What calls promise that take memory for the next tunnel.
use Rattle.std.specs.Prelude.{◌≡◌, ◌<◌, ℕ, true, List, [], ◌∷◌, ◌++◌, vec_len, vec_capacity, Some, None, Result, Ok, Err}
use Rattle.std.specs.Option.{is_some}
use Rattle.mq_addr.specs.declared.kind.Kind.{Kind}
use Rattle.mq_front.specs.declared.front.Front.{Front}
use Rattle.mq_front.specs.Fronts.{HasPut, IsFront, Reads}
use Rattle.mq_wire.specs.declared.NoMemory.{NoMemory}
use Rattle.mq_machine.specs.declared.setup.Setup.{Setup}
use Rattle.mq_machine.specs.Done.{success}
use Rattle.mq_machine.specs.State as machine
use Rattle.mq_machine.specs.State.{Stream, Waiting}
use Rattle.mq_conn.specs.declared.conn.Conn.{Conn}
use Rattle.mq_conn.specs.declared.open.Opening.{Opening}
use Rattle.mq_conn.specs.Conns.{HasRoom, IsSpare, tunnels_of}

-- The tunnels are the same, for which there may be more room.
pub record KeepsTunnels (old new : Conn) : Type 0 where
  pub is : new ≡ record old { spare = new.spare; tunnels = new.tunnels }
  pub items : new.tunnels.items ≡ old.tunnels.items
  pub spare_is : IsSpare old.spare → IsSpare new.spare

-- there is room for one more
pub record HasMade (c : Conn) : Type 0 where
  pub spare : is_some c.spare ≡ true
  pub place : vec_len c.tunnels < vec_capacity c.tunnels

abbrev pub MakesRoom : Conn → Conn → Result (Unit {0}) NoMemory → Type 0
MakesRoom old new (Ok done) = KeepsTunnels old new × HasMade new
MakesRoom old new (Err fault) = KeepsTunnels old new

-- the same, where a tunnel is to open by what is due
abbrev pub Prepares : Conn → Conn → Result (Unit {0}) NoMemory → Type 0
Prepares old new (Ok done) = KeepsTunnels old new × HasRoom new.spare (vec_len new.tunnels) (vec_capacity new.tunnels) new.due
Prepares old new (Err fault) = KeepsTunnels old new

-- a tunnel is live in the room that was taken for it, and nothing waits in it
pub record Places (old new : Conn) (id : ℕ) (o : Opening) : Type 0 where
  pub is : new ≡ record old { spare = None; tunnels = new.tunnels }
  pub items : (waiting : List Waiting) → old.spare ≡ Some waiting → new.tunnels.items ≡ old.tunnels.items ++ record { id = id; stream = o.stream; goal = o.goal; waiting = waiting } ∷ []

abbrev pub PlacesTunnel : Conn → Conn → ℕ → Opening → Result (Unit {0}) NoMemory → Type 0
PlacesTunnel old new id o (Ok done) = Places old new id o
PlacesTunnel old new id o (Err fault) = is_some old.spare ≡ true → vec_len old.tunnels < vec_capacity old.tunnels → ⊥

-- the success of a request is put
pub record Grants (old new : Conn) (stream : ℕ) (kind : Kind) : Type 0 where
  pub is : new ≡ record old { front = new.front }
  pub f : Front
  pub g : Front
  pub was : old.front ≡ Some f
  pub became : new.front ≡ Some g
  pub puts : (x : machine.Front) (streams : List Stream) (owed : List ℕ) → IsFront f x streams owed → HasPut g (success x stream kind) streams owed

abbrev pub GrantsTo : Conn → Conn → ℕ → Kind → Result (Unit {0}) NoMemory → Type 0
GrantsTo old new stream kind (Ok done) = Grants old new stream kind
GrantsTo old new stream kind (Err fault) = new ≡ record old { front = new.front }

-- the bytes of one read, before the end of the act
pub record Read (old new : Conn) (setup : Setup) (piece : List ℕ) : Type 0 where
  pub f : Front
  pub g : Front
  pub was : old.front ≡ Some f
  pub is : new ≡ record old { front = Some g; due = new.due }
  pub reads : Reads setup (tunnels_of old.tunnels.items) piece old.due new.due f g

abbrev pub ReadsPiece : Conn → Conn → Setup → List ℕ → Result (Unit {0}) NoMemory → Type 0
ReadsPiece old new setup piece (Ok done) = Read old new setup piece
ReadsPiece old new setup piece (Err fault) = new ≡ record old { front = new.front; due = new.due }
