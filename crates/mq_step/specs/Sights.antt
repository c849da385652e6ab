-- What the outside tells of a connection's ports; and the ports that hold this, and where nothing is told what was found.
use Rattle.std.specs.Prelude.{◌≡◌, ◌||◌, ℕ, ◌≤◌, true, List, All, Option, Some, None}
use Rattle.slab.specs.Slab.{Slab, get}
use Rattle.mq_outside.specs.Counts.{LinkCounts, PortCounts}
use Rattle.mq_outside.specs.Ports.{PortHolds, empty_port}
use Rattle.mq_machine.specs.State.{Link, new_link, Port}
use Rattle.mq_machine.specs.Acting.{Outside, Binder, PortFailed, holding}
use Rattle.mq_held.specs.declared.held.PortSeat.{PortSeat}

-- the outside tells of the ports of these seats what the table has
abbrev pub SeesPort : {Q : Type 0} → (Q → Option PortHolds) → (Q → PortCounts) → Slab Q → Outside → PortSeat → Type 0
SeesPort {Q} holds counts table o seat =
    (port : Q) → get table seat.key ≡ Some port → (o.port seat.tunnel ≡ holds port) × (o.port_counts seat.tunnel ≡ counts port)

abbrev pub SeesPorts : {Q : Type 0} → (Q → Option PortHolds) → (Q → PortCounts) → Slab Q → Outside → List PortSeat → Type 0
SeesPorts holds counts table o seats = All (SeesPort holds counts table o) seats

-- and what binds ports
pub record SeesTable {Q : Type 0} (holds : Q → Option PortHolds) (counts : Q → PortCounts) (binds : Binder) (table : Slab Q) (seats : List PortSeat) (o : Outside) : Type 0 where
  pub ports : SeesPorts holds counts table o seats
  pub binds_are : o.binds ≡ binds

-- what was found where nothing is told
pub record Found : Type 0 where
  pub link : Link
  pub port : (tunnel : ℕ) → PortHolds

abbrev pub port_if : Option PortHolds → PortHolds → PortHolds
port_if None found = found
port_if (Some told) found = told

abbrev pub filled_port : Outside → Found → Port → Port
filled_port o found p = holding (port_if (o.port p.tunnel) (found.port p.tunnel)) p

-- a link that takes nothing and gives nothing, and a port that does so
abbrev pub idle_link : Link
idle_link = record new_link { room = Some 0 }

abbrev pub idle_port : PortHolds
idle_port = record empty_port { send_waits = true }

abbrev pub idle : Found
idle = record { link = idle_link; port = λ tunnel. idle_port }

-- where nothing is told, a port fails only where it failed in this step
abbrev pub PortFits : Outside → Outside → Port → Type 0
PortFits old new p = old.port p.tunnel ≡ None → p.send_fails || p.receive_fails ≡ true → PortFailed old new p.tunnel

abbrev pub PortsFit : Outside → Outside → List Port → Type 0
PortsFit old new ports = All (PortFits old new) ports

-- ---- counts go on

pub record LinkGrows (old new : LinkCounts) : Type 0 where
  pub read_waits : old.read_waits ≤ new.read_waits
  pub write_waits : old.write_waits ≤ new.write_waits
  pub faults : old.faults ≤ new.faults

pub record PortGrows (old new : PortCounts) : Type 0 where
  pub send_waits : old.send_waits ≤ new.send_waits
  pub receive_waits : old.receive_waits ≤ new.receive_waits
  pub faults : old.faults ≤ new.faults
