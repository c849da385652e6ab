-- What the outside tells of a connection, with its link; and the connection that has this, and where nothing is told what was
-- found.
use Rattle.std.specs.Prelude.{◌≡◌, ◌||◌, true, map, All, Option, Some, None}
use Rattle.slab.specs.Slab.{Slab}
use Rattle.mq_outside.specs.Counts.{LinkCounts, PortCounts}
use Rattle.mq_outside.specs.Ports.{PortHolds}
use Rattle.mq_talk.specs.Mails.{IsTold}
use Rattle.mq_machine.specs.State.{Link, Port, Held}
use Rattle.mq_machine.specs.Acting.{Outside, PortsTold, Rose, Binder}
use Rattle.mq_held.specs.declared.held.Held.{Held as HeldBy}
use Rattle.mq_step.specs.Sights.{SeesTable, Found, filled_port, PortsFit, LinkGrows, PortGrows}

-- the outside tells of a connection what its link tells
pub record SeesLink {L : Type 0} (holds : L → Option Link) (counts : L → LinkCounts) (h : HeldBy L) (o : Outside) : Type 0 where
  pub link_is : o.link h.number ≡ holds h.link
  pub counts_are : o.link_counts h.number ≡ counts h.link

-- the outside tells all that of a connection
pub record Sees {L Q : Type 0} (link : L → Option Link) (link_counts : L → LinkCounts) (port : Q → Option PortHolds) (port_counts : Q → PortCounts)
    (binds : Binder) (table : Slab Q) (h : HeldBy L) (o : Outside) : Type 0 where
  pub of_link : SeesLink link link_counts h o
  pub of_table : SeesTable port port_counts binds table h.ports.items o

abbrev pub link_if : Option Link → Link → Link
link_if None found = found
link_if (Some told) found = told

-- the connection with what is told, or else found
abbrev pub filled : Outside → Found → Held → Held
filled o found h = record h {
  link = link_if (o.link h.conn.number) found.link;
  ports = map (filled_port o found) h.ports;
}

-- the connection has what is told
pub record IsAsTold (o : Outside) (h : Held) : Type 0 where
  pub link : IsTold (o.link h.conn.number) h.link
  pub ports : PortsTold o h.ports

-- and the link of the connection, too
pub record FaultsFit (old new : Outside) (h : Held) : Type 0 where
  pub link : old.link h.conn.number ≡ None → h.link.read_fails || h.link.write_fails ≡ true → Rose (old.link_counts h.conn.number).faults (new.link_counts h.conn.number).faults
  pub ports : PortsFit old new h.ports

-- no count of the connection's link and ports fell
pub record Grows (old new : Outside) (h : Held) : Type 0 where
  pub link : LinkGrows (old.link_counts h.conn.number) (new.link_counts h.conn.number)
  pub ports : All (λ (p : Port). PortGrows (old.port_counts p.tunnel) (new.port_counts p.tunnel)) h.ports

-- what is told of the connection's link and ports stays, and no port was handed back that failed
pub record StaysTold (old new : Outside) (h : Held) : Type 0 where
  pub link : new.link h.conn.number ≡ old.link h.conn.number
  pub ports : All (λ (p : Port). new.port p.tunnel ≡ old.port p.tunnel) h.ports
  pub binds : new.binds ≡ old.binds
