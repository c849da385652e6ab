-- What hands out links in memory, and an outside of such objects.
use Rattle.std.specs.Prelude.{◌≡◌, ℕ, List, [], ◌∷◌, map, Option, Some, None}
use Rattle.std.specs.List.{All}
use Rattle.mq_outside.specs.Counts.{no_port_counts}
use Rattle.mq_outside.specs.Outsides.{Coming, IsFresh, IsUnbound, OutsideFaults}
use Rattle.mq_mem.specs.Calls.{Calls}
use Rattle.mq_mem.specs.Links.{Link, told, past_of}
use Rattle.mq_mem.specs.Ports.{Ports, Queue, ports_past}

-- nothing was read of a link, and nothing written to it
abbrev pub IsNew : Link → Type 0
IsNew l = IsFresh (past_of l) l.counts

abbrev pub AreNew : List Link → Type 0
AreNew links = All IsNew links

-- no port was bound, and none handed back
abbrev pub AreUnbound : List Ports → Type 0
AreUnbound ports = All (λ (p : Ports). (p.faults ≡ 0) × IsUnbound (ports_past p.stock)) ports

-- nothing was sent into the networks, and nothing received
abbrev pub AreUnused : List Queue → Type 0
AreUnused nets = All (λ (net : Queue). net.counts ≡ no_port_counts) nets

abbrev pub no_faults : OutsideFaults
no_faults = record { accepting = 0; dialling = 0; links = 0 }

pub record Acceptor : Type 0 where
  -- the links that are there, in order
  pub coming : List Link
  -- how many it has still to hand out
  pub left : ℕ
  pub calls : Calls
  pub faults : ℕ

-- what these links hold, each where it tells it
abbrev pub coming_of : List Link → Coming
coming_of links = Some (map told links)

-- what an outside has: an acceptor that wasn't asked for, the links to be dialled, and its counts
pub record Around : Type 0 where
  pub acceptor : Option Acceptor
  pub dialled : List Link
  pub calls : Calls
  pub faults : OutsideFaults

-- the links of an acceptor, where there is one
abbrev pub accepted_of : Option Acceptor → Coming
accepted_of None = None
accepted_of (Some acceptor) = coming_of acceptor.coming
