-- The packets that go through inboxes: those whose headers are taken (RFC 791, section 3.1; RFC 8200, section 3).
use Rattle.std.specs.Prelude.{ℕ, List, Option, Some, None, Result, Ok, Err}
use Rattle.mq_addr.specs.declared.packet.HeaderFault.{HeaderFault}
use Rattle.mq_addr.specs.declared.packet.IpView.{IpView}
use Rattle.mq_addr.specs.declared.range.Flow.{Flow}
use Rattle.mq_addr.specs.Packet.{header_of}

abbrev pub flow_in : Result IpView HeaderFault → Option Flow
flow_in (Ok view) = Some view.flow
flow_in (Err fault) = None

-- source, target and protocol of a well-formed IP packet
abbrev pub flow_of : List ℕ → Option Flow
flow_of packet = flow_in (header_of packet)
