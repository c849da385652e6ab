-- The words of other layers as the machine needs them: packets and control values.
use Rattle.std.specs.Prelude.{ℕ, List, Option, Some, None, Result, Ok, Err, nat_lt, if◌then◌else◌}
use Rattle.mq_addr.specs.declared.entry.Asked.{Asked}
use Rattle.mq_addr.specs.declared.entry.Given.{Given}
use Rattle.mq_addr.specs.declared.packet.HeaderFault.{HeaderFault}
use Rattle.mq_addr.specs.declared.packet.IpView.{IpView}
use Rattle.mq_addr.specs.declared.range.Range.{Range}
use Rattle.mq_addr.specs.Packet.{header_of}
use Rattle.mq_iphdr.specs.Onward.{onward_of}
use Rattle.mq_ipcaps.specs.declared.fault.CapsFault.{CapsFault}
use Rattle.mq_ipcaps.specs.Reading as reading
use Rattle.mq_ipcaps.specs.Writing as writing

abbrev pub onward_by : List ℕ → Result IpView HeaderFault → Option (List ℕ)
onward_by packet (Ok view) = if nat_lt 1 view.hop then Some (onward_of packet) else None
onward_by packet (Err fault) = None

-- the packet with its hop limit lowered by one, where it is above one
abbrev pub onward : List ℕ → Option (List ℕ)
onward packet = onward_by packet (header_of packet)

abbrev pub unless_faulty : {A : Type 0} → Result A CapsFault → Option A
unless_faulty (Ok value) = Some value
unless_faulty (Err fault) = None

-- the values of control capsules, where they are well-formed (RFC 9484, section 4.7)
abbrev pub assigned_of : List ℕ → Option (List Given)
assigned_of value = unless_faulty (reading.assign_of value)

abbrev pub asked_of : List ℕ → Option (List Asked)
asked_of value = unless_faulty (reading.request_of value)

abbrev pub ranges_of : List ℕ → Option (List Range)
ranges_of value = unless_faulty (reading.routes_of value)

-- and how they are written
abbrev pub assign_value : List Given → List ℕ
assign_value given = writing.assign_text given

abbrev pub routes_value : List Range → List ℕ
routes_value ranges = writing.routes_text ranges
