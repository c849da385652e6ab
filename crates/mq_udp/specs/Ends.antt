-- The exit status of each outcome.
use Rattle.std.specs.Prelude.{ℕ}
use Rattle.mq_udp.specs.declared.outcome.Outcome.{Outcome}
use Rattle.mq_udp.specs.declared.outcome.Outcome.TheVariants.{Done, ReadFault, WriteFault, BadInput, OutsideFault, NoMemory, Early, Refused, BadPeer}

abbrev pub code_of : Outcome → ℕ
code_of Done = 0
code_of ReadFault = 3
code_of WriteFault = 4
code_of BadInput = 5
code_of OutsideFault = 6
code_of NoMemory = 7
code_of Early = 8
code_of Refused = 9
code_of BadPeer = 10
