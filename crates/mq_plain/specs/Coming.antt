-- What comes to links and ports.
use Rattle.std.specs.Prelude.{ℕ, true, List, [], ◌∷◌, ◌++◌}
use Rattle.mq_machine.specs.State.{Link, Port}
use Rattle.mq_plain.specs.declared.link.LinkEvent.{LinkEvent}
use Rattle.mq_plain.specs.declared.link.LinkEvent.TheVariants as event

abbrev pub changed : LinkEvent → Link → Link
changed event.End l = record l { is_ended = true }
changed (event.Room room) l = record l { room = room }
changed event.FailRead l = record l { read_fails = true }
changed event.FailWrite l = record l { write_fails = true }

abbrev pub with_piece : List ℕ → Link → Link
with_piece bytes l = record l { pieces = l.pieces ++ bytes ∷ [] }

abbrev pub with_datagram : List ℕ → Port → Port
with_datagram bytes p = record p { arrived = p.arrived ++ bytes ∷ [] }

-- its next send fails
abbrev pub send_failing : Port → Port
send_failing p = record p { send_fails = true }
