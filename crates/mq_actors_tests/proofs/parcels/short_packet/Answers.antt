use Rattle.mq_actors_tests.proofs.Packets.{short_packet_is}
use Rattle.mq_actors_tests.proofs.parcels.short_packet.Goals as goal

pub returns : goal.returns
returns c = short_packet_is _ c.in_ok-from_slice.ensures.items
