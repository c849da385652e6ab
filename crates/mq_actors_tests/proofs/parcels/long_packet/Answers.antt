use Rattle.std.proofs.Common.{ap, ◌∙◌, List, ℕ, ◌++◌, arith}
use Rattle.mq_actors_tests.proofs.Packets.{header6, long_packet_is}
use Rattle.mq_actors_tests.proofs.parcels.long_packet.Goals as goal

pub returns : goal.returns
returns c = long_packet_is _ c.in_ok-payload.payload.items
    (c.in_ok-extend_from_slice.ensures.items ∙ ap (λ (l : List ℕ). l ++ c.deref.result.now) c.in_ok-packet.ensures.items ∙ ap (λ (l : List ℕ). header6 255 215 ++ l) c.deref.ensures.value)
    (omega (arith, c.in_ok-payload.ensures.len, c.in_ok-payload.payload.ok))
