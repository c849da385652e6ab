use Rattle.std.proofs.Common.{◌≡◌, ◌≤◌, ◌+◌, ◌*◌, ◌-◌}
use Rattle.mq_addr.specs.Packet.{walk}
use Rattle.mq_iphdr.proofs.extensions.walk.Given as goal

-- from here the walk comes to what the whole walk does, and the headers so far have at most 2,048 bytes each
abbrev pub invariant-loop : goal.invariant-loop
invariant-loop l =
    (walk (8 - l.counter) l.view l.rest ≡ walk 8 l.fn.view l.fn.bytes) × (l.view.header ≤ 40 + 2048 * l.counter)
