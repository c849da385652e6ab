use Rattle.std.proofs.Common.{◌≡◌, ◌==◌, drop}
use Rattle.std.specs.Prelude.{find}
use Rattle.mq_machine.specs.State as machine
use Rattle.mq_conn.specs.Conns.{tunnels_of}
use Rattle.mq_conn.proofs.conn.Conn.on.Given as goal

-- that of this stream is none of those so far
abbrev pub invariant-loop-tunnel : goal.invariant-loop-tunnel
invariant-loop-tunnel l =
    find (λ (t : machine.Tunnel). t.stream == l.stream) (tunnels_of l.tunnel-items)
    ≡ find (λ (t : machine.Tunnel). t.stream == l.stream) (tunnels_of (drop l.tunnel-index l.tunnel-items))
