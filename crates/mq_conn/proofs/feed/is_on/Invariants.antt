use Rattle.std.proofs.Common.{◌≡◌, ◌==◌, drop}
use Rattle.std.specs.Prelude.{find}
use Rattle.mq_machine.specs.State as machine
use Rattle.mq_conn.specs.Conns.{tunnels_of}
use Rattle.mq_conn.proofs.feed.is_on.Given as goal

abbrev pub invariant-loop-tunnel : goal.invariant-loop-tunnel
invariant-loop-tunnel l =
    find (λ (t : machine.Tunnel). t.stream == l.stream) (tunnels_of l.tunnels) ≡ find (λ (t : machine.Tunnel). t.stream == l.stream) (tunnels_of (drop l.tunnel-index l.tunnels))
