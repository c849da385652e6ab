use Rattle.std.proofs.Common.{◌≡◌, ◌^◌, ◌-◌, take}
use Rattle.std.specs.Prelude.{min, sum_by}
use Rattle.mq_conn.specs.declared.conn.Tunnel.{Tunnel}
use Rattle.mq_conn.specs.Queues.{size_of}
use Rattle.mq_conn.proofs.frame.waiting_in.Given as goal

abbrev pub invariant-loop-tunnel : goal.invariant-loop-tunnel
invariant-loop-tunnel l = l.sum ≡ min (sum_by (λ (t : Tunnel). size_of t.waiting) (take l.tunnel-index l.tunnels)) (2 ^ 64 - 1)
