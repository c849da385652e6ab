use Rattle.std.proofs.Common.{◌≡◌, take}
use Rattle.std.specs.List.{flat_map}
use Rattle.mq_book.specs.declared.tunnel.Tunnel.{Tunnel}
use Rattle.mq_talk.specs.Book.{blocks}
use Rattle.mq_book.proofs.ledger.all_taken.Given as goal

abbrev pub invariant-loop-tunnel : goal.invariant-loop-tunnel
invariant-loop-tunnel l = l.taken.items ≡ flat_map (λ (t : Tunnel). blocks t.held) (take l.tunnel-index l.tunnels)
