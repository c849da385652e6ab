use Rattle.std.proofs.Common.{ap, ◌∙◌, List, ℕ}
use Rattle.std.specs.List.{swap}
use Rattle.mq_iphdr.proofs.Echoes.{ports_swapped}
use Rattle.mq_iphdr.proofs.host.exchange_ports.Goals as goal

pub returns : goal.returns
returns c = c.swap-2.ensures.after ∙ ap (λ (d : List ℕ). swap d 1 3) c.swap.ensures.after ∙ ports_swapped c.args.datagram.now c.requires
