use Rattle.std.proofs.Common.{arith, ℕ, sym, ap, ◌∙◌, List}
use Rattle.mq_addr.specs.Packet.{ones_sum_from}
use Rattle.mq_iphdr.proofs.Echoes.{pseudo_summed}
use Rattle.mq_iphdr.proofs.host.pseudo_sum.Goals as goal

pub returns : goal.returns
returns c = grind (arith, c.ones_sum_from-2.ensures, c.ones_sum_from-sum-2.ensures, c.ones_sum_from-sum.ensures, c.ones_sum_from.ensures, c.to_be_bytes.ensures, c.split_at.ensures.back, c.split_at-2.ensures.front, c.split_at-2.ensures.back, pseudo_summed c.args.header.now c.args.size c.requires)
