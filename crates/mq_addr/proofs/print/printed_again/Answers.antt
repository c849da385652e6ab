use Rattle.mq_addr.proofs.print.printed_again.Goals as goal
use Rattle.mq_addr.proofs.Printing.{addr_again, prefix_again}

pub returns : goal.returns
returns c = record { addr = addr_again; prefix = prefix_again }
