use Rattle.mq_addr.specs.Addr.{IsAddrText}
use Rattle.mq_addr.proofs.addr.parse_addr.Goals as goal
use Rattle.mq_addr.proofs.AddrTexts.{std_addr}

pub returns-in-Ok-V4 : goal.returns-in-Ok-V4
unfolding IsAddrText
returns-in-Ok-V4 c = (c.in-Ok-V4.ip, rw c.in-Ok-V4.field-0-is at c.in-Ok-V4.ensures, c.to_bits.ensures)

pub returns-in-Ok-V6 : goal.returns-in-Ok-V6
unfolding IsAddrText
returns-in-Ok-V6 c = (c.in-Ok-V6.ip, rw c.in-Ok-V6.field-0-is at c.in-Ok-V6.ensures, c.to_bits-in-Ok-V6.ensures)

pub returns-in-Err : goal.returns-in-Err
returns-in-Err c = λ a h. let s = std_addr c.args.text.now a h in c.in-Err.ensures s.0 s.1
