use Rattle.mq_output.proofs.Shown.{prints_flushed}
use Rattle.mq_udp.proofs.Ending.{from_none, hears_cut}
use Rattle.mq_udp.proofs.exchange.hear.Goals as goal

pub returns-in-Err-flush-clause-takes : goal.returns-in-Err-flush-clause-takes
returns-in-Err-flush-clause-takes g c =
    let h = c.in-Ok.ensures.prints in
    let all = prints_flushed _ _ _ _ h.0 h.1 c.in-Err-flush.ensures.prints in
    (all.written, all.takes, hears_cut c.args.events.items c.args.left.now h.0 all.written _ c.in-Ok.heard c.hear_all.new.left h.2 (from_none _ _ h.0 all.written c.requires all.is))
