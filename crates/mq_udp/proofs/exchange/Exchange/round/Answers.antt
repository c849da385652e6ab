use Rattle.std.proofs.lemmas.Result.{err_from_is_err_and}
use Rattle.mq_udp.proofs.Ending.{quiet_counts}
use Rattle.mq_udp.specs.declared.exchange.Round.{Round}
use Rattle.mq_udp.proofs.exchange.Exchange.round.Goals as goal

pub returns-in_err-write-clause-counts : goal.returns-in_err-write-clause-counts
returns-in_err-write-clause-counts g c =
    let p = err_from_is_err_and c.from_residual.result c.from_residual.ensures.1 in
    rw (p.1, p.2) (quiet_counts Round Round _ c.in_err-write.field-0.0 c.in_err-write.ensures.quiet)

pub returns-in_err-send_next-clause-counts : goal.returns-in_err-send_next-clause-counts
returns-in_err-send_next-clause-counts g c =
    let p = err_from_is_err_and c.from_residual-in_err-send_next.result c.from_residual-in_err-send_next.ensures.1 in
    rw (p.1, p.2) (quiet_counts Round Round _ c.in_err-send_next.field-0.0 c.in_err-send_next.ensures.quiet)
