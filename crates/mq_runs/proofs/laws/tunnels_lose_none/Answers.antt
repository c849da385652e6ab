use Rattle.mq_runs.proofs.Lasts.{tunnel_lasts}
use Rattle.mq_runs.proofs.laws.tunnels_lose_none.Goals as goal

pub returns : goal.returns
returns c = λ plan moments last number worker conn held tunnel t run works has is.
    tunnel_lasts tunnel c.is_within_limits.ensures c.stays_lawful.ensures c.is_readable.ensures c.is_read_once.ensures plan moments last number worker conn held t run works has is
