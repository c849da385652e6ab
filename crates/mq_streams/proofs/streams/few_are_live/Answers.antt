use Rattle.std.proofs.Common.{arith}
use Rattle.mq_streams.proofs.Live.{live_count}
use Rattle.mq_streams.proofs.streams.few_are_live.Goals as goal

pub returns : goal.returns
returns c = λ streams h is.
    let many = live_count h streams.table.rows.items is.live_are in
    let few = streams.table.few in
    omega arith
