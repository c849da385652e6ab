use Rattle.std.proofs.Common.{refl}
use Rattle.mq_streams.specs.History.{Dropped}
use Rattle.mq_streams.proofs.Live.{live_is_found}
use Rattle.mq_streams.proofs.Events.{quiet_connection}
use Rattle.mq_streams.proofs.Begins.{after_drop}
use Rattle.mq_streams.proofs.streams.Streams.drop_stream.Goals as goal

pub returns-in-Some : goal.returns-in-Some
returns-in-Some c = λ h is lives.
    let table = c.args.self.now.table in
    let here = c.in-Some.ensures in
    after_drop h _ _ _ _ (record { is = is; rise = table.rising; upto = table.begun }) c.args.id c.in-Some.at here.0 here.1
    _ c.remove.ensures.highest _ c.remove.ensures.rows (quiet_connection h _ is.connection_is _ (Dropped c.args.id) refl refl refl refl refl refl)

pub returns-in_default : goal.returns-in_default
returns-in_default c = λ h is lives. absurd (live_is_found h _ _ _ _ is c.args.id c.in_default.ensures lives)
