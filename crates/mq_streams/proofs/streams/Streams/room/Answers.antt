use Rattle.mq_streams.proofs.Live.{live_is_found}
use Rattle.mq_streams.proofs.Steps.{found_row}
use Rattle.mq_streams.proofs.Rooms.{room_is}
use Rattle.mq_streams.proofs.streams.Streams.room.Goals as goal

pub returns-in-Some : goal.returns-in-Some
returns-in-Some c = λ h is lives.
    let here = c.in-Some.ensures in
    let row = found_row h _ _ _ c.args.self.now.table.rows.items is c.in-Some.at here.0 c.row.result c.row.ensures c.args.id here.1 in
    room_is h _ _ _ _ is c.args.id c.row.result row _ c.room.ensures.exact

pub returns-in-None : goal.returns-in-None
returns-in-None c = λ h is lives. absurd (live_is_found h _ _ _ _ is c.args.id c.in-None.ensures lives)
