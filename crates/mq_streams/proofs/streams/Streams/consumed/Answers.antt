use Rattle.std.proofs.Common.{refl, sym, ap, ◌∙◌}
use Rattle.mq_streams.specs.History.{Consumed}
use Rattle.mq_streams.specs.declared.stream.Stream.{Stream}
use Rattle.mq_streams.proofs.Consumption.{connection_has_place, row_has_place, consumed_elsewhere}
use Rattle.mq_streams.proofs.Events.{consumed_row, consumed_connection}
use Rattle.mq_streams.proofs.Steps.{after_put, found_row}
use Rattle.mq_streams.proofs.streams.Streams.consumed.Goals as goal

pub returns-in-Some : goal.returns-in-Some
returns-in-Some c = λ h is within.
    let table = c.args.self.now.table in
    let here = c.in-Some.ensures in
    let old = c.row-stream.result in
    let row = found_row h _ _ _ table.rows.items is c.in-Some.at here.0 old c.row-stream.ensures c.args.id here.1 in
    let done = c.with_receiving.ensures in
    let inner = c.after_consuming-receiving.ensures in
    let outer = c.after_consuming-self.ensures in
    let some = inner.consumed (row_has_place h _ _ _ _ is c.args.id c.args.length within old row) in
    let all = outer.consumed (connection_has_place h _ _ _ _ is c.args.id c.args.length within) in
    after_put h _ _ _ _ (record { is = is; rise = table.rising; upto = table.begun }) (Consumed c.args.id c.args.length) (record { highest_is = refl; initial_is = refl; live_is = refl })
    _ c.put.ensures.highest _ _ c.with_receiving.result
    (record {
      at = c.in-Some.at;
      id = c.args.id;
      within = here.0;
      here = here.1;
      new_id = done.id ∙ ap (λ (row : Stream). row.id) (sym (c.row-stream.ensures old)) ∙ here.1 old;
      rows_are = c.put.ensures.rows;
      of = refl;
      row = consumed_row h c.args.id old row _ c.args.length done.ended (rw done.receiving inner.room) (rw done.receiving some) done.balance;
      connection = consumed_connection h _ is.connection_is _ c.args.id c.args.length outer.room all refl;
      came = (within, is.came_first);
      keeps = tt;
    })

pub returns-in_default : goal.returns-in_default
returns-in_default c = λ h is within.
    let table = c.args.self.now.table in
    let outer = c.after_consuming-self.ensures in
    let all = outer.consumed (connection_has_place h _ _ _ _ is c.args.id c.args.length within) in
    consumed_elsewhere h _ _ _ _ is c.args.id c.args.length within (record { is = is; rise = table.rising; upto = table.begun }) c.in_default.ensures _
    (consumed_connection h _ is.connection_is _ c.args.id c.args.length outer.room all refl)
