use Rattle.std.proofs.Common.{refl, sym, ap, ◌∙◌}
use Rattle.mq_streams.specs.History.{Finished}
use Rattle.mq_streams.specs.declared.stream.Stream.{Stream}
use Rattle.mq_streams.proofs.Live.{live_is_found}
use Rattle.mq_streams.proofs.Events.{finished_row, quiet_connection}
use Rattle.mq_streams.proofs.Steps.{after_put, found_row}
use Rattle.mq_streams.proofs.streams.Streams.ended.Goals as goal

pub returns-in-Some : goal.returns-in-Some
returns-in-Some c = λ h is lives.
    let table = c.args.self.now.table in
    let here = c.in-Some.ensures in
    let row = found_row h _ _ _ table.rows.items is c.in-Some.at here.0 c.row.result c.row.ensures c.args.id here.1 in
    let done = c.after_end.ensures in
    after_put h _ _ _ _ (record { is = is; rise = table.rising; upto = table.begun }) (Finished c.args.id) (record { highest_is = refl; initial_is = refl; live_is = refl })
    _ c.put.ensures.highest _ _ c.after_end.result
    (record {
      at = c.in-Some.at;
      id = c.args.id;
      within = here.0;
      here = here.1;
      new_id = done.id ∙ ap (λ (row : Stream). row.id) (sym (c.row.ensures c.row.result)) ∙ here.1 c.row.result;
      rows_are = c.put.ensures.rows;
      of = refl;
      row = finished_row h c.args.id c.row.result row c.after_end.result done.ended done.receiving done.balance;
      connection = quiet_connection h _ is.connection_is _ (Finished c.args.id) refl refl refl refl refl refl;
      came = is.came_first;
      keeps = tt;
    })

pub returns-in_default : goal.returns-in_default
returns-in_default c = λ h is lives. absurd (live_is_found h _ _ _ _ is c.args.id c.in_default.ensures lives)
